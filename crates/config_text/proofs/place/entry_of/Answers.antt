-- The document of the text is the one that was searched.
use Rattle.std.proofs.Common.{string_bytes, sym, ap, ◌∙◌, subst}
use Rattle.toml.specs.View.{table_view}
use Rattle.config_text.specs.Cuts.{value_at}
use Rattle.config_text.specs.Places.{BeginsAt, IsFound}
use Rattle.config_text.proofs.Placing.{of_known}
use Rattle.config_text.proofs.place.entry_of.Goals as goal

pub returns-in-Ok-found_text : goal.returns-in-Ok-found_text
returns-in-Ok-found_text c =
    let ms = table_view c.in-Ok.document in
    let f = c.args.fault.now in
    let spot = c.spot_of-spot.result in
    let parsed = c.in-Ok.ensures.ok in
    let begins = of_known c.args.text.now (BeginsAt f c.in_ok-count.count) ms parsed c.in_ok-count.ensures.begins in
    let seen = c.value_at-value.ensures ∙ ap (λ key. value_at spot key ms) c.key_of.ensures in (
      ms,
      parsed,
      (
        c.spot_of-spot.ensures.within,
        subst (λ count. BeginsAt f count ms) (sym c.spot_of-spot.ensures.count) begins,
        subst (λ found. IsFound f found (string_bytes c.in-Ok-found_text.found)) seen c.in-Ok-found_text.ensures,
      ),
    )
