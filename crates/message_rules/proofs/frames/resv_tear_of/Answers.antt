-- The tear fits a message, since the Resv is one.
use Rattle.std.proofs.Common.{ap, length, map, sym, ◌∙◌}
use Rattle.std.specs.Prelude.{◌==◌}
use Rattle.message_rules.proofs.Ending.{tear_fits}
use Rattle.message_rules.proofs.frames.resv_tear_of.Goals as goal

pub unwrap-requires : goal.unwrap-requires
unwrap-requires c =
    let is = c.as_slice-descriptors.ensures in
    let fits = tear_fits c.args.resv.now c.in_ok-filters.filters c.requires (ap (λ ds. length ds == 0) (sym is) ∙ sym c.is_empty.ensures ∙ c.if-is_empty.false) (c.in_ok-filters.ensures ∙ ap (map (λ d. d.filter)) is) in
    (rw c.in_ok-new.ensures.ok at c.checked.ensures.room) fits.0 fits.1
