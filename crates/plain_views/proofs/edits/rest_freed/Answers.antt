-- One LSP less is left: its label rests where edits name it.
use Rattle.std.proofs.Common.{◌≡◌, ◌+◌, ◌-◌, ◌<◌, [], ap, arith, cond, get_or, length, sym, take, ◌∙◌}
use Rattle.std.proofs.lemmas.List.{get_or_default}
use Rattle.std.specs.FinMap.Entries.{put}
use Rattle.std.specs.Ordering.{nat_cmp}
use Rattle.lsr_facts.specs.declared.key.Key.{Key}
use Rattle.label_space.specs.Rests.{freed_by, with_rest}
use Rattle.plain_views.specs.Editing.{rest_one}
use Rattle.plain_views.proofs.edits.rest_freed.Goals as goal

pub loop-place-preserved-in-Continue-1 : goal.loop-place-preserved-in-Continue-1
loop-place-preserved-in-Continue-1 c =
    let until = c.args.until in
    let edits = c.args.edits.now in
    let rows = c.args.labels.now in
    let before = c.loop-place.resting in
    let at = c.loop-place.place - 1 in
    let none : Key × _ =
    (record { session = record { endpoint = record { octets = [] }; tunnel = 0; extended = record { octets = [] } }; sender = record { sender = record { octets = [] }; lsp = 0 } }, 0) in
    let row = get_or rows at none in
    let within : at < length rows = omega (arith, c.loop-place.invariant.0, c.loop-place-test.true) in
    let more : at + 1 ≡ c.loop-place.place = omega (arith, c.loop-place-test.true) in
    let rests = λ (resting : _). with_rest until (freed_by edits (take at rows)) resting in (
      omega (arith, within),
      ap rests c.in_ok-set.ensures.ok
          ∙ ap (λ named. rests (cond named (put nat_cmp row.1 until before) before)) (sym c.if-contains_key.true ∙ c.contains_key.ensures.found)
          ∙ sym (rest_one until edits rows at row before within (get_or_default rows at none row within))
          ∙ ap (λ count. with_rest until (freed_by edits (take count rows)) before) more
          ∙ c.loop-place.invariant.1,
    )
