-- One repair more: its LSP is put among the keys.
use Rattle.std.proofs.Common.{◌<◌, ap, length, subst, sym, ◌∙◌}
use Rattle.std.specs.Option.{option_copied}
use Rattle.label_table.proofs.Bypassing.{none_past, one_more}
use Rattle.label_table.specs.Bypassed.{with_keys}
use Rattle.label_table.proofs.bypassed.with_repaired.Goals as goal
use Rattle.label_table.proofs.bypassed.with_repaired.Goals.{in-Some+in_ok-set, in_default}

pub loop-place-preserved : goal.loop-place-preserved
loop-place-preserved g c =
    let repairs = (g.V.StateView.state c.args.view.now).repairs in
    let place = c.loop-place.place in
    let within : place < length repairs = subst (λ n. place < n) c.repair_count-place-end.ensures.count c.loop-place-test.true in
    elim c.match-repair_at.branch [
      | in-Some+in_ok-set w ↦
          one_more repairs place w.in-Some.repair.now c.loop-place.all c.match-repair_at.all (with_keys repairs c.args.keys)
          (sym c.repair_at.ensures.row ∙ ap option_copied w.in-Some.is) (w.all-is ∙ w.in_ok-set.ensures.ok) c.loop-place.invariant
      | in_default w ↦ absurd (none_past repairs place within (sym c.repair_at.ensures.row ∙ ap option_copied w.in_default.is))
    ]
