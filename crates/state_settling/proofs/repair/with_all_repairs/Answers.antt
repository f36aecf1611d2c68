-- One LSP more is looked at: its repair is put, if there is to be one.
use Rattle.std.proofs.Common.{ap, sym, ◌∙◌}
use Rattle.std.specs.Option.{option_copied}
use Rattle.lsr_facts.specs.OrderLaws.{key_exact, key_total}
use Rattle.lsr_facts.specs.Orders.{key_cmp}
use Rattle.state_settling.specs.Repairs.{repair_at}
use Rattle.make_before_break.proofs.Asking.{none_asked, place_asked}
use Rattle.state_settling.proofs.repair.with_all_repairs.Goals as goal
use Rattle.state_settling.proofs.repair.with_all_repairs.Goals.{in-Some+in_ok-all, in_default}

pub loop-place-preserved : goal.loop-place-preserved
loop-place-preserved g c =
    let r = g.A.StateView.router c.args.after.now in
    let s = g.A.StateView.state c.args.after.now in
    let resvs = (g.V.StateView.state c.args.before.now).resvs in
    let known = c.loop-place.all in
    elim c.match-resv_at.branch [
      | in-Some+in_ok-all w ↦
          place_asked key_cmp key_total key_exact resvs c.loop-place.place (repair_at r s) c.args.repairs known c.match-resv_at.all w.in-Some.row.now
          (sym c.resv_at.ensures.row ∙ ap option_copied w.in-Some.is) (w.all-is ∙ w.in_ok-all.ensures) c.loop-place.invariant
      | in_default w ↦
          none_asked key_cmp key_total key_exact resvs c.loop-place.place (repair_at r s) c.args.repairs known c.match-resv_at.all
          (sym c.resv_at.ensures.row ∙ ap option_copied w.in_default.is) w.all-is c.loop-place.invariant
    ]
