-- One number more is looked at: its tunnel is put where its new LSP is reserved.
use Rattle.std.proofs.Common.{Option, ap, sym, ◌∙◌}
use Rattle.std.specs.FinMap.Entries.{put}
use Rattle.std.specs.Option.{option_copied, option_map_or}
use Rattle.std.specs.Ordering.{nat_cmp}
use Rattle.std.proofs.lemmas.Cmp.{nat_cmp_total}
use Rattle.std.proofs.lemmas.Map.Lookups.{exact_unsigned}
use Rattle.lsr_facts.specs.declared.tunnel.Tunnel.{Tunnel}
use Rattle.make_before_break.specs.Switching.{ready_at}
use Rattle.make_before_break.proofs.Asking.{one_asked}
use Rattle.make_before_break.proofs.takeover.with_ready.Goals as goal
use Rattle.make_before_break.proofs.takeover.with_ready.Goals.{in-Some+in_ok-try_copy+in_ok-set, in_default}

pub loop-row-preserved : goal.loop-row-preserved
loop-row-preserved g c =
    let r = g.A.StateView.router c.args.after.now in
    let s = g.A.StateView.state c.args.after.now in
    let row = c.row-item.result in
    let before = c.loop-row.all in
    let set = λ (ready : Option Tunnel). option_map_or (λ tunnel. put nat_cmp row.0 tunnel before) ready before in
    let asked = one_asked nat_cmp nat_cmp_total exact_unsigned c.args.rows.now c.loop-row.row-index (ready_at r s) c.args.tunnels before c.match-ready_at.all row c.loop-row-test.true c.row-item.is in
    elim c.match-ready_at.branch [
      | in-Some+in_ok-try_copy+in_ok-set w ↦
          asked (w.all-is ∙ w.in_ok-set.ensures.ok ∙ ap (λ tunnel. put nat_cmp row.0 tunnel before) w.in_ok-try_copy.ensures ∙ ap set (sym (ap option_copied w.in-Some.is) ∙ c.ready_at.ensures)) c.loop-row.invariant
      | in_default w ↦
          asked (w.all-is ∙ ap set (sym (ap option_copied w.in_default.is) ∙ c.ready_at.ensures)) c.loop-row.invariant
    ]
