use Rattle.std.proofs.Common.{◌≡◌, drop}
use Rattle.std.specs.Prelude.{◌==◌}
use Rattle.std.specs.List.{list_any}
use Rattle.tunnel_commands.proofs.refusals.is_used.Given as goal

-- the repairs from here on answer as all of them do
abbrev pub invariant-loop-place : goal.invariant-loop-place
invariant-loop-place g l =
    let repairs = (g.V.StateView.state l.fn.view).repairs in
    list_any (λ repair. repair.1.bypass == l.number) (drop l.place repairs) ≡ list_any (λ repair. repair.1.bypass == l.number) repairs
