use Rattle.std.proofs.Common.{◌≡◌, ℕ, IfOk, Some, not, nat_le, nat_lt, arith, subst}
use Rattle.std.specs.List.{filter}
use Rattle.std.proofs.lemmas.Bool.Decides.{nat_tests}
use Rattle.lsr_facts.specs.Reservations.{resv_lives_past}
use Rattle.sorted_rows.specs.Rows.{keys_of}
use Rattle.timer_wheel.specs.Due.{has_come}
use Rattle.admission.proofs.resv_state.ResvState.expiring.Goals as goal

-- what has come by a moment doesn't live past it
expired : (moment expiry : ℕ) → nat_le expiry moment ≡ not (nat_lt moment expiry)
expired moment expiry = grind (arith, nat_tests)

pub returns : goal.returns
returns c =
    let moment = c.args.moment in
    let due : filter (λ resv. has_come moment (Some resv.1.expiry)) c.self.inside.rows.rows ≡ filter (λ resv. not (resv_lives_past moment resv.1)) c.args.self.now = λ i. filter (λ resv. expired moment resv.1.expiry i) (c.self.view_is i) in
    subst (λ resvs. IfOk c.come.result (λ keys. keys.items ≡ keys_of resvs)) due c.come.ensures
