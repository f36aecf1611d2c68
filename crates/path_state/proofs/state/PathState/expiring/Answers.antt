use Rattle.std.proofs.Common.{◌≡◌, IfOk, sym, subst}
use Rattle.std.specs.List.{filter}
use Rattle.lsr_facts.specs.Lifetimes.{expires}
use Rattle.sorted_rows.specs.Rows.{keys_of}
use Rattle.timer_wheel.specs.Due.{has_come}
use Rattle.path_state.specs.Expiries.{first_expiry}
use Rattle.path_state.proofs.Expiries.{expires_in_time}
use Rattle.path_state.proofs.state.PathState.expiring.Goals as goal

pub returns : goal.returns
returns c =
    let moment = c.args.moment in
    let due : filter (λ path. has_come moment (first_expiry path.1)) c.self.inside.rows.rows ≡ filter (expires moment) c.args.self.now = λ i. filter (λ path. sym (expires_in_time moment path) i) (c.self.view_is i) in
    subst (λ paths. IfOk c.come.result (λ keys. keys.items ≡ keys_of paths)) due c.come.ensures
