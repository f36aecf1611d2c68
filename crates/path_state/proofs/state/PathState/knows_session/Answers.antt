use Rattle.std.proofs.Common.{ap, ◌∙◌}
use Rattle.std.specs.List.{list_any}
use Rattle.lsr_facts.specs.Claims.{is_same_session}
use Rattle.path_state.proofs.Sessions.{found_where}
use Rattle.path_state.proofs.state.PathState.knows_session.Goals as goal

pub returns : goal.returns
returns c =
    c.is_ok.ensures.value
    ∙ found_where c.args.session.now c.self.inside.rows.rows c.search.result c.rows_are_in_order.ensures.sorted c.search.ensures.bound c.search.ensures.position
    ∙ ap (list_any (λ path. is_same_session c.args.session.now path.0.session)) c.self.view_is
