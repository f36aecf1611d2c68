use Rattle.std.proofs.Common.{ap, ◌∙◌}
use Rattle.std.specs.List.{filter}
use Rattle.std.proofs.lemmas.List.{map-id}
use Rattle.lsr_facts.specs.declared.key.Key.{Key}
use Rattle.lsr_facts.specs.Reservations.{expire_resvs, resv_lives_past}
use Rattle.lsr_facts.specs.declared.resv_fact.ResvFact.{ResvFact}
use Rattle.timed_rows.specs.Timed.{TimedRows}
use Rattle.admission.proofs.resv_state.ResvState.expire.Goals as goal

pub returns : goal.returns
unfolding expire_resvs
returns c =
    let lives = λ (resv : Key × ResvFact). resv_lives_past c.args.moment resv.1 in
    ap (λ (t : TimedRows _ _ _). t.rows) c.sweep.ensures ∙ map-id (filter lives c.self.inside.rows.rows) ∙ ap (filter lives) c.self.view_is
