use Rattle.std.proofs.Common.{subst}
use Rattle.abstract_router.specs.Soundness.{IsSound}
use Rattle.router_tables.specs.States.{RouterState}
use Rattle.router_core.proofs.Starting.{sound_stopped}
use Rattle.router_core.proofs.running.Cold.soundness.Goals as goal

pub returns-clause-sound : goal.returns-clause-sound
returns-clause-sound c =
    let t = c.self.inside.tables in
    subst (λ (s : RouterState). IsSound s.router s.state) c.self.view_is (sound_stopped t.router t.state c.self.invariant.no_paths c.soundness.ensures.sound)
