-- What is left where all is lost that messages set up is sound.
use Rattle.lsr_facts.specs.declared.router.Router.{Router}
use Rattle.abstract_paths.proofs.Primitives as paths
use Rattle.abstract_router.specs.Soundness.{IsSound}
use Rattle.abstract_router.specs.States.{State, emptied}
use Rattle.router_soundness.proofs.Bare.{sound_bare}

-- A router that knows no LSP is sound.
pub sound_emptied : (r : Router) (s : State) → IsSound r s → IsSound r (emptied s)
sound_emptied r s is = sound_bare r (emptied s).facts (paths.sound_emptied r s.facts is.paths)
