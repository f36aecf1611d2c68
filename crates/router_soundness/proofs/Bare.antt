-- A state that knows no LSP is sound, and so is what is left of one where all is lost that messages set up.
use Rattle.std.specs.Prelude.{[]}
use Rattle.std.specs.List.{IsDistinct}
use Rattle.std.proofs.Common.{refl, arith}
use Rattle.lsr_facts.specs.Claims.{rate_of_all, reserved_of}
use Rattle.lsr_facts.specs.declared.facts.Facts.{Facts}
use Rattle.lsr_facts.specs.declared.router.Router.{Router}
use Rattle.abstract_paths.proofs.Primitives as paths
use Rattle.abstract_paths.specs.Restarts.{all_cancelled}
use Rattle.abstract_paths.specs.Soundness.{IsStanding}
use Rattle.abstract_router.specs.Lsps.{lsps_of}
use Rattle.abstract_router.specs.Preempting.{claims_of}
use Rattle.abstract_router.specs.Soundness.{IsSound}
use Rattle.abstract_router.specs.States.{State, bare, emptied}
use Rattle.abstract_router.specs.Upstreams.{upstream_of}
use Rattle.abstract_router.specs.Wanted.{items_of}

-- Where no path is known, and nothing else of LSPs.
pub sound_bare : (r : Router) (facts : Facts) → IsStanding r (record facts { paths = []; sent = [] }) → IsSound r (bare (record facts { paths = []; sent = [] }))
unfolding claims_of reserved_of rate_of_all items_of upstream_of lsps_of IsDistinct
sound_bare r facts is = record {
  paths = is;
  held = record { in_order = tt; each = tt; one_style = λ a b x y at_a at_b. absurd (let e = at_a in cc); within = λ link priority most. omega arith };
  standing = tt;
  repaired = record { in_order = tt; each = tt; apart = tt };
  repairs_standing = tt;
  labels = record { of_lsps = refl; from_first = tt; to_last = tt; apart = tt };
  assigned = record { in_order = tt; held = tt; capable = tt; within = λ number. omega arith; served = tt };
  resting = record { in_order = tt; each = tt; apart = tt };
  sent = refl;
  sent_upstream = refl;
}

-- What is left where all is lost that messages set up.
pub sound_emptied : (r : Router) (s : State) → IsSound r s → IsSound r (emptied s)
sound_emptied r s is = sound_bare r (record s.facts { tunnels = all_cancelled s.facts.tunnels }) (paths.sound_emptied r s.facts is.paths)
