-- When there is a world, and why there is none.
use Rattle.std.specs.Prelude.{◌≡◌, ◌≤◌, ◌<◌, ◌+◌, ◌⊎◌, ℕ, List, length, false, true}
use Rattle.lsr_facts.specs.declared.router.Router.{Router}
use Rattle.abstract_world.specs.Wires.{AreJoined, can_join_at}
use Rattle.abstract_world.specs.declared.joint.Joint.{Joint}
use Rattle.lab_world.specs.declared.fault.WorldFault.{WorldFault}
use Rattle.lab_world.specs.declared.fault.WorldFault.TheVariants as faults

-- the joint of this number can't be put up beside those before it, and each of those can; the first joint has number 1
pub record IsFirstFault (routers : List Router) (joints : List Joint) (number : ℕ) : Type 0 where
  pub place : ℕ
  pub number_is : number ≡ place + 1
  pub there : place < length joints
  pub fault : can_join_at routers joints place ≡ false
  pub before : (other : ℕ) → other < place → can_join_at routers joints other ≡ true

-- a world has 1 to 16 routers
pub record AreFew (routers : List Router) : Type 0 where
  pub some : 1 ≤ length routers
  pub few : length routers ≤ 16

-- there is a world of these routers and joints
pub record CanOpen (routers : List Router) (joints : List Joint) : Type 0 where
  pub few : AreFew routers
  pub joined : AreJoined routers joints

-- Why there is none: there is no router, or there are too many; else the first joint that can't be put up, or there isn't memory
-- enough.
abbrev pub IsFaultOf : List Router → List Joint → WorldFault → Type 0
IsFaultOf routers joints faults.Routers = (length routers ≡ 0) ⊎ (16 < length routers)
IsFaultOf routers joints (faults.Joint number) = AreFew routers × IsFirstFault routers joints number
IsFaultOf routers joints faults.Memory = AreFew routers
