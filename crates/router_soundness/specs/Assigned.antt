-- When nothing is left to be done about the bandwidth that bypasses promise.
use Rattle.std.specs.Prelude.{◌≡◌}
use Rattle.lsr_facts.specs.declared.router.Router.{Router}
use Rattle.abstract_router.specs.Assigning.{assignments_of}
use Rattle.abstract_router.specs.States.{State}

-- The bandwidth of bypasses stands as it is promised: promised anew, it would be the same.
abbrev pub AreStanding : Router → State → Type 0
AreStanding r s = assignments_of r s ≡ s.assignments
