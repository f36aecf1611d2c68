-- The clauses of soundness, one by one.
use Rattle.std.specs.Prelude.{◌≡◌, true}
use Rattle.std.specs.List.{AllByRecursion}
use Rattle.sorted_rows.specs.Rows.{keys_of}
use Rattle.lsr_facts.specs.declared.router.Router.{Router}
use Rattle.label_space.specs.Rests.{AreRestingOf}
use Rattle.abstract_paths.specs.Soundness.{IsStanding}
use Rattle.abstract_router.specs.Repairing.{repair_stands}
use Rattle.abstract_router.specs.Soundness.{AreAssigned, AreHeld, AreLabelled, AreRepaired}
use Rattle.abstract_router.specs.Standing.{stands}
use Rattle.abstract_router.specs.States.{State}
use Rattle.abstract_router.specs.Upstreams.{upstream_of}
use Rattle.abstract_router.specs.Wanted.{items_of}
use Rattle.plain_soundness.specs.declared.clause.Clause.{Clause}
use Rattle.plain_soundness.specs.declared.clause.Clause.TheVariants as clauses

-- the clause holds of a router and its state
abbrev pub Holds : Clause → Router → State → Type 0
Holds clauses.Paths r s = IsStanding r s.facts
Holds clauses.Held r s = AreHeld r s
Holds clauses.Standing r s = AllByRecursion (λ resv. stands s.facts resv ≡ true) s.resvs
Holds clauses.Repaired r s = AreRepaired s
Holds clauses.RepairsStanding r s = AllByRecursion (λ repair. repair_stands r s repair ≡ true) s.repairs
Holds clauses.Labels r s = AreLabelled r s
Holds clauses.Assigned r s = AreAssigned s
Holds clauses.Resting r s = AreRestingOf r.labels s.facts.moment s.labels s.resting
Holds clauses.Sent r s = keys_of s.facts.sent ≡ keys_of (items_of r s)
Holds clauses.SentUpstream r s = keys_of s.sent_upstream ≡ keys_of (upstream_of r s)

-- it doesn't
abbrev pub IsBroken : Clause → Router → State → Type 0
IsBroken clause r s = Holds clause r s → ⊥

-- the clauses about reservations and repairs hold
abbrev pub AreLspsSound : Router → State → Type 0
AreLspsSound r s = Holds clauses.Standing r s × Holds clauses.Held r s × Holds clauses.Repaired r s × Holds clauses.RepairsStanding r s

-- those about labels and the bandwidth of bypasses
abbrev pub AreSharesSound : Router → State → Type 0
AreSharesSound r s = Holds clauses.Labels r s × Holds clauses.Assigned r s × Holds clauses.Resting r s

-- and those about what was sent
abbrev pub AreMomentsSound : Router → State → Type 0
AreMomentsSound r s = Holds clauses.Sent r s × Holds clauses.SentUpstream r s
