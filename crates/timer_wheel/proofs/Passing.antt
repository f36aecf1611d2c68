-- A walk along a ring, and how far it has come.
use Rattle.std.proofs.Common.{◌≡◌, ℕ, zero, suc, ◌+◌, ◌≤◌, ◌<◌, ◌≢◌, List, [], ◌∷◌, length, get_or, take, drop, refl, ap, sym, add-one, arith}
use Rattle.std.proofs.Math.Seq.{take-length}
use Rattle.std.proofs.lemmas.Map.Steps.{length-le_from_distinct_below}
use Rattle.timer_wheel.specs.Rings.{Leads, IsRing}

-- after so many slots of a ring
pub record IsAt (after : List ℕ) (head : ℕ) (slots : List ℕ) (passed at : ℕ) : Type 0 where
  pub leads : Leads after head (drop passed slots) at
  pub within : passed ≤ length slots

-- there are no more slots in a ring than there are slots
pub few_slots : (after : List ℕ) (bound head : ℕ) (slots : List ℕ) → IsRing after bound head slots → length slots ≤ bound
few_slots after bound head slots ring = length-le_from_distinct_below slots bound ring.once ring.below

-- where a walk begins
pub begins : (after : List ℕ) (bound head : ℕ) (slots : List ℕ) → IsRing after bound head slots → IsAt after head slots 0 (get_or after head 0)
begins after bound head slots ring = record { leads = ring.leads; within = omega arith }

-- one slot more
pub record IsStep (after : List ℕ) (head : ℕ) (slots : List ℕ) (passed at : ℕ) : Type 0 where
  pub here : at ≡ get_or slots passed 0
  pub more : passed < length slots
  pub next : IsAt after head slots (passed + 1) (get_or after at 0)

leads_next : (after : List ℕ) (head : ℕ) (slots : List ℕ) (passed at : ℕ) → at ≢ head → Leads after head (drop passed slots) at → (at ≡ get_or slots passed 0) × (passed < length slots) × Leads after head (drop (suc passed) slots) (get_or after at 0)
leads_next after head [] zero at ne leads = absurd (ne leads)
leads_next after head [] (suc passed) at ne leads = absurd (ne leads)
leads_next after head (slot ∷ slots) zero at ne leads = (leads.0, omega arith, rw leads.0 leads.2)
leads_next after head (slot ∷ slots) (suc passed) at ne leads =
    let rest = leads_next after head slots passed at ne leads in
    (rest.0, omega (arith, rest.1), rest.2)

pub steps : (after : List ℕ) (head : ℕ) (slots : List ℕ) (passed at : ℕ) → at ≢ head → IsAt after head slots passed at → IsStep after head slots passed at
steps after head slots passed at ne is_at =
    let next = leads_next after head slots passed at ne is_at.leads in
    record {
      here = next.0;
      more = next.1;
      next = record { leads = rw add-one next.2; within = omega (arith, next.1) };
    }

leads_end : (after : List ℕ) (head : ℕ) (slots : List ℕ) (passed : ℕ) → Leads after head (drop passed slots) head → take passed slots ≡ slots
leads_end after head [] zero leads = refl
leads_end after head [] (suc passed) leads = refl
leads_end after head (slot ∷ slots) zero leads = absurd (leads.1 (sym leads.0))
leads_end after head (slot ∷ slots) (suc passed) leads = ap (λ rest. slot ∷ rest) (leads_end after head slots passed leads)

-- back at the head, all slots were passed
pub ends : (after : List ℕ) (head : ℕ) (slots : List ℕ) (passed at : ℕ) → at ≡ head → IsAt after head slots passed at → take passed slots ≡ slots
ends after head slots passed at e is_at = leads_end after head slots passed (rw e at is_at.leads)

-- and so they were after as many steps as there are slots
pub ends_full : (after : List ℕ) (bound head : ℕ) (slots : List ℕ) (at : ℕ) → IsRing after bound head slots → IsAt after head slots bound at → take bound slots ≡ slots
ends_full after bound head slots at ring is_at =
    let few = few_slots after bound head slots ring in
    let same : bound ≡ length slots = omega (arith, is_at.within) in
    rw same (take-length slots)
