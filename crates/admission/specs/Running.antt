-- Sums that are kept while claims change.
use Rattle.std.specs.Prelude.{◌≡◌, ℕ, ◌+◌, ◌-◌, ◌^◌, ◌==◌, ◌||◌, min, Bool, if◌then◌else◌, List}
use Rattle.std.specs.List.{AllByRecursion}
use Rattle.lsr_facts.specs.declared.key.Key.{Key}
use Rattle.lsr_facts.specs.Claims.{reserved_of}
use Rattle.lsr_facts.specs.declared.claim.Claim.{Claim}
use Rattle.admission.specs.declared.running.LinkSum.{LinkSum}
use Rattle.admission.specs.declared.running.Touched.{Touched}

-- the sum is what these claims reserve on its link at its priority
abbrev pub IsSumAt : List (Key × Claim) → LinkSum → Type 0
IsSumAt claims sum = sum.total ≡ reserved_of sum.link sum.priority claims

-- each of the sums is
abbrev pub AreSums : List (Key × Claim) → List LinkSum → Type 0
AreSums claims sums = AllByRecursion (IsSumAt claims) sums

-- the link is one of those that a change touches
abbrev pub is_touched : Touched → ℕ → Bool
is_touched touched link = (link == touched.before) || (link == touched.after)

-- what is left of a sum without these claims, where its link is touched
abbrev pub less : Touched → List (Key × Claim) → LinkSum → LinkSum
less touched claims sum = record sum {
  total = if is_touched touched sum.link then sum.total - reserved_of sum.link sum.priority claims else sum.total;
}

-- what a sum is with these claims more, where its link is touched
abbrev pub more : Touched → List (Key × Claim) → LinkSum → LinkSum
more touched claims sum = record sum {
  total = if is_touched touched sum.link then min (sum.total + reserved_of sum.link sum.priority claims) (2 ^ 64 - 1) else sum.total;
}

-- a sum that is added up anew
abbrev pub anew : List (Key × Claim) → LinkSum → LinkSum
anew claims sum = record sum { total = reserved_of sum.link sum.priority claims }
