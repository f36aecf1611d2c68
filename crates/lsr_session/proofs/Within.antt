-- No bypass has more assigned than its capacity.
use Rattle.std.proofs.Common.{◌≡◌, ◌≤◌, ◌<◌, ℕ, zero, suc, List, [], ◌∷◌, Some, T, arith, get_or, length, sym, subst}
use Rattle.std.proofs.lemmas.Cmp.{nat_cmp_total}
use Rattle.std.specs.List.{AllByRecursion}
use Rattle.std.specs.FinMap.Entries.{find, is_sorted}
use Rattle.std.specs.Option.{option_map_or}
use Rattle.std.specs.Ordering.{nat_cmp}
use Rattle.sorted_rows.specs.RowsLaws.{all_found}
use Rattle.lsr_facts.specs.declared.bypass.Bypass.{Bypass}
use Rattle.lsr_facts.specs.declared.router.Router.{Router}
use Rattle.bypass_shares.specs.Shares.{assigned_of}
use Rattle.abstract_router.specs.Soundness.{IsSound}
use Rattle.abstract_router.specs.States.{State}

all_at : {A : Type 0} (P : A → Type 0) (xs : List A) (i : ℕ) (d : A) → i < length xs → AllByRecursion P xs → P (get_or xs i d)
all_at P [] i d within h = absurd (omega (arith, within))
all_at P (x ∷ xs) zero d within h = h.0
all_at P (x ∷ xs) (suc i) d within h = all_at P xs i d (omega (arith, within)) h.1

-- a bypass of the state, at its place
pub within_capacity : (r : Router) (s : State) (rows : List (ℕ × Bypass)) (i : ℕ) (d : ℕ × Bypass) → IsSound r s → rows ≡ s.facts.bypasses → i < length rows
    → assigned_of (get_or rows i d).0 s.assignments ≤ (get_or rows i d).1.capacity
within_capacity r s rows i d sound are inside =
    let sorted : T (is_sorted nat_cmp rows) = subst (λ l. T (is_sorted nat_cmp l)) (sym are) sound.paths.bypasses.in_order in
    let found : find nat_cmp (get_or rows i d).0 rows ≡ Some (get_or rows i d).1 = all_at (λ (e : ℕ × Bypass). find nat_cmp e.0 rows ≡ Some e.1) rows i d inside (all_found nat_cmp nat_cmp_total rows sorted) in
    let within : assigned_of (get_or rows i d).0 s.assignments ≤ option_map_or (λ (b : Bypass). b.capacity) (find nat_cmp (get_or rows i d).0 rows) 0 =
    subst (λ l. assigned_of (get_or rows i d).0 s.assignments ≤ option_map_or (λ (b : Bypass). b.capacity) (find nat_cmp (get_or rows i d).0 l) 0) (sym are) (sound.assigned.within (get_or rows i d).0) in
    subst (λ o. assigned_of (get_or rows i d).0 s.assignments ≤ option_map_or (λ (b : Bypass). b.capacity) o 0) found within
