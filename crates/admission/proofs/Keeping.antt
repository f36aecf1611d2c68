-- Sums that are kept while claims change.
use Rattle.std.proofs.Common.{◌≡◌, ℕ, ◌+◌, ◌-◌, ◌<◌, ◌≤◌, ◌^◌, min, T, Bool, true, false, if◌then◌else◌, List, [], ◌∷◌, ◌++◌, length, get_or, set, take, drop, map, refl, sym, ap, subst, ◌∙◌, arith}
use Rattle.std.specs.FinMap.Entries.{is_sorted}
use Rattle.std.specs.Ordering.{nat_cmp, ordering_then}
use Rattle.std.specs.declared.cmp.Ordering.{Ordering}
use Rattle.std.specs.declared.cmp.Ordering.TheVariants.{Less, Equal, Greater}
use Rattle.std.proofs.lemmas.List.{get_or_default}
use Rattle.std.proofs.lemmas.List.Edits.{map_over_more}
use Rattle.std.proofs.lemmas.List.Elements.{All-from_recursion}
use Rattle.std.proofs.lemmas.Map.Lookups.{exact_unsigned}
use Rattle.rsvp_objects.specs.declared.values.Session.{Session}
use Rattle.sorted_rows.specs.ListLaws.{all-always, all-append, all-map, all-weaker}
use Rattle.lsr_facts.specs.Orders.{key_cmp}
use Rattle.lsr_facts.specs.declared.key.Key.{Key}
use Rattle.lsr_facts.specs.Claims.{reserved_of}
use Rattle.lsr_facts.specs.declared.claim.Claim.{Claim}
use Rattle.admission.proofs.Moving.{mine, moved, others}
use Rattle.admission.proofs.Splitting.{rate_of_none}
use Rattle.admission.specs.Running.{AreSums, IsSumAt, anew, is_touched, less, more}
use Rattle.admission.specs.declared.running.LinkSum.{LinkSum}
use Rattle.admission.specs.declared.running.Touched.{Touched}

-- a loop that writes to each element what f makes of it
pub map_next : {A : Type 0} (f : A → A) (xs ys : List A) (i : ℕ) (d v : A) → i < length xs → i < length ys → ys ≡ map f (take i xs) ++ drop i xs → v ≡ f (get_or ys i d) → set ys i v ≡ map f (take (i + 1) xs) ++ drop (i + 1) xs
map_next f xs ys i d v within inside so_far is =
    ap (set ys i) is ∙ map_over_more f xs ys i (get_or ys i d) within so_far (get_or_default ys i d (get_or ys i d) inside)

-- no claims reserve nothing
reserved_of-none : (link p : ℕ) → 0 ≡ reserved_of link p []
unfolding reserved_of
reserved_of-none link p = sym rate_of_none

-- A sum more on which nothing is reserved.
pub sums_push : (sums now : List LinkSum) (link p : ℕ) → now ≡ sums ++ record { link = link; priority = p; total = 0 } ∷ [] → AreSums [] sums → AreSums [] now
sums_push sums now link p is h =
    subst (AreSums []) (sym is) (all-append (IsSumAt []) sums (record { link = link; priority = p; total = 0 } ∷ []) h (reserved_of-none link p, tt))

-- Sums that are added up anew are sums.
pub sums_anew : (claims : List (Key × Claim)) (was now : List LinkSum) → now ≡ map (anew claims) was → AreSums claims now
sums_anew claims was now is =
    subst (AreSums claims) (sym is) (all-map (IsSumAt claims) (anew claims) was (all-always (λ sum. IsSumAt claims (anew claims sum)) (λ sum. refl) was))

-- where an order by two ties, both tie
then_ties : (o p : Ordering) → ordering_then o p ≡ Equal → (o ≡ Equal) × (p ≡ Equal)
then_ties Less p is = absurd cc
then_ties Equal p is = (refl, is)
then_ties Greater p is = absurd cc

-- The sum at a place that ties with a link and a priority is theirs.
pub sum_found : (sums : List LinkSum) (at link p : ℕ) (d : LinkSum) → at < length sums → ordering_then (nat_cmp (get_or sums at d).link link) (nat_cmp (get_or sums at d).priority p) ≡ Equal → (claims : List (Key × Claim)) → AreSums claims sums → (get_or sums at d).total ≡ reserved_of link p claims
sum_found sums at link p d within tie claims are =
    let row = get_or sums at d in
    let both = then_ties _ _ tie in
    let same_link = exact_unsigned row.link link both.0 in
    let same_priority = exact_unsigned row.priority p both.1 in
    All-from_recursion (IsSumAt claims) sums are at d within ∙ (λ i. reserved_of (same_link i) (same_priority i) claims)

-- the step of the next law, where x is the sum of before, y that of now, and mx and my are what the session reserves
sum_step : (touched : Bool) (total x y mx my : ℕ) → total ≡ x → mx ≤ x → y ≡ (x - mx) + my → y < 2 ^ 64 → (touched ≡ false → y ≡ x) → (if touched then min ((if touched then total - mx else total) + my) (2 ^ 64 - 1) else (if touched then total - mx else total)) ≡ y
sum_step true total x y mx my is within moves fits unseen = omega (arith, is, within, moves, fits)
sum_step false total x y mx my is within moves fits unseen = is ∙ sym (unseen refl)

module _ (touched : Touched) (session : Session) (xs ys : List (Key × Claim)) (h : T (is_sorted key_cmp xs)) (g : T (is_sorted key_cmp ys)) (same : others session ys ≡ others session xs) (fits : (link p : ℕ) → reserved_of link p ys < 2 ^ 64) (unseen : (link p : ℕ) → is_touched touched link ≡ false → reserved_of link p ys ≡ reserved_of link p xs) where
  -- one sum
  sum_moved : (sum : LinkSum) → IsSumAt xs sum → IsSumAt ys (more touched (mine session ys) (less touched (mine session xs) sum))
  sum_moved sum is =
      let law = moved sum.link sum.priority session xs ys h g same in
      sum_step (is_touched touched sum.link) sum.total (reserved_of sum.link sum.priority xs) (reserved_of sum.link sum.priority ys) (reserved_of sum.link sum.priority (mine session xs)) (reserved_of sum.link sum.priority (mine session ys)) is law.0 law.1 (fits sum.link sum.priority) (unseen sum.link sum.priority)

  -- Where only the claims of a session change, the sums of touched links move from what they took to what they take.
  pub sums_moved : (sums between now : List LinkSum) → AreSums xs sums → between ≡ map (less touched (mine session xs)) sums → now ≡ map (more touched (mine session ys)) between → AreSums ys now
  sums_moved sums between now are a b =
      subst (AreSums ys) (sym (b ∙ ap (map (more touched (mine session ys))) a))
      (all-map (IsSumAt ys) (more touched (mine session ys)) (map (less touched (mine session xs)) sums)
      (all-map (λ sum. IsSumAt ys (more touched (mine session ys) sum)) (less touched (mine session xs)) sums
      (all-weaker (IsSumAt xs) (λ sum. IsSumAt ys (more touched (mine session ys) (less touched (mine session xs) sum))) sum_moved sums are)))
