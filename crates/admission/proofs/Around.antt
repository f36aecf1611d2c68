-- Claims with one more in its place: what stands before it and what stands behind.
use Rattle.std.proofs.Common.{◌≡◌, ℕ, ◌+◌, ◌-◌, ◌<◌, ◌≤◌, ◌^◌, T, List, [], ◌∷◌, ◌++◌, length, get_or, set, take, drop, Ok, Err, sym, ap, subst, ◌∙◌, arith, add-one, length-append}
use Rattle.std.specs.FinMap.Entries.{is_sorted, put}
use Rattle.std.specs.List.{AllByRecursion}
use Rattle.std.specs.List.Sorted.{IsBinarySearchResult}
use Rattle.std.proofs.lemmas.List.{set_split, take_rest}
use Rattle.sorted_rows.proofs.Places.{absent, found}
use Rattle.sorted_rows.specs.RowsLaws.{all-put, length-put-le}
use Rattle.lsr_facts.specs.Orders.{key_cmp}
use Rattle.lsr_facts.specs.OrderLaws.{key_exact, key_total}
use Rattle.lsr_facts.specs.declared.key.Key.{Key}
use Rattle.lsr_facts.specs.declared.claim.Claim.{Claim}
use Rattle.admission.specs.Bandwidths.{AreRated}

module _ (key : Key) (claim : Claim) (claims : List (Key × Claim)) (h : T (is_sorted key_cmp claims)) where
  -- where the key was found at a place
  pub around_found : (at : ℕ) → at < length claims → IsBinarySearchResult (λ (row : Key × Claim). key_cmp row.0 key) claims (Ok at) → put key_cmp key claim claims ≡ take at claims ++ (key, claim) ∷ take (length claims - (at + 1)) (drop (at + 1) claims)
  around_found at within tie =
      let place = found key_cmp key_total key claims (Ok at) h within tie in
      let d : Key × Claim = (key, claim) in
      let same : (get_or claims at d).0 ≡ key = key_exact (get_or claims at d).0 key (tie d) in
      place.2 claim d
      ∙ ap (λ k. set claims at (k, claim)) same
      ∙ set_split claims at (key, claim) within
      ∙ ap (λ rest. take at claims ++ (key, claim) ∷ rest) (ap (λ n. drop n claims) (sym (add-one at)) ∙ sym (take_rest claims (at + 1)))

  -- and where it belongs at a place
  pub around_absent : (at : ℕ) → at ≤ length claims → IsBinarySearchResult (λ (row : Key × Claim). key_cmp row.0 key) claims (Err at) → put key_cmp key claim claims ≡ take at claims ++ (key, claim) ∷ take (length claims - at) (drop at claims)
  around_absent at within gap =
      let place = absent key_cmp key_total key claims (Err at) h within gap in
      place.2 claim ∙ ap (λ rest. take at claims ++ (key, claim) ∷ rest) (sym (take_rest claims at))

-- what holds of each of two lists, one behind the other, holds of each of both
all_parts : {A : Type 0} (P : A → Type 0) (xs ys : List A) → AllByRecursion P (xs ++ ys) → AllByRecursion P xs × AllByRecursion P ys
all_parts P [] ys h = (tt, h)
all_parts P (x ∷ xs) ys h = let rest = all_parts P xs ys h.1 in ((h.0, rest.0), rest.1)

module _ (key : Key) (claim : Claim) (claims before behind : List (Key × Claim)) (is : put key_cmp key claim claims ≡ before ++ (key, claim) ∷ behind) where
  -- the claims before and behind have their rates in range, as all have
  pub parts_rated : claim.rate ≤ 2 ^ 50 → AreRated claims → AreRated before × AreRated behind
  parts_rated most rated =
      let P = λ (row : Key × Claim). row.1.rate ≤ 2 ^ 50 in
      let all = subst (λ rows. AllByRecursion P rows) is (all-put key_cmp (λ (c : Claim). c.rate ≤ 2 ^ 50) key claim most claims rated) in
      let parts = all_parts P before ((key, claim) ∷ behind) all in
      (parts.0, parts.1.1)

  -- and there are not more of them
  pub parts_few : length before + length behind ≤ length claims
  parts_few =
      let put_one = length-put-le key_cmp key claim claims in
      let parted = ap length is ∙ length-append before ((key, claim) ∷ behind) in
      omega (arith, put_one, parted)
