-- The order in which others give way to a request, and how many of them do.
use Rattle.std.proofs.Common.{◌≡◌, ℕ, zero, suc, ◌+◌, ◌-◌, ◌<◌, ◌≤◌, ◌^◌, ◌==◌, T, Bool, true, false, cond, not, ◌&&◌, ◌||◌, List, [], ◌∷◌, ◌++◌, length, map, get_or, take, drop, reverse, refl, sym, ap, ◌∙◌, arith}
use Rattle.std.specs.FinMap.Entries.{is_sorted, is_sorted-where_key, where_key}
use Rattle.std.specs.List.{filter, list_any}
use Rattle.std.specs.Ordering.{is_eq}
use Rattle.std.proofs.lemmas.List.{append-nil, append_assoc, drop_all, drop_more, map-append, reverse-append, take_all, take_more}
use Rattle.std.proofs.lemmas.List.Elements.{filter-append, filter_agree}
use Rattle.std.proofs.lemmas.List.Sums.{count_by-le-length, length-filter}
use Rattle.sorted_rows.specs.ListLaws.{all-filter}
use Rattle.lsr_facts.specs.Orders.{key_cmp}
use Rattle.lsr_facts.specs.declared.key.Key.{Key}
use Rattle.lsr_facts.specs.Admission.{by_worst, can_give_way, held_at, shortest, without}
use Rattle.lsr_facts.specs.declared.claim.Claim.{Claim}
use Rattle.lsr_facts.specs.declared.claim.Request.{Request}
use Rattle.admission.specs.Bandwidths.{AreRated}

-- two filters are one, by both tests
filter-both : {A : Type 0} (p q : A → Bool) (xs : List A) → filter q (filter p xs) ≡ filter (λ x. p x && q x) xs
filter-both p q [] = refl
filter-both p q (x ∷ xs) =
    let rest = filter-both p q xs in
    elim (p x) as (λ b. filter q (cond b (x ∷ filter p xs) (filter p xs)) ≡ cond (b && q x) (x ∷ filter (λ x. p x && q x) xs) (filter (λ x. p x && q x) xs)) [
      | true ↦ ap (λ ys. cond (q x) (x ∷ ys) ys) rest
      | false ↦ rest
    ]

-- a filter of a list backwards
filter-reverse : {A : Type 0} (p : A → Bool) (xs : List A) → filter p (reverse xs) ≡ reverse (filter p xs)
filter-reverse p [] = refl
filter-reverse p (x ∷ xs) =
    ap (filter p) (reverse-append (x ∷ []) xs)
    ∙ filter-append p (reverse xs) (x ∷ [])
    ∙ ap (λ ys. ys ++ cond (p x) (x ∷ []) []) (filter-reverse p xs)
    ∙ elim (p x) as (λ b. reverse (filter p xs) ++ cond b (x ∷ []) [] ≡ reverse (cond b (x ∷ filter p xs) (filter p xs))) [
      | true ↦ sym (reverse-append (x ∷ []) (filter p xs))
      | false ↦ append-nil (reverse (filter p xs))
    ]

-- The claims that are held at one priority, of those that can give way, are those that pass both tests backwards.
pub held_backwards : (request : Request) (holding : ℕ) (claims : List (Key × Claim)) → filter (λ claim. can_give_way request claim && (claim.1.holding == holding)) (reverse claims) ≡ held_at holding (filter (can_give_way request) claims)
held_backwards request holding claims =
    filter-reverse (λ claim. can_give_way request claim && (claim.1.holding == holding)) claims
    ∙ ap reverse (sym (filter-both (can_give_way request) (λ claim. claim.1.holding == holding) claims))

-- those that are held at better priorities than this one, the worst first
abbrev pub below : ℕ → List (Key × Claim) → List (Key × Claim)
below zero claims = []
below (suc holding) claims = held_at holding claims ++ below holding claims

regrouped : {A : Type 0} (a b c d e f g h : List A) → a ++ (b ++ (c ++ (d ++ (e ++ (f ++ (g ++ (h ++ []))))))) ≡ a ++ b ++ c ++ d ++ e ++ f ++ g ++ h
regrouped a b c d e f g h = sym (simp (append_assoc, append-nil))

-- below the priority that is worse than all stand all
pub below_all_priorities : (claims : List (Key × Claim)) → below 8 claims ≡ by_worst claims
below_all_priorities claims =
    regrouped (held_at 7 claims) (held_at 6 claims) (held_at 5 claims) (held_at 4 claims) (held_at 3 claims) (held_at 2 claims) (held_at 1 claims) (held_at 0 claims)

-- one priority after the other, those so far and those of better priorities are all
pub held_next : (keys now all : List Key) (holding : ℕ) (claims : List (Key × Claim)) → 0 < holding → now ≡ keys ++ map (λ claim. claim.0) (held_at holding claims) → keys ++ map (λ claim. claim.0) (below (suc holding) claims) ≡ all → now ++ map (λ claim. claim.0) (below (suc (holding - 1)) claims) ≡ all
held_next keys now all holding claims some is before =
    let key = λ (claim : Key × Claim). claim.0 in
    let same : suc (holding - 1) ≡ holding = omega arith in
    ap (λ n. now ++ map key (below n claims)) same
    ∙ ap (λ ks. ks ++ map key (below holding claims)) is
    ∙ append_assoc keys (map key (held_at holding claims)) (map key (below holding claims))
    ∙ ap (λ ks. keys ++ ks) (sym (map-append key (held_at holding claims) (below holding claims)))
    ∙ before

-- a beginning that isn't enough needs the next one
pub shortest_more : (enough : List Key → Bool) (gone : List Key) (next : Key) (rest : List Key) → enough gone ≡ false → shortest enough gone (next ∷ rest) ≡ shortest enough (gone ++ next ∷ []) rest
shortest_more enough gone next rest is = ap (λ b. cond b gone (shortest enough (gone ++ next ∷ []) rest)) is

any_push : {A : Type 0} (p : A → Bool) (xs : List A) (x : A) → list_any p (xs ++ x ∷ []) ≡ (list_any p xs || p x)
any_push p [] x = elim (p x) as (λ b. (b || false) ≡ b) [ true ↦ refl | false ↦ refl ]
any_push p (y ∷ ys) x = elim (p y) as (λ b. (b || list_any p (ys ++ x ∷ [])) ≡ ((b || list_any p ys) || p x)) [ true ↦ refl | false ↦ any_push p ys x ]

neither : (a b : Bool) → (not a && not b) ≡ not (a || b)
neither true b = refl
neither false b = refl

-- one more is gone
pub without_more : (keys : List Key) (key : Key) (claims : List (Key × Claim)) → where_key key_cmp (λ other. not (is_eq (key_cmp key other))) (without keys claims) ≡ without (keys ++ key ∷ []) claims
without_more keys key claims =
    filter-both (λ claim. not (list_any (λ gone. is_eq (key_cmp gone claim.0)) keys)) (λ claim. not (is_eq (key_cmp key claim.0))) claims
    ∙ filter_agree (λ claim. not (list_any (λ gone. is_eq (key_cmp gone claim.0)) keys) && not (is_eq (key_cmp key claim.0))) (λ claim. not (list_any (λ gone. is_eq (key_cmp gone claim.0)) (keys ++ key ∷ []))) (λ claim. neither (list_any (λ gone. is_eq (key_cmp gone claim.0)) keys) (is_eq (key_cmp key claim.0)) ∙ ap not (sym (any_push (λ gone. is_eq (key_cmp gone claim.0)) keys key))) claims

-- those who are left are in order, with their rates in range, and not more
module _ (keys : List Key) (claims : List (Key × Claim)) where
  pub left_sorted : T (is_sorted key_cmp claims) → T (is_sorted key_cmp (without keys claims))
  left_sorted h = is_sorted-where_key key_cmp (λ key. not (list_any (λ gone. is_eq (key_cmp gone key)) keys)) claims h

  pub left_rated : AreRated claims → AreRated (without keys claims)
  left_rated h = all-filter (λ claim. claim.1.rate ≤ 2 ^ 50) (λ claim. not (list_any (λ gone. is_eq (key_cmp gone claim.0)) keys)) claims h

  pub left_few : length claims ≤ 1024 → length (without keys claims) ≤ 1024
  left_few few =
      let test = λ (claim : Key × Claim). not (list_any (λ gone. is_eq (key_cmp gone claim.0)) keys) in
      omega (arith, few, length-filter test claims, count_by-le-length test claims)

-- one more of a list goes
module _ (keys : List Key) (i : ℕ) (d : Key) (within : i < length keys) where
  pub left_next : (claims left now : List (Key × Claim)) → left ≡ without (take i keys) claims → now ≡ where_key key_cmp (λ other. not (is_eq (key_cmp (get_or keys i d) other))) left → now ≡ without (take (i + 1) keys) claims
  left_next claims left now before is =
      is
      ∙ ap (where_key key_cmp (λ other. not (is_eq (key_cmp (get_or keys i d) other)))) before
      ∙ without_more (take i keys) (get_or keys i d) claims
      ∙ ap (λ gone. without gone claims) (sym (take_more keys i d within))

  turn_step : (enough : List Key → Bool) (all : List Key) → enough (take i keys) ≡ false → shortest enough (take i keys) (drop i keys) ≡ all → shortest enough (take (i + 1) keys) (drop (i + 1) keys) ≡ all
  turn_step enough all fails before =
      ap (λ gone. shortest enough gone (drop (i + 1) keys)) (take_more keys i d within)
      ∙ sym (shortest_more enough (take i keys) (get_or keys i d) (drop (i + 1) keys) fails)
      ∙ ap (shortest enough (take i keys)) (sym (drop_more keys i d within))
      ∙ before

pub turn_next : (keys : List Key) (i : ℕ) → i < length keys → (enough : List Key → Bool) (all : List Key) → enough (take i keys) ≡ false → shortest enough (take i keys) (drop i keys) ≡ all → shortest enough (take (i + 1) keys) (drop (i + 1) keys) ≡ all
turn_next [] i within = absurd (omega (arith, within))
turn_next (key ∷ keys) i within = turn_step (key ∷ keys) i key within

-- and none are left
pub turn_last : (keys : List Key) (i : ℕ) → length keys ≤ i → (enough : List Key → Bool) (all : List Key) → shortest enough (take i keys) (drop i keys) ≡ all → take (length keys) keys ≡ all
turn_last keys i past enough all before =
    let own : length keys ≤ length keys = omega arith in
    take_all (length keys) keys own
    ∙ sym (take_all i keys past)
    ∙ ap (shortest enough (take i keys)) (sym (drop_all i keys past))
    ∙ before
