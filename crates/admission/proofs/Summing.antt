-- What claims make of a sum to which they are added.
use Rattle.std.proofs.Common.{◌≡◌, ℕ, ◌+◌, ◌-◌, ◌*◌, ◌^◌, ◌<◌, ◌≤◌, max, T, Bool, true, false, cond, ◌&&◌, if◌then◌else◌, List, [], ◌∷◌, ◌++◌, length, get_or, take, Option, Some, None, refl, sym, ap, subst, ◌∙◌, arith}
use Rattle.std.specs.FinMap.Entries.{is_sorted}
use Rattle.std.specs.List.{AllByRecursion, filter}
use Rattle.std.specs.Option.{option_map_or, option_or}
use Rattle.std.specs.Ordering.{is_eq}
use Rattle.std.specs.declared.cmp.Ordering.TheVariants.{Less}
use Rattle.std.proofs.lemmas.Cmp.{eq_by_cmp_equiv, tied_itself}
use Rattle.std.proofs.lemmas.List.{append-nil, append_assoc}
use Rattle.std.proofs.lemmas.List.Elements.{All-from_recursion, filter_more}
use Rattle.rsvp_objects.specs.declared.values.Session.{Session}
use Rattle.sorted_rows.specs.RowsLaws.{all-below, first, second, ties}
use Rattle.lsr_facts.specs.Orders.{key_cmp, session_cmp}
use Rattle.lsr_facts.specs.OrderLaws.{session_exact, session_total}
use Rattle.lsr_facts.specs.declared.key.Key.{Key}
use Rattle.lsr_facts.specs.ClaimLaws.{apart_below, below_apart, is_sorted-front, rate_of_all-push_fixed, rate_of_all-push_shared, session_upto, shared_rate-none, shared_rate-push, upto_below}
use Rattle.lsr_facts.specs.Claims.{is_of, is_same_session, is_shared, shared_rate}
use Rattle.lsr_facts.specs.declared.claim.Claim.{Claim}
use Rattle.lsr_facts.specs.declared.resv_fact.ResvStyle.TheVariants.{FixedFilter, SharedExplicit}
use Rattle.admission.specs.Bandwidths.{AreRated}
use Rattle.admission.specs.Sums.{AddsClaims, IsSumOf, last_session, shared_by}
use Rattle.admission.specs.declared.sum.Sum.{Sum}

-- no claims leave the sum as it is
pub adds_none : (sum : Sum) → AddsClaims sum [] sum
adds_none sum claims h is = subst (λ cs. IsSumOf cs sum) (sym (append-nil claims)) is

-- claims that are added, and then others, are all added
pub adds_both : (a b c : Sum) (xs ys : List (Key × Claim)) → AddsClaims a xs b → AddsClaims b ys c → AddsClaims a (xs ++ ys) c
adds_both a b c xs ys one two claims h is =
    let regroup = append_assoc claims xs ys in
    let sorted : T (is_sorted key_cmp (claims ++ xs ++ ys)) = subst (λ cs. T (is_sorted key_cmp cs)) (sym regroup) h in
    subst (λ cs. IsSumOf cs c) regroup (two (claims ++ xs) sorted (one claims (is_sorted-front key_cmp (claims ++ xs) ys sorted) is))

-- one claim more of a list is added where it passes a test, and left out where it fails it
module _ (p : Key × Claim → Bool) (xs : List (Key × Claim)) (i : ℕ) (d : Key × Claim) (within : i < length xs) where
  front_more : (b : Bool) → p (get_or xs i d) ≡ b → filter p (take i xs) ++ cond b (get_or xs i d ∷ []) [] ≡ filter p (take (i + 1) xs)
  front_more b answer = sym (filter_more p xs i d within ∙ ap (λ t. filter p (take i xs) ++ cond t (get_or xs i d ∷ []) []) answer)

  pub adds_more : (a b c : Sum) → p (get_or xs i d) ≡ true → AddsClaims a (filter p (take i xs)) b → AddsClaims b (get_or xs i d ∷ []) c → AddsClaims a (filter p (take (i + 1) xs)) c
  adds_more a b c passes one two = subst (λ cs. AddsClaims a cs c) (front_more true passes) (adds_both a b c (filter p (take i xs)) (get_or xs i d ∷ []) one two)

  pub adds_same : (a b : Sum) → p (get_or xs i d) ≡ false → AddsClaims a (filter p (take i xs)) b → AddsClaims a (filter p (take (i + 1) xs)) b
  adds_same a b fails one = subst (λ cs. AddsClaims a cs b) (sym (append-nil (filter p (take i xs))) ∙ front_more false fails) one

-- and the sum stays within so many times the greatest rate
pub total_more : (xs : List (Key × Claim)) (i : ℕ) (d : Key × Claim) → i < length xs → AreRated xs → (a b c : ℕ) → b ≤ a + i * 2 ^ 50 → c ≤ b + (get_or xs i d).1.rate → c ≤ a + (i + 1) * 2 ^ 50
total_more xs i d within rated a b c before now =
    let rate = All-from_recursion (λ (row : Key × Claim). row.1.rate ≤ 2 ^ 50) xs rated i d within in
    omega (arith, rate, before, now)

-- the session of the last claim
last_session-push : (claims : List (Key × Claim)) (row : Key × Claim) → last_session (claims ++ row ∷ []) ≡ Some row.0.session
last_session-push [] row = refl
last_session-push (claim ∷ claims) row = ap (λ o. option_or o (Some claim.0.session)) (last_session-push claims row)

last_or : (o : Option Session) (a b : Session) → option_or (option_or o (Some a)) (Some b) ≡ option_or o (Some a)
last_or None a b = refl
last_or (Some c) a b = refl

-- claims of which there is no last one are none
no_last : (claims : List (Key × Claim)) → last_session claims ≡ None → claims ≡ []
no_last [] none = refl
no_last (claim ∷ claims) none =
    elim (last_session claims) as (λ o. option_or o (Some claim.0.session) ≡ None → claim ∷ claims ≡ []) [ None ↦ λ is. absurd (cc) | Some s ↦ λ is. absurd (cc) ] none

-- a key below rows is below the last
below_last : (x : Key) (claims : List (Key × Claim)) (row : Key × Claim) → AllByRecursion (λ other. key_cmp x other.0 ≡ Less) (claims ++ row ∷ []) → key_cmp x row.0 ≡ Less
below_last x [] row h = h.0
below_last x (claim ∷ claims) row h = below_last x claims row h.1

-- where the last claim is of another session than the next one, none is of that one's
passed : (claims : List (Key × Claim)) (row : Key × Claim) (last : Session) → T (is_sorted key_cmp (claims ++ row ∷ [])) → last_session claims ≡ Some last → is_same_session last row.0.session ≡ false → AllByRecursion (λ claim. is_of row.0.session claim ≡ false) claims
passed [] row last h is apart = tt
passed (claim ∷ []) row last h is apart =
    let same : claim.0.session ≡ last = cc in
    ((eq_by_cmp_equiv session_total).symm row.0.session claim.0.session ∙ ap (λ s. is_same_session s row.0.session) same ∙ apart, tt)
passed (claim ∷ next ∷ claims) row last h is apart =
    let s = row.0.session in
    let behind = all-below key_cmp claim.0 (next ∷ claims ++ row ∷ []) (first _ _ h) in
    let after_next = all-below key_cmp next.0 (claims ++ row ∷ []) (first _ _ (second _ _ h)) in
    let rest = passed (next ∷ claims) row last (second _ _ h) (sym (last_or (last_session claims) next.0.session claim.0.session) ∙ is) apart in
    let low = below_apart session_cmp session_total next.0.session s (session_upto next.0 row.0 (below_last next.0 claims row after_next)) rest.0 in
    (apart_below session_cmp session_total claim.0.session s (upto_below session_cmp session_total claim.0.session next.0.session s (session_upto claim.0 next.0 behind.0) low), rest)

-- What the next claim's session shares by a sum is what it shares of the claims.
shared_is : (claims : List (Key × Claim)) (row : Key × Claim) (sum : Sum) → T (is_sorted key_cmp (claims ++ row ∷ [])) → IsSumOf claims sum → shared_by sum row.0.session ≡ shared_rate row.0.session claims
shared_is claims row sum h is =
    let s = row.0.session in
    ap (λ o. option_map_or (λ last. if is_same_session last s then sum.shared else 0) o 0) is.session
    ∙ ap (λ n. option_map_or (λ last. if is_same_session last s then n else 0) (last_session claims) 0) is.shared
    ∙ elim (last_session claims) as (λ o. last_session claims ≡ o → option_map_or (λ last. if is_same_session last s then option_map_or (λ session. shared_rate session claims) o 0 else 0) o 0 ≡ shared_rate s claims) [
      | None ↦ λ none. sym (ap (shared_rate s) (no_last claims none))
      | Some last ↦ λ some. elim (is_same_session last s) as (λ b. is_same_session last s ≡ b → cond b (shared_rate last claims) 0 ≡ shared_rate s claims) [
        | true ↦ λ tie. ap (λ x. shared_rate x claims) (session_exact last s (ties _ tie))
        | false ↦ λ apart. sym (shared_rate-none s claims (passed claims row last h some apart))
      ] refl
    ] refl

-- a claim is one of its own session's
of_itself : (row : Key × Claim) → is_of row.0.session row ≡ true
of_itself row = ap is_eq (tied_itself session_total row.0.session)

-- A fixed claim is added by its rate.
pub adds_fixed : (row : Key × Claim) (before after : Sum) → row.1.style ≡ FixedFilter → after.total ≡ before.total + row.1.rate → after.session ≡ Some row.0.session → after.shared ≡ shared_by before row.0.session → AddsClaims before (row ∷ []) after
adds_fixed row before after style total session shared claims h is =
    let s = row.0.session in
    let last = last_session-push claims row in
    let one = of_itself row in
    let rate = shared_rate-push s row claims ∙ (λ i. cond (one i && is_shared (style i)) (max (shared_rate s claims) row.1.rate) (shared_rate s claims)) in
    record {
      total = total ∙ ap (λ n. n + row.1.rate) is.total ∙ sym (rate_of_all-push_fixed claims row h style);
      session = session ∙ sym last;
      shared = shared ∙ shared_is claims row before h is ∙ sym rate ∙ ap (λ o. option_map_or (λ session. shared_rate session (claims ++ row ∷ [])) o 0) (sym last);
    }

-- A shared one is added by that part of its rate that its session doesn't share yet.
pub adds_shared : (row : Key × Claim) (before after : Sum) → row.1.style ≡ SharedExplicit → after.total ≡ before.total + (row.1.rate - shared_by before row.0.session) → after.session ≡ Some row.0.session → after.shared ≡ max row.1.rate (shared_by before row.0.session) → AddsClaims before (row ∷ []) after
adds_shared row before after style total session shared claims h is =
    let s = row.0.session in
    let last = last_session-push claims row in
    let one = of_itself row in
    let now = shared_is claims row before h is in
    let rate : shared_rate s (claims ++ row ∷ []) ≡ max (shared_rate s claims) row.1.rate = shared_rate-push s row claims ∙ (λ i. cond (one i && is_shared (style i)) (max (shared_rate s claims) row.1.rate) (shared_rate s claims)) in
    let turned : max row.1.rate (shared_rate s claims) ≡ max (shared_rate s claims) row.1.rate = omega arith in
    record {
      total = total ∙ (λ i. is.total i + (row.1.rate - now i)) ∙ sym (rate_of_all-push_shared claims row h style);
      session = session ∙ sym last;
      shared = shared ∙ ap (max row.1.rate) now ∙ turned ∙ sym rate ∙ ap (λ o. option_map_or (λ session. shared_rate session (claims ++ row ∷ [])) o 0) (sym last);
    }
