-- What claims take together, session by session: fewer claims take no more.
use Rattle.std.specs.Prelude.{◌≡◌, ℕ, ◌≤◌, ◌+◌, Bool, true, false, ◌&&◌, T, List, [], ◌∷◌, map}
use Rattle.std.specs.List.{AllPairs, IsDistinct, dedup, filter, list_any, sum_by}
use Rattle.std.specs.Ordering.{is_lt, ordering_reverse, ordering_then}
use Rattle.std.specs.declared.cmp.Ordering.{Ordering}
use Rattle.std.specs.declared.cmp.Ordering.TheVariants.{Less, Equal, Greater}
use Rattle.std.specs.FinMap.Entries.{is_sorted}
use Rattle.std.proofs.Common.{refl, sym, ap, subst, ◌∙◌, arith, le_trans}
use Rattle.std.proofs.lemmas.List.Elements.{All-from_recursion}
use Rattle.std.proofs.lemmas.List.Folds.{fold-map}
use Rattle.std.proofs.lemmas.List.Kept.{AllPairs-cons, IsStrictlySortedBy-dedup}
use Rattle.std.proofs.lemmas.List.Sums.{sum_by-le-sum_by}
use Rattle.std.proofs.lemmas.Map.Keys.{IsDistinct-from_sorted}
use Rattle.std.proofs.lemmas.Simd.{map-map}
use Rattle.rsvp_objects.specs.declared.values.Session.{Session}
use Rattle.sorted_rows.specs.ListLaws.{all-always, all-map, all-weaker}
use Rattle.sorted_rows.specs.RowsLaws.{all-below, first, is_sorted-filter, second, ties}
use Rattle.lsr_facts.specs.OrderLaws.{session_exact, session_total}
use Rattle.lsr_facts.specs.Orders.{key_cmp, session_cmp}
use Rattle.lsr_facts.specs.declared.key.Key.{Key}
use Rattle.lsr_facts.specs.Claims.{fixed_rate, greatest, is_fixed, is_of, is_same_session, is_shared, rate_of_all, session_rate, sessions_of, shared_rate}
use Rattle.lsr_facts.specs.Holdings.{but_holding}
use Rattle.lsr_facts.specs.declared.claim.Claim.{Claim}
use Rattle.lsr_facts.specs.SumLaws.{any-dedup, filter-map, filter_none, filter_swap, greatest-filter-le, sum_by-cover, sum_by-filter-le}

-- sums of what is no greater
sums_le : (a b c d : ℕ) → a ≤ b → c ≤ d → a + c ≤ b + d
sums_le a b c d p q = omega arith

-- sessions are told apart
same_session : (a b : Session) → is_same_session a b ≡ true → a ≡ b
same_session a b is = session_exact a b (ties _ is)

-- where an order by two is less, the first of the two isn't greater
first_rises : (o rest back : Ordering) → back ≡ ordering_reverse o → ordering_then o rest ≡ Less → is_lt back ≡ false
first_rises Less rest back is less = ap is_lt is
first_rises Equal rest back is less = ap is_lt is
first_rises Greater rest back is less = cc

-- the sessions of claims in order don't fall
sessions_rise : (claims : List (Key × Claim)) → T (is_sorted key_cmp claims) → AllPairs (λ x y. is_lt (session_cmp y x) ≡ false) (map (λ claim. claim.0.session) claims)
sessions_rise [] h = λ i j d below within. absurd (omega arith)
sessions_rise (e ∷ es) h =
    let later = all-weaker (λ row. key_cmp e.0 row.0 ≡ Less) (λ row. is_lt (session_cmp row.0.session e.0.session) ≡ false) (λ row less. first_rises (session_cmp e.0.session row.0.session) _ _ (session_total.antisymm row.0.session e.0.session) less) es (all-below key_cmp e.0 es (first _ _ h)) in
    AllPairs-cons (λ x y. is_lt (session_cmp y x) ≡ false) e.0.session (map (λ claim. claim.0.session) es)
    (All-from_recursion (λ y. is_lt (session_cmp y e.0.session) ≡ false) (map (λ claim. claim.0.session) es) (all-map (λ y. is_lt (session_cmp y e.0.session) ≡ false) (λ claim. claim.0.session) es later))
    (sessions_rise es (second _ _ h))

-- so each stands once among the sessions of claims in order
pub sessions_apart : (claims : List (Key × Claim)) → T (is_sorted key_cmp claims) → IsDistinct is_same_session (sessions_of claims)
sessions_apart claims h =
    IsDistinct-from_sorted session_cmp (sessions_of claims)
    (IsStrictlySortedBy-dedup session_total (λ x y. refl) (map (λ claim. claim.0.session) claims) (λ k d from within. sessions_rise claims h k (k + 1) d (omega arith) within))

-- a session that has no claims takes nothing
others_take_nothing : (claims : List (Key × Claim)) (session : Session) → list_any (is_same_session session) (sessions_of claims) ≡ false → session_rate claims session ≡ 0
others_take_nothing claims session absent =
    let none = sym (any-dedup is_same_session same_session session (map (λ claim. claim.0.session) claims)) ∙ absent in
    let shared : filter (λ claim. is_of session claim && is_shared claim.1.style) claims ≡ [] = filter_none (is_same_session session) (λ claim. claim.0.session) (λ claim. is_shared claim.1.style) claims none in
    let fixed : filter (λ claim. is_of session claim && is_fixed claim.1.style) claims ≡ [] = filter_none (is_same_session session) (λ claim. claim.0.session) (λ claim. is_fixed claim.1.style) claims none in
    λ i. greatest (map (λ claim. claim.1.rate) (shared i)) + sum_by (λ claim. claim.1.rate) (fixed i)

-- Where each session takes no more of one list in order than of another, all take no more of it.
pub rate_of_all-le : (xs ys : List (Key × Claim)) → T (is_sorted key_cmp xs) → ((session : Session) → session_rate xs session ≤ session_rate ys session) → rate_of_all xs ≤ rate_of_all ys
unfolding rate_of_all
rate_of_all-le xs ys h less =
    le_trans (sum_by-le-sum_by (session_rate xs) (session_rate ys) (sessions_of xs) less)
    (sum_by-cover is_same_session same_session (session_rate ys) (sessions_of xs) (sessions_of ys) (sessions_apart xs h)
    (all-always (λ session. list_any (is_same_session session) (sessions_of ys) ≡ false → session_rate ys session ≡ 0) (others_take_nothing ys) (sessions_of xs)))

-- a session takes no more of fewer claims
session_rate-filter-le : (f : Key × Claim → Bool) (claims : List (Key × Claim)) (session : Session) → session_rate (filter f claims) session ≤ session_rate claims session
session_rate-filter-le f claims session =
    let rate : Key × Claim → ℕ = λ claim. claim.1.rate in
    let shares : Key × Claim → Bool = λ claim. is_of session claim && is_shared claim.1.style in
    let fixes : Key × Claim → Bool = λ claim. is_of session claim && is_fixed claim.1.style in
    let shared : shared_rate session (filter f claims) ≤ shared_rate session claims = subst (λ (kept : List (Key × Claim)). greatest (map rate kept) ≤ shared_rate session claims) (filter_swap f shares claims) (greatest-filter-le rate f (filter shares claims)) in
    let fixed : fixed_rate session (filter f claims) ≤ fixed_rate session claims = subst (λ (kept : List (Key × Claim)). sum_by rate kept ≤ fixed_rate session claims) (filter_swap f fixes claims) (sum_by-filter-le rate f (filter fixes claims)) in
    sums_le (shared_rate session (filter f claims)) (shared_rate session claims) (fixed_rate session (filter f claims)) (fixed_rate session claims) shared fixed

-- Fewer claims in order take no more.
pub rate_of_all-filter-le : (f : Key × Claim → Bool) (claims : List (Key × Claim)) → T (is_sorted key_cmp claims) → rate_of_all (filter f claims) ≤ rate_of_all claims
rate_of_all-filter-le f claims h = rate_of_all-le (filter f claims) claims (is_sorted-filter key_cmp f claims h) (session_rate-filter-le f claims)

-- a session takes the same at other holding priorities
session_rate-but_holding : (claims : List (Key × Claim)) (session : Session) → session_rate (map but_holding claims) session ≡ session_rate claims session
session_rate-but_holding claims session =
    let rate : Key × Claim → ℕ = λ claim. claim.1.rate in
    let shares : Key × Claim → Bool = λ claim. is_of session claim && is_shared claim.1.style in
    let fixes : Key × Claim → Bool = λ claim. is_of session claim && is_fixed claim.1.style in
    let shared : shared_rate session (map but_holding claims) ≡ shared_rate session claims = ap (λ (kept : List (Key × Claim)). greatest (map rate kept)) (filter-map shares but_holding claims) ∙ ap greatest (map-map rate but_holding (filter shares claims)) in
    let fixed : fixed_rate session (map but_holding claims) ≡ fixed_rate session claims = ap (sum_by rate) (filter-map fixes but_holding claims) ∙ fold-map (λ sum claim. sum + rate claim) but_holding 0 (filter fixes claims) in
    λ i. shared i + fixed i

-- Claims take the same at other holding priorities.
pub rate_of_all-but_holding : (claims : List (Key × Claim)) → rate_of_all (map but_holding claims) ≡ rate_of_all claims
unfolding rate_of_all
rate_of_all-but_holding claims =
    λ i. sum_by (λ session. session_rate-but_holding claims session i) (dedup is_same_session (map-map (λ (claim : Key × Claim). claim.0.session) but_holding claims i))
