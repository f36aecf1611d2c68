-- Laws of the bandwidth that is reserved on a link, and of who gives way to a request.
use Rattle.std.specs.Prelude.{◌≡◌, ◌≢◌, ℕ, ◌==◌, ◌≤◌, ◌<◌, ◌&&◌, nat_le, nat_lt, Bool, true, false, cond, not, T, List, [], map, filter, length, take, Option, None, Some, IfSome, IsSomeAnd}
use Rattle.std.specs.FinMap.Entries.{find, find-put, is_sorted, is_sorted-put, is_sorted-where_key, put, where_key}
use Rattle.std.specs.Cmp.{both_ways}
use Rattle.std.specs.List.{All, AllByRecursion, Contains, list_any}
use Rattle.std.specs.Ordering.{eq_by_cmp, is_eq}
use Rattle.std.proofs.Common.{refl, sym, ap, subst, ◌∙◌, arith, le_trans}
use Rattle.std.proofs.lemmas.Bool.{and_from, and_left, and_parts, eq-eqb, eqb-true, false_from_ne_true, false≢true, leb-true, le-leb, ltb-false, ltb-true, ne_eqb, not-true}
use Rattle.std.proofs.lemmas.Cmp.{eq_by_cmp_equiv}
use Rattle.std.proofs.lemmas.List.{length-take-le}
use Rattle.std.proofs.lemmas.List.Elements.{All-contains_itself, All-take, All-weaker, recursion_from_All}
use Rattle.std.proofs.lemmas.List.Folds.{list_any_none}
use Rattle.sorted_rows.specs.ListLaws.{all-always, all-both, all-weaker, filter_agree_within}
use Rattle.sorted_rows.specs.RowsLaws.{all-from_find, all_found, find-all_row, is_sorted-filter, ties}
use Rattle.lsr_facts.specs.OrderLaws.{key_exact, key_total}
use Rattle.lsr_facts.specs.Orders.{key_cmp}
use Rattle.lsr_facts.specs.declared.key.Key.{Key}
use Rattle.lsr_facts.specs.Admission.{can_give_way, fits, granted, in_turn, is_enough, victims_of, without}
use Rattle.lsr_facts.specs.Claims.{counts, rate_of_all, reserved_of}
use Rattle.lsr_facts.specs.Holdings.{but_holding}
use Rattle.lsr_facts.specs.declared.claim.Claim.{Claim}
use Rattle.lsr_facts.specs.declared.claim.Request.{Request}
use Rattle.lsr_facts.specs.SumLaws.{filter-filter, filter-map, filter-put_away, filter-put_unseen, filter_swap, filter_within, where_key-put}
use Rattle.lsr_facts.specs.RateLaws.{rate_of_all-but_holding, rate_of_all-filter-le}
use Rattle.lsr_facts.specs.TurnLaws.{all-in_turn, has_turn, shortest-is, shortest-is_enough, shortest-none}

-- what two of the same variant have is the same
some_same : {A : Type 0} (x y : A) → Some x ≡ Some y → x ≡ y
some_same x y same = cc

-- a number is not both
not_both : (a b : ℕ) → a ≤ b → b < a → ⊥
not_both a b low high = omega arith

-- a test beside one that passes
and_only : (a b : Bool) → b ≡ true → (a && b) ≡ a
and_only true b h = h
and_only false b h = refl

-- what counts at a priority counts at a worse one
counts_worse : (link p q : ℕ) → p ≤ q → (claim : Key × Claim) → counts link p claim ≡ true → counts link q claim ≡ true
counts_worse link p q worse claim counted =
    let parts = and_parts (claim.1.link == link) (nat_le claim.1.holding p) counted in
    and_from (claim.1.link == link) (nat_le claim.1.holding q) parts.0 (le-leb claim.1.holding q (le_trans (leb-true claim.1.holding p parts.1) worse))

-- a claim on another link doesn't count
counts_elsewhere : (link p : ℕ) (claim : Claim) → claim.link ≢ link → (key : Key) → counts link p (key, claim) ≡ false
counts_elsewhere link p claim other key = and_left (claim.link == link) (nat_le claim.holding p) (ne_eqb claim.link link other)

-- Of claims that pass a test no more is reserved than of all.
pub reserved_of-filter-le : (link p : ℕ) (f : Key × Claim → Bool) (claims : List (Key × Claim)) → T (is_sorted key_cmp claims) → reserved_of link p (filter f claims) ≤ reserved_of link p claims
unfolding reserved_of
reserved_of-filter-le link p f claims h =
    subst (λ (kept : List (Key × Claim)). rate_of_all kept ≤ rate_of_all (filter (counts link p) claims)) (filter_swap f (counts link p) claims) (rate_of_all-filter-le f (filter (counts link p) claims) (is_sorted-filter key_cmp (counts link p) claims h))

-- Of the claims of fewer LSPs no more is reserved.
pub reserved_of-where_key-le : (link p : ℕ) (f : Key → Bool) (claims : List (Key × Claim)) → T (is_sorted key_cmp claims) → reserved_of link p (where_key key_cmp f claims) ≤ reserved_of link p claims
reserved_of-where_key-le link p f claims h = reserved_of-filter-le link p (λ claim. f claim.0) claims h

-- At a better priority no more is reserved.
pub reserved_of-better-le : (link p q : ℕ) (claims : List (Key × Claim)) → T (is_sorted key_cmp claims) → p ≤ q → reserved_of link p claims ≤ reserved_of link q claims
unfolding reserved_of
reserved_of-better-le link p q claims h worse =
    subst (λ (kept : List (Key × Claim)). rate_of_all kept ≤ rate_of_all (filter (counts link q) claims)) (filter_within (counts link p) (counts link q) claims (all-always (λ claim. counts link p claim ≡ true → counts link q claim ≡ true) (counts_worse link p q worse) claims))
    (rate_of_all-filter-le (counts link p) (filter (counts link q) claims) (is_sorted-filter key_cmp (counts link q) claims h))

-- A claim on another link, in place of none or of one on another link, changes nothing.
pub reserved_of-put_elsewhere : (link p : ℕ) (key : Key) (claim : Claim) (claims : List (Key × Claim)) → claim.link ≢ link → IfSome (find key_cmp key claims) (λ old. old.link ≢ link) → reserved_of link p (put key_cmp key claim claims) ≡ reserved_of link p claims
unfolding reserved_of
reserved_of-put_elsewhere link p key claim claims other old =
    ap rate_of_all (filter-put_unseen key_cmp (counts link p) key claim (counts_elsewhere link p claim other) claims (unseen (find key_cmp key claims) old))
  where
    unseen : (found : Option Claim) → IfSome found (λ was. was.link ≢ link) → IfSome found (λ was. (k : Key) → counts link p (k, was) ≡ false)
    unseen None h = tt
    unseen (Some was) h = counts_elsewhere link p was h

-- A claim on another link takes the LSP's old one away.
pub reserved_of-put_away : (link p : ℕ) (key : Key) (claim : Claim) (claims : List (Key × Claim)) → T (is_sorted key_cmp claims) → claim.link ≢ link → reserved_of link p (put key_cmp key claim claims) ≡ reserved_of link p (where_key key_cmp (λ k. not (is_eq (key_cmp key k))) claims)
unfolding reserved_of
reserved_of-put_away link p key claim claims h other =
    ap rate_of_all (filter-put_away key_cmp key_total (counts link p) key claim (counts_elsewhere link p claim other) claims h)

-- so no more is reserved then
pub reserved_of-put_elsewhere-le : (link p : ℕ) (key : Key) (claim : Claim) (claims : List (Key × Claim)) → T (is_sorted key_cmp claims) → claim.link ≢ link → reserved_of link p (put key_cmp key claim claims) ≤ reserved_of link p claims
reserved_of-put_elsewhere-le link p key claim claims h other =
    subst (λ rate. rate ≤ reserved_of link p claims) (sym (reserved_of-put_away link p key claim claims h other)) (reserved_of-where_key-le link p (λ k. not (is_eq (key_cmp key k))) claims h)

-- what is reserved at a priority that none is worse than
reserved_of-all : (link p : ℕ) (claims : List (Key × Claim)) → AllByRecursion (λ claim. claim.1.holding ≤ p) claims → reserved_of link p claims ≡ rate_of_all (filter (λ claim. claim.1.link == link) (map but_holding claims))
unfolding reserved_of
reserved_of-all link p claims low =
    let on_link : Key × Claim → Bool = λ claim. claim.1.link == link in
    ap rate_of_all (filter_agree_within (counts link p) on_link claims (all-weaker (λ claim. claim.1.holding ≤ p) (λ claim. counts link p claim ≡ (claim.1.link == link)) (λ claim at. and_only (claim.1.link == link) (nat_le claim.1.holding p) (le-leb claim.1.holding p at)) claims low))
    ∙ sym (rate_of_all-but_holding (filter on_link claims))
    ∙ ap rate_of_all (sym (filter-map on_link but_holding claims))

-- At a priority that none is worse than, the holding priorities don't matter.
pub reserved_of-but_holding : (link p : ℕ) (claims others : List (Key × Claim)) → AllByRecursion (λ claim. claim.1.holding ≤ p) claims → AllByRecursion (λ claim. claim.1.holding ≤ p) others → map but_holding claims ≡ map but_holding others → reserved_of link p claims ≡ reserved_of link p others
reserved_of-but_holding link p claims others low lows same =
    reserved_of-all link p claims low ∙ ap (λ (alike : List (Key × Claim)). rate_of_all (filter (λ claim. claim.1.link == link) alike)) same ∙ sym (reserved_of-all link p others lows)

-- What it means that a claim can give way: it is on the link, kept at a worse priority, and another LSP's.
pub can_give_way-means : (request : Request) (claim : Key × Claim) → can_give_way request claim ≡ true → (claim.1.link ≡ request.claim.link) × (request.setup < claim.1.holding) × (is_eq (key_cmp request.key claim.0) ≡ false)
can_give_way-means request claim can =
    let on_link = claim.1.link == request.claim.link in
    let is_worse = nat_lt request.setup claim.1.holding in
    let is_same = is_eq (key_cmp request.key claim.0) in
    let parts = and_parts (on_link && is_worse) (not is_same) can in
    let front = and_parts on_link is_worse parts.0 in
    (eqb-true claim.1.link request.claim.link front.0, ltb-true request.setup claim.1.holding front.1, not-true is_same parts.1)

-- Each who has its turn has a claim that can give way.
pub turns_can_give_way : (request : Request) (claims : List (Key × Claim)) → T (is_sorted key_cmp claims) → All (λ key. IsSomeAnd (find key_cmp key claims) (λ claim. can_give_way request (key, claim) ≡ true)) (in_turn request claims)
turns_can_give_way request claims h =
    let CanGiveWay : Key → Type 0 = λ key. IsSomeAnd (find key_cmp key claims) (λ claim. can_give_way request (key, claim) ≡ true) in
    all-in_turn CanGiveWay request claims (all-weaker (λ row. find key_cmp row.0 claims ≡ Some row.1) (λ row. can_give_way request row ≡ true → CanGiveWay row.0) (λ row found can. subst (λ o. IsSomeAnd o (λ claim. can_give_way request (row.0, claim) ≡ true)) (sym found) can) claims (all_found key_cmp key_total claims h))

-- the keys that stay once all who can give way have
abbrev stays : Request → List (Key × Claim) → Key → Bool
stays request claims key = not (list_any (λ gone. is_eq (key_cmp gone key)) (in_turn request claims))

-- the request's own is among them
request_stays : (request : Request) (claims : List (Key × Claim)) → stays request claims request.key ≡ true
request_stays request claims =
    let apart : (claim : Key × Claim) → can_give_way request claim ≡ true → is_eq (key_cmp claim.0 request.key) ≡ false = λ claim can. (eq_by_cmp_equiv key_total).symm claim.0 request.key ∙ (can_give_way-means request claim can).2 in
    let turns = all-in_turn (λ gone. is_eq (key_cmp gone request.key) ≡ false) request claims (all-always (λ claim. can_give_way request claim ≡ true → is_eq (key_cmp claim.0 request.key) ≡ false) apart claims) in
    ap not (list_any_none (λ gone. is_eq (key_cmp gone request.key)) (in_turn request claims) turns)

-- a claim of another LSP that stays and counts is kept at the setup priority or a better one
stays_counted : (request : Request) (claims : List (Key × Claim)) (claim : Key × Claim) → Contains claims claim → is_eq (key_cmp request.key claim.0) ≡ false → (stays request claims claim.0 && counts request.claim.link 7 claim) ≡ true → counts request.claim.link request.setup claim ≡ true
stays_counted request claims claim has other left =
    let on_link = claim.1.link == request.claim.link in
    let is_worse = nat_lt request.setup claim.1.holding in
    let parts = and_parts (stays request claims claim.0) (counts request.claim.link 7 claim) left in
    let counted = and_parts on_link (nat_le claim.1.holding 7) parts.1 in
    let can : is_worse ≡ true → can_give_way request claim ≡ true = λ worse. and_from (on_link && is_worse) (not (is_eq (key_cmp request.key claim.0))) (and_from on_link is_worse counted.0 worse) (ap not other) in
    let turn = λ (worse : is_worse ≡ true). has_turn request claim claims has (can worse) (leb-true claim.1.holding 7 counted.1) in
    let better = false_from_ne_true is_worse (λ worse. false≢true (sym (ap not (turn worse)) ∙ parts.0)) in
    and_from on_link (nat_le claim.1.holding request.setup) counted.0 (le-leb claim.1.holding request.setup (ltb-false request.setup claim.1.holding better))

-- and so is each, once the request is granted
granted_counted : (request : Request) (claims : List (Key × Claim)) → T (is_sorted key_cmp claims) → request.claim.holding ≤ request.setup → AllByRecursion (λ claim. (stays request claims claim.0 && counts request.claim.link 7 claim) ≡ true → counts request.claim.link request.setup claim ≡ true) (granted request claims)
granted_counted request claims h within =
    all-from_find key_cmp key_total Counts (granted request claims) (is_sorted-put key_cmp key_total request.key request.claim claims h) each
  where
    Counts : Key × Claim → Type 0
    Counts claim = (stays request claims claim.0 && counts request.claim.link 7 claim) ≡ true → counts request.claim.link request.setup claim ≡ true

    Other : Key × Claim → Type 0
    Other claim = is_eq (key_cmp request.key claim.0) ≡ false → Counts claim

    others : AllByRecursion Other claims
    others = recursion_from_All Other claims (All-weaker (Contains claims) Other (stays_counted request claims) claims (All-contains_itself claims))

    own : (key : Key) → counts request.claim.link request.setup (key, request.claim) ≡ true
    own key = and_from (request.claim.link == request.claim.link) (nat_le request.claim.holding request.setup) (eq-eqb request.claim.link request.claim.link refl) (le-leb request.claim.holding request.setup within)

    each : (key : Key) (claim : Claim) → find key_cmp key (granted request claims) ≡ Some claim → Counts (key, claim)
    each key claim found =
        elim (eq_by_cmp key_cmp key request.key) as (λ b. eq_by_cmp key_cmp key request.key ≡ b → cond b (Some request.claim) (find key_cmp key claims) ≡ Some claim → Counts (key, claim)) [
          | true ↦ λ is new left. subst (λ c. counts request.claim.link request.setup (key, c) ≡ true) (some_same request.claim claim new) (own key)
          | false ↦ λ is old. subst (λ o. IfSome o (λ c. Other (key, c))) old (find-all_row key_cmp key_exact Other key claims others) ((eq_by_cmp_equiv key_total).symm request.key key ∙ is)
        ] refl (sym (find-put key_cmp key_total key request.key request.claim claims) ∙ found)

-- what is known of another LSP stays known once the request is granted
granted_others : (request : Request) (claims : List (Key × Claim)) (key : Key) → is_eq (key_cmp request.key key) ≡ false → find key_cmp key (granted request claims) ≡ find key_cmp key claims
granted_others request claims key other =
    find-put key_cmp key_total key request.key request.claim claims
    ∙ ap (λ b. cond b (Some request.claim) (find key_cmp key claims)) ((eq_by_cmp_equiv key_total).symm key request.key ∙ other)

-- so one who has its turn is still kept at a worse priority than the setup priority
turns_are_worse : (request : Request) (claims : List (Key × Claim)) → T (is_sorted key_cmp claims) → (key : Key) (claim : Claim) → find key_cmp key (granted request claims) ≡ Some claim → All (λ gone. is_eq (key_cmp gone key) ≡ true → request.setup < claim.holding) (in_turn request claims)
turns_are_worse request claims h key claim found =
    all-in_turn Worse request claims (all-weaker (λ row. find key_cmp row.0 claims ≡ Some row.1) (λ row. can_give_way request row ≡ true → Worse row.0) worse claims (all_found key_cmp key_total claims h))
  where
    Worse : Key → Type 0
    Worse gone = is_eq (key_cmp gone key) ≡ true → request.setup < claim.holding

    worse : (row : Key × Claim) → find key_cmp row.0 claims ≡ Some row.1 → can_give_way request row ≡ true → Worse row.0
    worse row there can tie =
        let means = can_give_way-means request row can in
        let known = ap (λ k. find key_cmp k (granted request claims)) (sym (key_exact row.0 key (ties _ tie))) ∙ granted_others request claims row.0 means.2 ∙ there in
        subst (λ (c : Claim). request.setup < c.holding) (some_same row.1 claim (sym known ∙ found)) means.1

-- and what counts at the setup priority stays
counted_stays : (request : Request) (claims : List (Key × Claim)) → T (is_sorted key_cmp claims) → AllByRecursion (λ claim. counts request.claim.link request.setup claim ≡ true → stays request claims claim.0 ≡ true) (granted request claims)
counted_stays request claims h =
    all-from_find key_cmp key_total Stays (granted request claims) (is_sorted-put key_cmp key_total request.key request.claim claims h) kept
  where
    Stays : Key × Claim → Type 0
    Stays claim = counts request.claim.link request.setup claim ≡ true → stays request claims claim.0 ≡ true

    kept : (key : Key) (claim : Claim) → find key_cmp key (granted request claims) ≡ Some claim → Stays (key, claim)
    kept key claim found counted =
        let low = leb-true claim.holding request.setup (and_parts (claim.link == request.claim.link) (nat_le claim.holding request.setup) counted).1 in
        let turns = turns_are_worse request claims h key claim found in
        let apart = All-weaker (λ gone. is_eq (key_cmp gone key) ≡ true → request.setup < claim.holding) (λ gone. is_eq (key_cmp gone key) ≡ false) (λ gone worse. false_from_ne_true _ (λ tie. not_both claim.holding request.setup low (worse tie))) (in_turn request claims) turns in
        ap not (list_any_none (λ gone. is_eq (key_cmp gone key)) (in_turn request claims) apart)

-- Once all who can have given way, what is reserved at the worst priority is what was reserved at the setup priority.
pub reserved_of-in_turn_gone : (request : Request) (claims : List (Key × Claim)) → T (is_sorted key_cmp claims) → request.claim.holding ≤ request.setup → request.setup ≤ 7 → reserved_of request.claim.link 7 (granted request (without (in_turn request claims) claims)) ≡ reserved_of request.claim.link request.setup (granted request claims)
unfolding reserved_of
reserved_of-in_turn_gone request claims h within low =
    ap rate_of_all
    (ap (filter worst) (sym (where_key-put key_cmp key_total key_exact (stays request claims) request.key request.claim claims (request_stays request claims) h))
    ∙ filter-filter worst (λ claim. stays request claims claim.0) (granted request claims)
    ∙ filter_agree_within left better (granted request claims) alike)
  where
    worst : Key × Claim → Bool
    worst = counts request.claim.link 7

    better : Key × Claim → Bool
    better = counts request.claim.link request.setup

    left : Key × Claim → Bool
    left claim = stays request claims claim.0 && worst claim

    both : (claim : Key × Claim) → (left claim ≡ true → better claim ≡ true) → (better claim ≡ true → stays request claims claim.0 ≡ true) → left claim ≡ better claim
    both claim then back =
        both_ways (left claim) (better claim) then (λ counted. and_from (stays request claims claim.0) (worst claim) (back counted) (counts_worse request.claim.link request.setup 7 low claim counted))

    alike : AllByRecursion (λ claim. left claim ≡ better claim) (granted request claims)
    alike = all-both (λ claim. left claim ≡ true → better claim ≡ true) (λ claim. better claim ≡ true → stays request claims claim.0 ≡ true) (λ claim. left claim ≡ better claim) both (granted request claims) (granted_counted request claims h within) (counted_stays request claims h)

-- A request fits just where it is enough that all give way who can.
pub in_turn-is_enough : (limit : ℕ) (request : Request) (claims : List (Key × Claim)) → T (is_sorted key_cmp claims) → request.claim.holding ≤ request.setup → request.setup ≤ 7 → is_enough limit request claims (in_turn request claims) ≡ fits limit request claims
unfolding fits is_enough
in_turn-is_enough limit request claims h within low = ap (λ rate. nat_le rate limit) (reserved_of-in_turn_gone request claims h within low)

-- So where a request fits, it is enough that the victims do.
pub victims_of-is_enough : (limit : ℕ) (request : Request) (claims : List (Key × Claim)) → T (is_sorted key_cmp claims) → request.claim.holding ≤ request.setup → request.setup ≤ 7 → fits limit request claims ≡ true → is_enough limit request claims (victims_of limit request claims) ≡ true
unfolding victims_of
victims_of-is_enough limit request claims h within low fit =
    shortest-is_enough (is_enough limit request claims) [] (in_turn request claims) (in_turn-is_enough limit request claims h within low ∙ fit)

-- The victims are a beginning of those in turn.
pub victims_of-front : (limit : ℕ) (request : Request) (claims : List (Key × Claim)) → victims_of limit request claims ≡ take (length (victims_of limit request claims)) (in_turn request claims)
unfolding victims_of
victims_of-front limit request claims =
    let front = shortest-is (is_enough limit request claims) [] (in_turn request claims) in
    front.2 ∙ ap (λ n. take n (in_turn request claims)) (sym (ap length front.2 ∙ length-take-le front.0 (in_turn request claims) front.1))

-- No shorter one is enough.
pub victims_of-least : (limit : ℕ) (request : Request) (claims : List (Key × Claim)) (n : ℕ) → n < length (victims_of limit request claims) → is_enough limit request claims (take n (in_turn request claims)) ≡ false
unfolding victims_of
victims_of-least limit request claims n shorter =
    let front = shortest-is (is_enough limit request claims) [] (in_turn request claims) in
    front.3 n (subst (λ m. n < m) (ap length front.2 ∙ length-take-le front.0 (in_turn request claims) front.1) shorter)

-- Each victim has a claim that can give way.
pub victims_can_give_way : (limit : ℕ) (request : Request) (claims : List (Key × Claim)) → T (is_sorted key_cmp claims) → All (λ key. IsSomeAnd (find key_cmp key claims) (λ claim. can_give_way request (key, claim) ≡ true)) (victims_of limit request claims)
victims_can_give_way limit request claims h =
    let CanGiveWay : Key → Type 0 = λ key. IsSomeAnd (find key_cmp key claims) (λ claim. can_give_way request (key, claim) ≡ true) in
    subst (λ keys. All CanGiveWay keys) (sym (victims_of-front limit request claims)) (All-take CanGiveWay (length (victims_of limit request claims)) (in_turn request claims) (turns_can_give_way request claims h))

-- Once enough have given way, what is reserved on the link is within the limit at each priority.
pub granted-within : (limit p : ℕ) (request : Request) (claims : List (Key × Claim)) (gone : List Key) → T (is_sorted key_cmp claims) → is_enough limit request claims gone ≡ true → p ≤ 7 → reserved_of request.claim.link p (granted request (without gone claims)) ≤ limit
unfolding is_enough
granted-within limit p request claims gone h enough low =
    let left : Key → Bool = λ key. not (list_any (λ g. is_eq (key_cmp g key)) gone) in
    let in_order = is_sorted-put key_cmp key_total request.key request.claim (without gone claims) (is_sorted-where_key key_cmp left claims h) in
    le_trans (reserved_of-better-le request.claim.link p 7 (granted request (without gone claims)) in_order low) (leb-true _ limit enough)

-- On another link no more is reserved then than before.
pub granted-elsewhere-le : (link p : ℕ) (request : Request) (claims : List (Key × Claim)) (gone : List Key) → T (is_sorted key_cmp claims) → request.claim.link ≢ link → reserved_of link p (granted request (without gone claims)) ≤ reserved_of link p claims
granted-elsewhere-le link p request claims gone h other =
    let left : Key → Bool = λ key. not (list_any (λ g. is_eq (key_cmp g key)) gone) in
    le_trans (reserved_of-put_elsewhere-le link p request.key request.claim (without gone claims) (is_sorted-where_key key_cmp left claims h) other) (reserved_of-where_key-le link p left claims h)

-- Where it is enough that nobody gives way, nobody does.
pub victims_of-none : (limit : ℕ) (request : Request) (claims : List (Key × Claim)) → is_enough limit request claims [] ≡ true → victims_of limit request claims ≡ []
unfolding victims_of
victims_of-none limit request claims enough = shortest-none (is_enough limit request claims) [] (in_turn request claims) enough
