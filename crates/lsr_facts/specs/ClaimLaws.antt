-- Laws of the bandwidth that claims take together, in the order of their keys: what one claim more makes of it.
use Rattle.std.specs.Prelude.{◌≡◌, ℕ, ◌+◌, ◌-◌, ◌*◌, ◌^◌, ◌<◌, ◌≤◌, ◌==◌, max, nat_lt, Bool, true, false, cond, if◌then◌else◌, ◌&&◌, ◌||◌, T, List, [], ◌∷◌, ◌++◌, filter, map, length, Option, Some, None, Result, Ok, Err, ok_or, option_and_then}
use Rattle.std.specs.Cmp.{IsTotalOrder}
use Rattle.std.specs.FinMap.Entries.{below_all, is_sorted}
use Rattle.std.specs.Int.{div_ceil}
use Rattle.std.specs.List.{AllByRecursion, dedup, dedup_from, sum_by}
use Rattle.std.specs.Ordering.{is_eq, is_gt, ordering_reverse, ordering_then}
use Rattle.std.specs.declared.cmp.Ordering.{Ordering}
use Rattle.std.specs.declared.cmp.Ordering.TheVariants.{Less, Equal, Greater}
use Rattle.std.proofs.Common.{refl, sym, ap, subst, ◌∙◌, arith}
use Rattle.std.proofs.lemmas.Bool.{ltb-true, ltb-false}
use Rattle.std.proofs.lemmas.Cmp.{alike_right, eq_by_cmp_equiv, tied_back, tied_itself}
use Rattle.std.proofs.lemmas.List.{append-nil, map-append}
use Rattle.std.proofs.lemmas.List.Elements.{filter-append}
use Rattle.std.proofs.lemmas.List.Sums.{sum_by-cons, sum_by_push}
use Rattle.std.proofs.lemmas.Nat.{mul-le, pow_pos}
use Rattle.std.proofs.Math.Nat.{div-le_self, mod-lt, pow-le-pow_right}
use Rattle.rsvp_objects.specs.declared.values.Session.{Session}
use Rattle.rsvp_bodies.specs.Rates.{exponent_of, fraction_of, rate_of, scaled_up, sign_of}
use Rattle.rsvp_bodies.specs.TokenBuckets.{rate_word_of, service_of, token_rate}
use Rattle.rsvp_bodies.specs.Traffic.{flowspec_rate}
use Rattle.rsvp_bodies.specs.declared.traffic_fault.TrafficFault.{TrafficFault}
use Rattle.rsvp_bodies.specs.declared.traffic_fault.TrafficFault.TheVariants.{ServiceUnsupported, BadFlowspec}
use Rattle.sorted_rows.specs.ListLaws.{all-map, all-weaker}
use Rattle.sorted_rows.specs.RowsLaws.{all-below, first, second, ties}
use Rattle.lsr_facts.specs.Orders.{key_cmp, session_cmp, template_cmp}
use Rattle.lsr_facts.specs.OrderLaws.{session_exact, session_total}
use Rattle.lsr_facts.specs.declared.key.Key.{Key}
use Rattle.lsr_facts.specs.declared.claim.Claim.{Claim}
use Rattle.lsr_facts.specs.declared.resv_fact.ResvStyle.TheVariants.{FixedFilter, SharedExplicit}
use Rattle.lsr_facts.specs.Claims.{fixed_rate, greatest, is_fixed, is_of, is_shared, rate_of_all, session_rate, shared_rate}

-- a test of both, from each
both : (a b : Bool) → T a → T b → T (a && b)
both true b p q = q
both false b p q = p

-- what stands in front of rows in order is in order
module _ {K X : Type 0} (cmp : K → K → Ordering) where
  below_all-front : (x : K) (es fs : List (K × X)) → T (below_all cmp x (es ++ fs)) → T (below_all cmp x es)
  below_all-front x [] fs h = tt
  below_all-front x (e ∷ es) fs h = both _ _ (first _ _ h) (below_all-front x es fs (second _ _ h))

  pub is_sorted-front : (es fs : List (K × X)) → T (is_sorted cmp (es ++ fs)) → T (is_sorted cmp es)
  is_sorted-front [] fs h = tt
  is_sorted-front (e ∷ es) fs h = both _ _ (below_all-front e.0 es fs (first _ _ h)) (is_sorted-front es fs (second _ _ h))

-- sums of what agrees at each element
sum_by_agree : {A : Type 0} (f g : A → ℕ) (xs : List A) → AllByRecursion (λ x. f x ≡ g x) xs → sum_by f xs ≡ sum_by g xs
sum_by_agree f g [] h = refl
sum_by_agree f g (x ∷ xs) h =
    let here = h.0 in
    let rest = sum_by_agree f g xs h.1 in
    omega (arith, here, rest, sum_by-cons f x xs, sum_by-cons g x xs)

-- a sum over distinct elements, one of which came in front: where it stood in front already, and where it didn't
came_again : (ft fs gt gs before : ℕ) → fs ≡ gs → before ≡ gt + gs → ft + fs + gt ≡ before + ft
came_again ft fs gt gs before same is = omega arith

came_new : (ft fs gt gs before : ℕ) → fs ≡ gs → gt ≡ 0 → before ≡ gs → ft + fs + gt ≡ before + ft
came_new ft fs gt gs before same none is = omega arith

module _ {X : Type 0} (cmp : X → X → Ordering) (total : IsTotalOrder cmp) where
  -- what is below one that isn't above another is below that one
  pub below_upto : (x y z : X) → cmp x y ≡ Less → is_gt (cmp y z) ≡ false → cmp x z ≡ Less
  below_upto x y z low up =
      elim (cmp y z) as (λ o. cmp y z ≡ o → is_gt o ≡ false → cmp x z ≡ Less) [
        | Less ↦ λ is no. total.trans x y z low is
        | Equal ↦ λ is no. sym (alike_right total y z x is) ∙ low
        | Greater ↦ λ is no. cc
      ] refl up

  -- and what isn't above one that is below another is below that other
  pub upto_below : (x y z : X) → is_gt (cmp x y) ≡ false → cmp y z ≡ Less → cmp x z ≡ Less
  upto_below x y z up low =
      elim (cmp x y) as (λ o. cmp x y ≡ o → is_gt o ≡ false → cmp x z ≡ Less) [
        | Less ↦ λ is no. total.trans x y z is low
        | Equal ↦ λ is no. total.congr x y z is ∙ low
        | Greater ↦ λ is no. cc
      ] refl up

  -- what isn't above another and doesn't tie with it is below it
  pub below_apart : (x y : X) → is_gt (cmp x y) ≡ false → is_eq (cmp y x) ≡ false → cmp x y ≡ Less
  below_apart x y up apart =
      elim (cmp x y) as (λ o. cmp x y ≡ o → is_gt o ≡ false → cmp x y ≡ Less) [
        | Less ↦ λ is no. is
        | Equal ↦ λ is no. let tie = ap is_eq (tied_back total x y is) in cc
        | Greater ↦ λ is no. cc
      ] refl up

  -- and the other way round
  pub apart_below : (x y : X) → cmp x y ≡ Less → is_eq (cmp y x) ≡ false
  apart_below x y low = ap is_eq (total.antisymm y x ∙ ap ordering_reverse low)

  -- no element is above one behind it
  abbrev Rises : List X → Type 0
  Rises [] = Unit {0}
  Rises (x ∷ xs) = AllByRecursion (λ y. is_gt (cmp x y) ≡ false) xs × Rises xs

  -- the elements apart, without those in front that tie with t
  abbrev later : X → List X → List X
  later t [] = []
  later t (x ∷ xs) = cond (is_eq (cmp x t)) (later t xs) (dedup_from (λ a b. is_eq (cmp a b)) x xs)

  dedup-later : (t : X) (xs : List X) → dedup_from (λ a b. is_eq (cmp a b)) t xs ≡ t ∷ later t xs
  dedup-later t [] = refl
  dedup-later t (x ∷ xs) =
      elim (is_eq (cmp x t)) as (λ b. cond b (dedup_from (λ a b. is_eq (cmp a b)) t xs) (t ∷ dedup_from (λ a b. is_eq (cmp a b)) x xs) ≡ t ∷ cond b (later t xs) (dedup_from (λ a b. is_eq (cmp a b)) x xs)) [ true ↦ dedup-later t xs | false ↦ refl ]

  -- what holds of each element holds of each that is left
  all-dedup_from : (P : X → Type 0) (x : X) (xs : List X) → P x → AllByRecursion P xs → AllByRecursion P (dedup_from (λ a b. is_eq (cmp a b)) x xs)
  all-dedup_from P x [] p h = (p, tt)
  all-dedup_from P x (y ∷ ys) p h =
      elim (is_eq (cmp y x)) as (λ b. AllByRecursion P (cond b (dedup_from (λ a b. is_eq (cmp a b)) x ys) (x ∷ dedup_from (λ a b. is_eq (cmp a b)) y ys))) [ true ↦ all-dedup_from P x ys p h.1 | false ↦ (p, all-dedup_from P y ys h.0 h.1) ]

  -- those that are later than t are above it
  all-later : (t : X) (xs : List X) → Rises xs → AllByRecursion (λ y. is_gt (cmp t y) ≡ false) xs → AllByRecursion (λ y. cmp t y ≡ Less) (later t xs)
  all-later t [] h up = tt
  all-later t (x ∷ xs) h up =
      elim (is_eq (cmp x t)) as (λ b. is_eq (cmp x t) ≡ b → AllByRecursion (λ y. cmp t y ≡ Less) (cond b (later t xs) (dedup_from (λ a b. is_eq (cmp a b)) x xs))) [
        | true ↦ λ tie. all-later t xs h.1 up.1
        | false ↦ λ apart.
            let low = below_apart t x up.0 apart in
            let above = all-weaker (λ y. is_gt (cmp x y) ≡ false) (λ y. cmp t y ≡ Less) (λ y. below_upto t x y low) xs h.0 in
            all-dedup_from (λ y. cmp t y ≡ Less) x xs low above
      ] refl

  -- A sum over elements apart, after t came in front of them, by f where it was by g before: f is g above t, and g
  -- is 0 at t where t wasn't there.
  sum_by-dedup : ((x y : X) → cmp x y ≡ Equal → x ≡ y) → (f g : X → ℕ) (t : X) (xs : List X) → Rises (t ∷ xs) → ((y : X) → cmp t y ≡ Less → f y ≡ g y) → (AllByRecursion (λ y. cmp t y ≡ Less) xs → g t ≡ 0) → sum_by f (dedup (λ a b. is_eq (cmp a b)) (t ∷ xs)) + g t ≡ sum_by g (dedup (λ a b. is_eq (cmp a b)) xs) + f t
  sum_by-dedup exact f g t [] h agree none = let nothing : g t ≡ 0 = none tt in omega arith
  sum_by-dedup exact f g t (x ∷ xs) h agree none =
      let left = later t (x ∷ xs) in
      let above = all-later t (x ∷ xs) h.1 h.0 in
      let same = sum_by_agree f g left (all-weaker (λ y. cmp t y ≡ Less) (λ y. f y ≡ g y) agree left above) in
      let now = ap (sum_by f) (dedup-later t (x ∷ xs)) ∙ sum_by-cons f t left in
      ap (λ n. n + g t) now
      ∙ elim (is_eq (cmp x t)) as (λ b. is_eq (cmp x t) ≡ b → f t + sum_by f (later t (x ∷ xs)) + g t ≡ sum_by g (dedup (λ a b. is_eq (cmp a b)) (x ∷ xs)) + f t) [
        | true ↦ λ tie.
            let is : x ≡ t = exact x t (ties _ tie) in
            let stood : later t (x ∷ xs) ≡ later t xs = ap (λ b. cond b (later t xs) (dedup_from (λ a b. is_eq (cmp a b)) x xs)) tie in
            let before = ap (λ y. sum_by g (dedup_from (λ a b. is_eq (cmp a b)) y xs)) is ∙ ap (sum_by g) (dedup-later t xs) ∙ sum_by-cons g t (later t xs) ∙ ap (λ ys. g t + sum_by g ys) (sym stood) in
            came_again (f t) (sum_by f left) (g t) (sum_by g left) (sum_by g (dedup (λ a b. is_eq (cmp a b)) (x ∷ xs))) same before
        | false ↦ λ apart.
            let low = below_apart t x h.0.0 apart in
            let far = all-weaker (λ y. is_gt (cmp x y) ≡ false) (λ y. cmp t y ≡ Less) (λ y. below_upto t x y low) xs h.1.0 in
            let stood : later t (x ∷ xs) ≡ dedup (λ a b. is_eq (cmp a b)) (x ∷ xs) = ap (λ b. cond b (later t xs) (dedup_from (λ a b. is_eq (cmp a b)) x xs)) apart in
            came_new (f t) (sum_by f left) (g t) (sum_by g left) (sum_by g (dedup (λ a b. is_eq (cmp a b)) (x ∷ xs))) same (none (low, far)) (ap (sum_by g) (sym stood))
      ] refl

-- the greatest of numbers, one after the other
greatest-cons : (n : ℕ) (more : List ℕ) → greatest (n ∷ more) ≡ max n (greatest more)
greatest-cons n more =
    elim (nat_lt n (greatest more)) as (λ b. nat_lt n (greatest more) ≡ b → cond b (greatest more) n ≡ max n (greatest more)) [
      | true ↦ λ is. let low : n < greatest more = ltb-true n (greatest more) is in omega arith
      | false ↦ λ is. let high : greatest more ≤ n = ltb-false n (greatest more) is in omega arith
    ] refl

greatest_push : (ns : List ℕ) (n : ℕ) → greatest (ns ++ n ∷ []) ≡ max (greatest ns) n
greatest_push [] n = greatest-cons n [] ∙ omega arith
greatest_push (m ∷ ns) n =
    let whole = greatest-cons m (ns ++ n ∷ []) in
    let front = greatest-cons m ns in
    let rest = greatest_push ns n in
    omega (arith, whole, front, rest)

-- the claim is one of the session's, and shared; or fixed
abbrev is_shared_of : Session → Key × Claim → Bool
is_shared_of session claim = is_of session claim && is_shared claim.1.style

abbrev is_fixed_of : Session → Key × Claim → Bool
is_fixed_of session claim = is_of session claim && is_fixed claim.1.style

abbrev rate : Key × Claim → ℕ
rate claim = claim.1.rate

-- What the shared claims of a session take together, with one claim more.
pub shared_rate-push : (session : Session) (claim : Key × Claim) (claims : List (Key × Claim)) → shared_rate session (claims ++ claim ∷ []) ≡ cond (is_of session claim && is_shared claim.1.style) (max (shared_rate session claims) claim.1.rate) (shared_rate session claims)
shared_rate-push session claim claims =
    let of = filter (is_shared_of session) claims in
    ap (λ xs. greatest (map rate xs)) (filter-append (is_shared_of session) claims (claim ∷ []))
    ∙ elim (is_shared_of session claim) as (λ b. greatest (map rate (filter (is_shared_of session) claims ++ cond b (claim ∷ []) [])) ≡ cond b (max (shared_rate session claims) claim.1.rate) (shared_rate session claims)) [
      | true ↦ ap greatest (map-append rate of (claim ∷ [])) ∙ greatest_push (map rate of) claim.1.rate
      | false ↦ ap (λ xs. greatest (map rate xs)) (append-nil of)
    ]

-- And what the fixed ones take.
pub fixed_rate-push : (session : Session) (claim : Key × Claim) (claims : List (Key × Claim)) → fixed_rate session (claims ++ claim ∷ []) ≡ cond (is_of session claim && is_fixed claim.1.style) (fixed_rate session claims + claim.1.rate) (fixed_rate session claims)
fixed_rate-push session claim claims =
    let of = filter (is_fixed_of session) claims in
    ap (sum_by rate) (filter-append (is_fixed_of session) claims (claim ∷ []))
    ∙ elim (is_fixed_of session claim) as (λ b. sum_by rate (filter (is_fixed_of session) claims ++ cond b (claim ∷ []) []) ≡ cond b (fixed_rate session claims + claim.1.rate) (fixed_rate session claims)) [
      | true ↦ sum_by_push rate of claim
      | false ↦ ap (sum_by rate) (append-nil of)
    ]

-- a claim of another session behind others
session_rate-behind : (session : Session) (claim : Key × Claim) (claims : List (Key × Claim)) → is_of session claim ≡ false → session_rate (claims ++ claim ∷ []) session ≡ session_rate claims session
session_rate-behind session claim claims other =
    let shared = shared_rate-push session claim claims ∙ ap (λ b. cond (b && is_shared claim.1.style) (max (shared_rate session claims) claim.1.rate) (shared_rate session claims)) other in
    let fixed = fixed_rate-push session claim claims ∙ ap (λ b. cond (b && is_fixed claim.1.style) (fixed_rate session claims + claim.1.rate) (fixed_rate session claims)) other in
    λ i. shared i + fixed i

-- and in front of them
shared_rate-front : (session : Session) (claim : Key × Claim) (claims : List (Key × Claim)) → is_of session claim ≡ false → shared_rate session (claim ∷ claims) ≡ shared_rate session claims
shared_rate-front session claim claims other =
    let of = filter (is_shared_of session) claims in
    ap (λ b. greatest (map rate (cond (b && is_shared claim.1.style) (claim ∷ of) of))) other

fixed_rate-front : (session : Session) (claim : Key × Claim) (claims : List (Key × Claim)) → is_of session claim ≡ false → fixed_rate session (claim ∷ claims) ≡ fixed_rate session claims
fixed_rate-front session claim claims other =
    let of = filter (is_fixed_of session) claims in
    ap (λ b. sum_by rate (cond (b && is_fixed claim.1.style) (claim ∷ of) of)) other

session_rate-front : (session : Session) (claim : Key × Claim) (claims : List (Key × Claim)) → is_of session claim ≡ false → session_rate (claim ∷ claims) session ≡ session_rate claims session
session_rate-front session claim claims other =
    let shared = shared_rate-front session claim claims other in
    let fixed = fixed_rate-front session claim claims other in
    λ i. shared i + fixed i

-- where no claim is of the session, it shares nothing
pub shared_rate-none : (session : Session) (claims : List (Key × Claim)) → AllByRecursion (λ claim. is_of session claim ≡ false) claims → shared_rate session claims ≡ 0
shared_rate-none session [] apart = refl
shared_rate-none session (claim ∷ claims) apart = shared_rate-front session claim claims apart.0 ∙ shared_rate-none session claims apart.1

-- the sessions of claims, one for each claim
abbrev sessions : List (Key × Claim) → List Session
sessions claims = map (λ claim. claim.0.session) claims

-- a session below those of all claims takes nothing
session_rate-none : (session : Session) (claims : List (Key × Claim)) → AllByRecursion (λ other. session_cmp session other ≡ Less) (sessions claims) → session_rate claims session ≡ 0
session_rate-none session [] low = refl
session_rate-none session (claim ∷ claims) low =
    session_rate-front session claim claims (ap is_eq low.0) ∙ session_rate-none session claims low.1

-- in the order of keys the sessions don't fall
then_upto : (o p : Ordering) → ordering_then o p ≡ Less → is_gt o ≡ false
then_upto Less p is = refl
then_upto Equal p is = refl
then_upto Greater p is = cc

pub session_upto : (a b : Key) → key_cmp a b ≡ Less → is_gt (session_cmp a.session b.session) ≡ false
session_upto a b low = then_upto (session_cmp a.session b.session) (template_cmp a.sender b.sender) low

sessions_rise : (claims : List (Key × Claim)) → T (is_sorted key_cmp claims) → Rises session_cmp session_total (sessions claims)
sessions_rise [] h = tt
sessions_rise (claim ∷ claims) h =
    let behind = all-weaker (λ other. key_cmp claim.0 other.0 ≡ Less) (λ other. is_gt (session_cmp claim.0.session other.0.session) ≡ false) (λ other. session_upto claim.0 other.0) claims (all-below key_cmp claim.0 claims (first _ _ h)) in
    (all-map (λ session. is_gt (session_cmp claim.0.session session) ≡ false) (λ other. other.0.session) claims behind, sessions_rise claims (second _ _ h))

-- What claims take together, with one claim more in front: its session takes what it takes with it, in place of what
-- it took.
pub rate_of_all-front : (claim : Key × Claim) (claims : List (Key × Claim)) → T (is_sorted key_cmp (claim ∷ claims)) → rate_of_all (claim ∷ claims) + session_rate claims claim.0.session ≡ rate_of_all claims + session_rate (claim ∷ claims) claim.0.session
unfolding rate_of_all
rate_of_all-front claim claims h =
    let session = claim.0.session in
    sum_by-dedup session_cmp session_total session_exact (session_rate (claim ∷ claims)) (session_rate claims) session (sessions claims) (sessions_rise (claim ∷ claims) h) (λ other low. session_rate-front other claim claims (apart_below session_cmp session_total session other low)) (session_rate-none session claims)

-- the steps of the next law, where R is what all claims take and S what the session of one takes: with the claim d in
-- front or without, and with the claim c behind or without
same_step : (Rdc Rc Rd R Sdc Sc Sd S : ℕ) → Rdc + Sc ≡ Rc + Sdc → Rd + S ≡ R + Sd → Rc + S ≡ R + Sc → Rdc + Sd ≡ Rd + Sdc
same_step Rdc Rc Rd R Sdc Sc Sd S with_c without_c rest = omega arith

apart_step : (Rdc Rc Rd R Ddc Dc Dd D Sdc Sc Sd S : ℕ) → Rdc + Dc ≡ Rc + Ddc → Rd + D ≡ R + Dd → Rc + S ≡ R + Sc → Sd ≡ S → Sdc ≡ Sc → Dc ≡ D → Ddc ≡ Dd → Rdc + Sd ≡ Rd + Sdc
apart_step Rdc Rc Rd R Ddc Dc Dd D Sdc Sc Sd S with_c without_c rest a b e f = omega arith

-- And with one claim more behind the others.
pub rate_of_all-push : (claims : List (Key × Claim)) (claim : Key × Claim) → T (is_sorted key_cmp (claims ++ claim ∷ [])) → rate_of_all (claims ++ claim ∷ []) + session_rate claims claim.0.session ≡ rate_of_all claims + session_rate (claims ++ claim ∷ []) claim.0.session
rate_of_all-push [] claim h = rate_of_all-front claim [] h
rate_of_all-push (d ∷ claims) claim h =
    let more = claims ++ claim ∷ [] in
    let s = claim.0.session in
    let t = d.0.session in
    let with_c = rate_of_all-front d more h in
    let without_c = rate_of_all-front d claims (is_sorted-front key_cmp (d ∷ claims) (claim ∷ []) h) in
    let rest = rate_of_all-push claims claim (second _ _ h) in
    elim (is_of s d) as (λ b. is_of s d ≡ b → rate_of_all (d ∷ more) + session_rate (d ∷ claims) s ≡ rate_of_all (d ∷ claims) + session_rate (d ∷ more) s) [
      | true ↦ λ tie.
          let is : t ≡ s = sym (session_exact s t (ties _ tie)) in
          same_step (rate_of_all (d ∷ more)) (rate_of_all more) (rate_of_all (d ∷ claims)) (rate_of_all claims) (session_rate (d ∷ more) s) (session_rate more s) (session_rate (d ∷ claims) s) (session_rate claims s)
          (subst (λ x. rate_of_all (d ∷ more) + session_rate more x ≡ rate_of_all more + session_rate (d ∷ more) x) is with_c)
          (subst (λ x. rate_of_all (d ∷ claims) + session_rate claims x ≡ rate_of_all claims + session_rate (d ∷ claims) x) is without_c)
          rest
      | false ↦ λ apart.
          let turned : is_of t claim ≡ false = (eq_by_cmp_equiv session_total).symm t s ∙ apart in
          apart_step (rate_of_all (d ∷ more)) (rate_of_all more) (rate_of_all (d ∷ claims)) (rate_of_all claims) (session_rate (d ∷ more) t) (session_rate more t) (session_rate (d ∷ claims) t) (session_rate claims t) (session_rate (d ∷ more) s) (session_rate more s) (session_rate (d ∷ claims) s) (session_rate claims s) with_c without_c rest (session_rate-front s d claims apart) (session_rate-front s d more apart) (session_rate-behind t claim claims turned) (session_rate-behind t claim (d ∷ claims) turned)
    ] refl

-- a claim is one of its own session's
is_of-itself : (claim : Key × Claim) → is_of claim.0.session claim ≡ true
is_of-itself claim = ap is_eq (tied_itself session_total claim.0.session)

-- the steps of the next two laws
fixed_step : (Rc R shared fixed rate : ℕ) → Rc + (shared + fixed) ≡ R + (shared + (fixed + rate)) → Rc ≡ R + rate
fixed_step Rc R shared fixed rate is = omega arith

shared_step : (Rc R shared fixed rate : ℕ) → Rc + (shared + fixed) ≡ R + (max shared rate + fixed) → Rc ≡ R + (rate - shared)
shared_step Rc R shared fixed rate is = omega arith

-- A fixed claim behind others adds its rate.
pub rate_of_all-push_fixed : (claims : List (Key × Claim)) (claim : Key × Claim) → T (is_sorted key_cmp (claims ++ claim ∷ [])) → claim.1.style ≡ FixedFilter → rate_of_all (claims ++ claim ∷ []) ≡ rate_of_all claims + claim.1.rate
rate_of_all-push_fixed claims claim h style =
    let s = claim.0.session in
    let one = is_of-itself claim in
    let shared : shared_rate s (claims ++ claim ∷ []) ≡ shared_rate s claims = shared_rate-push s claim claims ∙ (λ i. cond (one i && is_shared (style i)) (max (shared_rate s claims) claim.1.rate) (shared_rate s claims)) in
    let fixed : fixed_rate s (claims ++ claim ∷ []) ≡ fixed_rate s claims + claim.1.rate = fixed_rate-push s claim claims ∙ (λ i. cond (one i && is_fixed (style i)) (fixed_rate s claims + claim.1.rate) (fixed_rate s claims)) in
    fixed_step (rate_of_all (claims ++ claim ∷ [])) (rate_of_all claims) (shared_rate s claims) (fixed_rate s claims) claim.1.rate (rate_of_all-push claims claim h ∙ (λ i. rate_of_all claims + (shared i + fixed i)))

-- A shared one adds that part of its rate that its session doesn't share yet.
pub rate_of_all-push_shared : (claims : List (Key × Claim)) (claim : Key × Claim) → T (is_sorted key_cmp (claims ++ claim ∷ [])) → claim.1.style ≡ SharedExplicit → rate_of_all (claims ++ claim ∷ []) ≡ rate_of_all claims + (claim.1.rate - shared_rate claim.0.session claims)
rate_of_all-push_shared claims claim h style =
    let s = claim.0.session in
    let one = is_of-itself claim in
    let shared : shared_rate s (claims ++ claim ∷ []) ≡ max (shared_rate s claims) claim.1.rate = shared_rate-push s claim claims ∙ (λ i. cond (one i && is_shared (style i)) (max (shared_rate s claims) claim.1.rate) (shared_rate s claims)) in
    let fixed : fixed_rate s (claims ++ claim ∷ []) ≡ fixed_rate s claims = fixed_rate-push s claim claims ∙ (λ i. cond (one i && is_fixed (style i)) (fixed_rate s claims + claim.1.rate) (fixed_rate s claims)) in
    shared_step (rate_of_all (claims ++ claim ∷ [])) (rate_of_all claims) (shared_rate s claims) (fixed_rate s claims) claim.1.rate (rate_of_all-push claims claim h ∙ (λ i. rate_of_all claims + (shared i + fixed i)))

-- a significand of at most 24 bits with an exponent up to 176 stands for 2 ^ 50 at most
scaled_up-most : (s e : ℕ) (near : Bool) → s < 2 ^ 24 → e ≤ 176 → (if near then div_ceil s (2 ^ (150 - e)) else s * 2 ^ (e - 150)) ≤ 2 ^ 50
scaled_up-most s e true fits defined = omega (arith, div-le_self s (2 ^ (150 - e)))
scaled_up-most s e false fits defined =
    let some : 0 < 2 = omega arith in
    let exponent : e - 150 ≤ 26 = omega arith in
    let power : 2 ^ (e - 150) ≤ 2 ^ 26 = pow-le-pow_right some exponent in
    let significand : s ≤ 2 ^ 24 = omega arith in
    let product : s * 2 ^ (e - 150) ≤ 2 ^ 24 * 2 ^ 26 = mul-le s (2 ^ (e - 150)) (2 ^ 24) (2 ^ 26) significand power in
    omega arith

-- the cases of a rate, by what the tests of its fields say
cases-most : (e f n : ℕ) (zero_exponent zero_fraction negative large : Bool) → f < 2 ^ 23 → nat_lt 176 e ≡ large
    → ◌≡◌ {A = Option ℕ} (if zero_exponent && zero_fraction then Some 0 else if negative || large then None else if zero_exponent then Some 1 else Some (scaled_up (2 ^ 23 + f) e)) (Some n)
    → n ≤ 2 ^ 50
cases-most e f n true true negative large fits is_large is = let none : 0 ≡ n = cc in omega arith
cases-most e f n true false true large fits is_large is = absurd cc
cases-most e f n true false false true fits is_large is = absurd cc
cases-most e f n true false false false fits is_large is = let one : 1 ≡ n = cc in omega arith
cases-most e f n false none true large fits is_large is = absurd cc
cases-most e f n false none false true fits is_large is = absurd cc
cases-most e f n false none false false fits is_large is =
    let scaled : scaled_up (2 ^ 23 + f) e ≡ n = cc in
    let near : e ≤ 176 = ltb-false 176 e is_large in
    let few : 2 ^ 23 + f < 2 ^ 24 = omega arith in
    let most : scaled_up (2 ^ 23 + f) e ≤ 2 ^ 50 = scaled_up-most (2 ^ 23 + f) e (nat_lt e 150) few near in
    omega arith

-- the rate that a word stands for is at most 2 ^ 50
rate_of-most : (word n : ℕ) → rate_of word ≡ Some n → n ≤ 2 ^ 50
unfolding rate_of
rate_of-most word n is =
    let some : 0 < 2 ^ 23 = pow_pos 23 in
    let fits : fraction_of word < 2 ^ 23 = mod-lt word some in
    cases-most (exponent_of word) (fraction_of word) n (exponent_of word == 0) (fraction_of word == 0) (sign_of word == 1) (nat_lt 176 (exponent_of word)) fits refl is

-- what a test by a word, if there is one, answers
word-most : (word : Option ℕ) (n : ℕ) → option_and_then rate_of word ≡ Some n → n ≤ 2 ^ 50
word-most None n is = absurd cc
word-most (Some word) n is = rate_of-most word n is

-- what a rate stands for that is no fault
ok-some : (o : Option ℕ) (fault : TrafficFault) (n : ℕ) → ok_or o fault ≡ Ok n → o ≡ Some n
ok-some None fault n is = absurd cc
ok-some (Some m) fault n is = let same : m ≡ n = cc in ap Some same

flowspec-some : (short controlled : Bool) (o : Option ℕ) (n : ℕ) → ◌≡◌ {A = Result ℕ TrafficFault} (if short then Err BadFlowspec else if controlled then ok_or o BadFlowspec else Err ServiceUnsupported) (Ok n) → o ≡ Some n
flowspec-some true controlled o n is = absurd cc
flowspec-some false true o n is = ok-some o BadFlowspec n is
flowspec-some false false o n is = absurd cc

-- The rate of a FLOWSPEC is at most 2 ^ 50, where it has one.
pub flowspec_rate-most : (flowspec : List ℕ) (n : ℕ) → flowspec_rate flowspec ≡ Ok n → n ≤ 2 ^ 50
unfolding flowspec_rate token_rate
flowspec_rate-most flowspec n is =
    word-most (rate_word_of 5 flowspec) n (flowspec-some (nat_lt (length flowspec) 8) (service_of flowspec == 5) (token_rate 5 flowspec) n is)
