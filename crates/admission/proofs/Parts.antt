-- What the claims of one session take, added up one after the other.
use Rattle.std.proofs.Common.{◌≡◌, ℕ, ◌+◌, ◌<◌, ◌≤◌, ◌^◌, ◌*◌, max, T, Bool, true, false, cond, if◌then◌else◌, ◌&&◌, List, [], ◌∷◌, ◌++◌, length, get_or, take, sym, ap, subst, ◌∙◌, arith, append-nil}
use Rattle.std.specs.FinMap.Entries.{is_sorted}
use Rattle.std.specs.List.{AllByRecursion, filter}
use Rattle.std.proofs.lemmas.List.Elements.{All-from_recursion, filter_more}
use Rattle.rsvp_objects.specs.declared.values.Session.{Session}
use Rattle.sorted_rows.specs.ListLaws.{all-filter}
use Rattle.sorted_rows.specs.RowsLaws.{is_sorted-filter, second, ties}
use Rattle.lsr_facts.specs.Orders.{key_cmp}
use Rattle.lsr_facts.specs.OrderLaws.{session_exact}
use Rattle.lsr_facts.specs.declared.key.Key.{Key}
use Rattle.lsr_facts.specs.ClaimLaws.{fixed_rate-push, rate_of_all-front, shared_rate-push}
use Rattle.lsr_facts.specs.Claims.{counts, fixed_rate, is_fixed, is_of, is_shared, rate_of_all, reserved_of, session_rate, shared_rate}
use Rattle.lsr_facts.specs.declared.claim.Claim.{Claim}
use Rattle.admission.specs.Sums.{IsRateOf}
use Rattle.admission.specs.declared.run.SessionRate.{SessionRate}
use Rattle.admission.proofs.Splitting.{rate_of_none}

-- the step of the next law
one_step : (Rc R Sc S : ℕ) → Rc + S ≡ R + Sc → R ≡ S → Rc ≡ Sc
one_step Rc R Sc S front rest = omega arith

-- claims of one session take together what the session takes
rate_of_one : (session : Session) (claims : List (Key × Claim)) → T (is_sorted key_cmp claims) → AllByRecursion (λ row. is_of session row ≡ true) claims → rate_of_all claims ≡ session_rate claims session
rate_of_one session [] h own = rate_of_none
rate_of_one session (claim ∷ claims) h own =
    let front = subst (λ s. rate_of_all (claim ∷ claims) + session_rate claims s ≡ rate_of_all claims + session_rate (claim ∷ claims) s) (sym (session_exact session claim.0.session (ties _ own.0))) (rate_of_all-front claim claims h) in
    one_step (rate_of_all (claim ∷ claims)) (rate_of_all claims) (session_rate (claim ∷ claims) session) (session_rate claims session) front (rate_of_one session claims (second _ _ h) own.1)

-- What claims of one session reserve is what those take that count.
pub reserved_of-one : (link p : ℕ) (session : Session) (claims : List (Key × Claim)) → T (is_sorted key_cmp claims) → AllByRecursion (λ row. is_of session row ≡ true) claims → reserved_of link p claims ≡ session_rate (filter (counts link p) claims) session
unfolding reserved_of
reserved_of-one link p session claims h own =
    let counted = counts link p in
    rate_of_one session (filter counted claims) (is_sorted-filter key_cmp counted claims h) (all-filter (λ row. is_of session row ≡ true) counted claims own)

-- so does a rate that was added up of all of them
pub part_is : (link p : ℕ) (session : Session) (claims : List (Key × Claim)) (rate : SessionRate) → T (is_sorted key_cmp claims) → AllByRecursion (λ row. is_of session row ≡ true) claims → IsRateOf session (filter (counts link p) claims) rate → rate.shared + rate.fixed ≡ reserved_of link p claims
part_is link p session claims rate h own is = (λ i. is.shared i + is.fixed i) ∙ sym (reserved_of-one link p session claims h own)

-- no claims take nothing
pub rate_of_nothing : (session : Session) (rate : SessionRate) → rate.shared ≡ 0 → rate.fixed ≡ 0 → IsRateOf session [] rate
rate_of_nothing session rate shared fixed = record { shared = shared; fixed = fixed }

-- one claim more is added where it passes a test, and left out where it fails it
module _ (session : Session) (p : Key × Claim → Bool) (xs : List (Key × Claim)) (i : ℕ) (d : Key × Claim) (within : i < length xs) where
  front_with : (b : Bool) → p (get_or xs i d) ≡ b → filter p (take i xs) ++ cond b (get_or xs i d ∷ []) [] ≡ filter p (take (i + 1) xs)
  front_with b answer = sym (filter_more p xs i d within ∙ ap (λ t. filter p (take i xs) ++ cond t (get_or xs i d ∷ []) []) answer)

  pub rate_more : (before after : SessionRate) → AllByRecursion (λ row. is_of session row ≡ true) xs → p (get_or xs i d) ≡ true → after.shared ≡ (if is_shared (get_or xs i d).1.style then max before.shared (get_or xs i d).1.rate else before.shared) → after.fixed ≡ (if is_fixed (get_or xs i d).1.style then before.fixed + (get_or xs i d).1.rate else before.fixed) → IsRateOf session (filter p (take i xs)) before → IsRateOf session (filter p (take (i + 1) xs)) after
  rate_more before after own passes shared fixed is =
      let row = get_or xs i d in
      let kept = filter p (take i xs) in
      let one : is_of session row ≡ true = All-from_recursion (λ r. is_of session r ≡ true) xs own i d within in
      let shares = shared_rate-push session row kept ∙ ap (λ b. cond (b && is_shared row.1.style) (max (shared_rate session kept) row.1.rate) (shared_rate session kept)) one in
      let fixes = fixed_rate-push session row kept ∙ ap (λ b. cond (b && is_fixed row.1.style) (fixed_rate session kept + row.1.rate) (fixed_rate session kept)) one in
      let all : IsRateOf session (kept ++ row ∷ []) after = record {
        shared = shared ∙ ap (λ n. cond (is_shared row.1.style) (max n row.1.rate) n) is.shared ∙ sym shares;
        fixed = fixed ∙ ap (λ n. cond (is_fixed row.1.style) (n + row.1.rate) n) is.fixed ∙ sym fixes;
      } in
      subst (λ rows. IsRateOf session rows after) (front_with true passes) all

  pub rate_same : (before : SessionRate) → p (get_or xs i d) ≡ false → IsRateOf session (filter p (take i xs)) before → IsRateOf session (filter p (take (i + 1) xs)) before
  rate_same before fails is = subst (λ rows. IsRateOf session rows before) (sym (append-nil (filter p (take i xs))) ∙ front_with false fails) is

-- and the fixed ones stay within so many times the greatest rate
pub fixed_most : (style : Bool) (i before after rate : ℕ) → before ≤ i * 2 ^ 50 → rate ≤ 2 ^ 50 → after ≡ (if style then before + rate else before) → after ≤ (i + 1) * 2 ^ 50
fixed_most true i before after rate low one is = omega (arith, low, one, is)
fixed_most false i before after rate low one is = omega (arith, low, is)
