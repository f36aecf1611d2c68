-- What claims take together is what those of some sessions take, and what those of the others take.
use Rattle.std.proofs.Common.{◌≡◌, ℕ, ◌+◌, T, Bool, true, false, cond, not, ◌&&◌, List, [], ◌∷◌, refl, sym, ap, subst, ◌∙◌, arith}
use Rattle.std.specs.FinMap.Entries.{is_sorted}
use Rattle.std.specs.List.{filter, sum_by}
use Rattle.std.specs.Prelude.{map}
use Rattle.std.proofs.lemmas.Bool.{and_parts}
use Rattle.rsvp_objects.specs.declared.values.Session.{Session}
use Rattle.sorted_rows.specs.ListLaws.{all-always}
use Rattle.sorted_rows.specs.RowsLaws.{is_sorted-filter, second, ties}
use Rattle.lsr_facts.specs.Orders.{key_cmp}
use Rattle.lsr_facts.specs.OrderLaws.{session_exact}
use Rattle.lsr_facts.specs.declared.key.Key.{Key}
use Rattle.lsr_facts.specs.ClaimLaws.{rate_of_all-front}
use Rattle.lsr_facts.specs.Claims.{counts, greatest, is_fixed, is_of, is_same_session, is_shared, rate_of_all, reserved_of, session_rate}
use Rattle.lsr_facts.specs.SumLaws.{filter_swap, filter_within}
use Rattle.lsr_facts.specs.declared.claim.Claim.{Claim}

-- no claims take nothing
pub rate_of_none : rate_of_all [] ≡ 0
unfolding rate_of_all
rate_of_none = refl

-- a session takes the same of fewer claims that have all of its own
rate-kept : (g : Key × Claim → Bool) (session : Session) → ((claim : Key × Claim) → is_of session claim ≡ true → g claim ≡ true) → (claims : List (Key × Claim)) → session_rate (filter g claims) session ≡ session_rate claims session
rate-kept g session keeps claims =
    let shares : Key × Claim → Bool = λ claim. is_of session claim && is_shared claim.1.style in
    let fixes : Key × Claim → Bool = λ claim. is_of session claim && is_fixed claim.1.style in
    let shared = filter_within shares g claims (all-always (λ claim. shares claim ≡ true → g claim ≡ true) (λ claim is. keeps claim (and_parts (is_of session claim) (is_shared claim.1.style) is).0) claims) in
    let fixed = filter_within fixes g claims (all-always (λ claim. fixes claim ≡ true → g claim ≡ true) (λ claim is. keeps claim (and_parts (is_of session claim) (is_fixed claim.1.style) is).0) claims) in
    λ i. greatest (map (λ claim. claim.1.rate) (shared i)) + sum_by (λ claim. claim.1.rate) (fixed i)

-- the steps, where R is what all take, O what the one part takes, T what the other takes, and S what a session takes:
-- each also with one claim more in front
front_step : (Rc R Oc O Sc S Soc So : ℕ) → Rc + S ≡ R + Sc → Oc + So ≡ O + Soc → So ≡ S → Soc ≡ Sc → Oc + R ≡ O + Rc
front_step Rc R Oc O Sc S Soc So all part same same_more = omega arith

own_step : (Rc R Oc O T : ℕ) → Oc + R ≡ O + Rc → R ≡ O + T → Rc ≡ Oc + T
own_step Rc R Oc O T front before = omega arith

other_step : (Rc R O Tc T : ℕ) → Tc + R ≡ T + Rc → R ≡ O + T → Rc ≡ O + Tc
other_step Rc R O Tc T front before = omega arith

-- a claim in front adds as much to those that have all of its session as to all
front-kept : (f : Session → Bool) (claim : Key × Claim) (claims : List (Key × Claim)) → f claim.0.session ≡ true → T (is_sorted key_cmp (claim ∷ claims)) → rate_of_all (claim ∷ filter (λ row. f row.0.session) claims) + rate_of_all claims ≡ rate_of_all (filter (λ row. f row.0.session) claims) + rate_of_all (claim ∷ claims)
front-kept f claim claims passes h =
    let s = claim.0.session in
    let g : Key × Claim → Bool = λ row. f row.0.session in
    let kept = filter g claims in
    let with_it = λ (b : Bool). cond b (claim ∷ kept) kept in
    let keeps : (row : Key × Claim) → is_of s row ≡ true → g row ≡ true = λ row tie. ap f (sym (session_exact s row.0.session (ties _ tie))) ∙ passes in
    let sorted : T (is_sorted key_cmp (claim ∷ kept)) = subst (λ b. T (is_sorted key_cmp (with_it b))) passes (is_sorted-filter key_cmp g (claim ∷ claims) h) in
    let more : session_rate (claim ∷ kept) s ≡ session_rate (claim ∷ claims) s = subst (λ b. session_rate (with_it b) s ≡ session_rate (claim ∷ claims) s) passes (rate-kept g s keeps (claim ∷ claims)) in
    front_step (rate_of_all (claim ∷ claims)) (rate_of_all claims) (rate_of_all (claim ∷ kept)) (rate_of_all kept) (session_rate (claim ∷ claims) s) (session_rate claims s) (session_rate (claim ∷ kept) s) (session_rate kept s)
    (rate_of_all-front claim claims h) (rate_of_all-front claim kept sorted) (rate-kept g s keeps claims) more

-- The claims of the sessions that pass a test take what they take, and so do the others.
pub rate_of_all-split : (f : Session → Bool) (claims : List (Key × Claim)) → T (is_sorted key_cmp claims) → rate_of_all claims ≡ rate_of_all (filter (λ row. f row.0.session) claims) + rate_of_all (filter (λ row. not (f row.0.session)) claims)
rate_of_all-split f [] h = omega (arith, rate_of_none)
rate_of_all-split f (claim ∷ claims) h =
    let ours = filter (λ (row : Key × Claim). f row.0.session) claims in
    let theirs = filter (λ (row : Key × Claim). not (f row.0.session)) claims in
    let before = rate_of_all-split f claims (second _ _ h) in
    elim (f claim.0.session) as (λ b. f claim.0.session ≡ b → rate_of_all (claim ∷ claims) ≡ rate_of_all (cond b (claim ∷ ours) ours) + rate_of_all (cond (not b) (claim ∷ theirs) theirs)) [
      | true ↦ λ is. own_step (rate_of_all (claim ∷ claims)) (rate_of_all claims) (rate_of_all (claim ∷ ours)) (rate_of_all ours) (rate_of_all theirs) (front-kept f claim claims is h) before
      | false ↦ λ is. other_step (rate_of_all (claim ∷ claims)) (rate_of_all claims) (rate_of_all ours) (rate_of_all (claim ∷ theirs)) (rate_of_all theirs) (front-kept (λ s. not (f s)) claim claims (ap not is) h) before
    ] refl

-- Of a link is reserved what the claims of a session reserve, and what the others reserve.
pub reserved_of-split : (link p : ℕ) (session : Session) (claims : List (Key × Claim)) → T (is_sorted key_cmp claims) → reserved_of link p claims ≡ reserved_of link p (filter (is_of session) claims) + reserved_of link p (filter (λ row. not (is_of session row)) claims)
unfolding reserved_of
reserved_of-split link p session claims h =
    let counted = counts link p in
    let ours = filter_swap (is_of session) counted claims in
    let theirs = filter_swap (λ row. not (is_of session row)) counted claims in
    rate_of_all-split (is_same_session session) (filter counted claims) (is_sorted-filter key_cmp counted claims h)
    ∙ (λ i. rate_of_all (ours i) + rate_of_all (theirs i))
