-- How much claims can reserve.
use Rattle.std.proofs.Common.{◌≡◌, ℕ, suc, ◌+◌, ◌*◌, ◌<◌, ◌≤◌, ◌^◌, T, Bool, true, false, cond, if◌then◌else◌, ◌&&◌, List, [], ◌∷◌, length, nat_lt, arith}
use Rattle.std.specs.FinMap.Entries.{is_sorted}
use Rattle.std.specs.List.{filter, sum_by}
use Rattle.std.specs.Prelude.{map}
use Rattle.std.proofs.lemmas.Bool.Decides.{nat_tests}
use Rattle.std.proofs.lemmas.List.Sums.{count_by-le-length, length-filter, sum_by-cons}
use Rattle.sorted_rows.specs.ListLaws.{all-filter}
use Rattle.sorted_rows.specs.RowsLaws.{is_sorted-filter, second}
use Rattle.lsr_facts.specs.Orders.{key_cmp}
use Rattle.lsr_facts.specs.declared.key.Key.{Key}
use Rattle.lsr_facts.specs.ClaimLaws.{rate_of_all-front}
use Rattle.lsr_facts.specs.Claims.{counts, greatest, is_fixed, is_of, is_shared, rate_of_all, reserved_of, session_rate}
use Rattle.lsr_facts.specs.declared.claim.Claim.{Claim}
use Rattle.admission.specs.Bandwidths.{AreRated}
use Rattle.admission.proofs.Splitting.{rate_of_none}

-- the greater of two numbers is at most both together
greater_most : (n g : ℕ) → (if nat_lt n g then g else n) ≤ g + n
greater_most n g = grind (arith, nat_tests)

-- one claim more, counted or not, adds at most its rate
module _ (claim : Key × Claim) where
  abbrev with_it : Bool → List (Key × Claim) → List (Key × Claim)
  with_it b claims = cond b (claim ∷ claims) claims

  abbrev rate : Key × Claim → ℕ
  rate row = row.1.rate

  greatest_more : (b : Bool) (claims : List (Key × Claim)) → greatest (map rate (with_it b claims)) ≤ greatest (map rate claims) + claim.1.rate
  greatest_more true claims = greater_most claim.1.rate (greatest (map rate claims))
  greatest_more false claims = omega arith

  sum_more : (b : Bool) (claims : List (Key × Claim)) → sum_by rate (with_it b claims) ≤ sum_by rate claims + claim.1.rate
  sum_more true claims = omega (arith, sum_by-cons rate claim claims)
  sum_more false claims = omega arith

-- the step of the next law, where R is what all take, and S what the session of one takes: each also with that one in front
most_step : (Rc R Sc S rate n : ℕ) → Rc + S ≡ R + Sc → Sc ≤ S + (rate + rate) → rate ≤ 2 ^ 50 → R ≤ n * 2 ^ 51 → Rc ≤ suc n * 2 ^ 51
most_step Rc R Sc S rate n front more one rest = omega arith

-- Claims in order take at most twice the greatest rate for each.
rate_of_all-most : (claims : List (Key × Claim)) → T (is_sorted key_cmp claims) → AreRated claims → rate_of_all claims ≤ length claims * 2 ^ 51
rate_of_all-most [] h rated = omega (arith, rate_of_none)
rate_of_all-most (claim ∷ claims) h rated =
    let s = claim.0.session in
    let shares : Key × Claim → Bool = λ row. is_of s row && is_shared row.1.style in
    let fixes : Key × Claim → Bool = λ row. is_of s row && is_fixed row.1.style in
    let shared = greatest_more claim (shares claim) (filter shares claims) in
    let fixed = sum_more claim (fixes claim) (filter fixes claims) in
    let more : session_rate (claim ∷ claims) s ≤ session_rate claims s + (claim.1.rate + claim.1.rate) = omega (arith, shared, fixed) in
    most_step (rate_of_all (claim ∷ claims)) (rate_of_all claims) (session_rate (claim ∷ claims) s) (session_rate claims s) claim.1.rate (length claims) (rate_of_all-front claim claims h) more rated.0 (rate_of_all-most claims (second _ _ h) rated.1)

-- what is reserved of a link is at most twice the greatest rate for each claim.
reserved_of-most : (link p : ℕ) (claims : List (Key × Claim)) → T (is_sorted key_cmp claims) → AreRated claims → reserved_of link p claims ≤ length claims * 2 ^ 51
unfolding reserved_of
reserved_of-most link p claims h rated =
    let counted = counts link p in
    let few = rate_of_all-most (filter counted claims) (is_sorted-filter key_cmp counted claims h) (all-filter (λ claim. claim.1.rate ≤ 2 ^ 50) counted claims rated) in
    omega (arith, few, length-filter counted claims, count_by-le-length counted claims)

-- So it fits, where there are few claims.
pub reserved_of-fits : (link p : ℕ) (claims : List (Key × Claim)) → T (is_sorted key_cmp claims) → AreRated claims → length claims ≤ 1025 → reserved_of link p claims < 2 ^ 64
reserved_of-fits link p claims h rated few = omega (arith, reserved_of-most link p claims h rated, few)
