-- The claims with a request granted, from which others are taken one after the other.
use Rattle.std.proofs.Common.{◌≡◌, ℕ, ◌+◌, ◌<◌, ◌≤◌, ◌^◌, T, true, false, not, List, length, get_or, take, refl, ap, ◌∙◌, arith}
use Rattle.std.specs.FinMap.Entries.{is_sorted, is_sorted-put, where_key}
use Rattle.std.specs.List.{All}
use Rattle.std.specs.Ordering.{is_eq}
use Rattle.std.proofs.lemmas.Cmp.{eq_by_cmp_equiv}
use Rattle.sorted_rows.specs.ListLaws.{all-always}
use Rattle.sorted_rows.specs.RowsLaws.{all-put, length-put-le}
use Rattle.lsr_facts.specs.Orders.{key_cmp}
use Rattle.lsr_facts.specs.OrderLaws.{key_exact, key_total}
use Rattle.lsr_facts.specs.declared.key.Key.{Key}
use Rattle.lsr_facts.specs.Admission.{can_give_way, granted, in_turn, without}
use Rattle.lsr_facts.specs.AdmissionLaws.{can_give_way-means}
use Rattle.lsr_facts.specs.SumLaws.{where_key-put}
use Rattle.lsr_facts.specs.TurnLaws.{all-in_turn}
use Rattle.lsr_facts.specs.declared.claim.Claim.{Claim}
use Rattle.lsr_facts.specs.declared.claim.Request.{Request}
use Rattle.admission.specs.Bandwidths.{AreRated}
use Rattle.admission.proofs.Turns.{left_few, left_next, left_rated, left_sorted}

-- None who has its turn is the request's own LSP.
pub turns_apart : (request : Request) (claims : List (Key × Claim)) → All (λ key. is_eq (key_cmp key request.key) ≡ false) (in_turn request claims)
turns_apart request claims =
    let Apart : Key × Claim → Type 0 = λ claim. can_give_way request claim ≡ true → is_eq (key_cmp claim.0 request.key) ≡ false in
    all-in_turn (λ key. is_eq (key_cmp key request.key) ≡ false) request claims
    (all-always Apart (λ claim can. (eq_by_cmp_equiv key_total).symm claim.0 request.key ∙ (can_give_way-means request claim can).2) claims)

module _ (request : Request) (keys : List Key) (claims : List (Key × Claim)) where
  -- the claims that are left are in order, with their rates in range, and one more than before at most
  pub granted_sorted : T (is_sorted key_cmp claims) → T (is_sorted key_cmp (granted request (without keys claims)))
  granted_sorted h = is_sorted-put key_cmp key_total request.key request.claim (without keys claims) (left_sorted keys claims h)

  pub granted_rated : request.claim.rate ≤ 2 ^ 50 → AreRated claims → AreRated (granted request (without keys claims))
  granted_rated most rated = all-put key_cmp (λ (c : Claim). c.rate ≤ 2 ^ 50) request.key request.claim most (without keys claims) (left_rated keys claims rated)

  pub granted_few : length claims ≤ 1024 → length (granted request (without keys claims)) ≤ 1025
  granted_few few = omega (arith, left_few keys claims few, length-put-le key_cmp request.key request.claim (without keys claims))

-- One more of a list goes, and the request stays granted.
pub granted_next : (request : Request) (keys : List Key) (i : ℕ) (d : Key) → i < length keys → is_eq (key_cmp (get_or keys i d) request.key) ≡ false → (claims left now : List (Key × Claim)) → T (is_sorted key_cmp claims) → left ≡ granted request (without (take i keys) claims) → now ≡ where_key key_cmp (λ other. not (is_eq (key_cmp (get_or keys i d) other))) left → now ≡ granted request (without (take (i + 1) keys) claims)
granted_next request keys i d within apart claims left now h before is =
    let stays = λ (other : Key). not (is_eq (key_cmp (get_or keys i d) other)) in
    let rest = without (take i keys) claims in
    is
    ∙ ap (where_key key_cmp stays) before
    ∙ where_key-put key_cmp key_total key_exact stays request.key request.claim rest (ap not apart) (left_sorted (take i keys) claims h)
    ∙ ap (granted request) (left_next keys i d within claims rest (where_key key_cmp stays rest) refl refl)
