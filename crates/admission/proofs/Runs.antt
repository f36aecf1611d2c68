-- The claims of a session stand together in the order of keys.
use borrow.Author.Count.{below_more}
use Rattle.std.proofs.Common.{◌≡◌, ℕ, zero, suc, ◌-◌, ◌<◌, ◌≤◌, T, Bool, true, false, cond, not, ◌&&◌, List, [], ◌∷◌, ◌+◌, length, get_or, take, drop, refl, sym, ap, subst, ◌∙◌, arith}
use Rattle.std.specs.FinMap.Entries.{is_sorted}
use Rattle.std.specs.List.{HoldsAt, filter}
use Rattle.std.specs.List.Sorted.{IsPartitionPoint, IsPartitionedBy}
use Rattle.std.specs.Ordering.{is_eq, is_gt, is_le, is_lt, ordering_reverse}
use Rattle.std.specs.declared.cmp.Ordering.{Ordering}
use Rattle.std.specs.declared.cmp.Ordering.TheVariants.{Less, Equal, Greater}
use Rattle.std.proofs.lemmas.Cmp.{tied_itself}
use Rattle.std.proofs.lemmas.List.{get_or_default, take_rest}
use Rattle.std.proofs.lemmas.List.Elements.{All-from_recursion, filter_agree}
use Rattle.rsvp_objects.specs.declared.values.Session.{Session}
use Rattle.sorted_rows.specs.RowsLaws.{all-below, first, is_sorted-filter, second}
use Rattle.lsr_facts.specs.Orders.{key_cmp, session_cmp}
use Rattle.lsr_facts.specs.OrderLaws.{session_exact, session_total}
use Rattle.lsr_facts.specs.declared.key.Key.{Key}
use Rattle.lsr_facts.specs.ClaimLaws.{session_upto, upto_below}
use Rattle.lsr_facts.specs.Claims.{is_of}
use Rattle.lsr_facts.specs.SumLaws.{filter-filter}
use Rattle.lsr_facts.specs.declared.claim.Claim.{Claim}
use Rattle.admission.specs.Runs.{IsStart, comes_before}

-- a list that a point parts: those before it are those that pass, and those from it on are those that fail
module _ {A : Type 0} (p : A → Bool) where
  parted : (xs : List A) (n : ℕ) → n ≤ length xs → ((k : ℕ) (d : A) → k < n → p (get_or xs k d) ≡ true) → ((k : ℕ) (d : A) → n ≤ k → k < length xs → p (get_or xs k d) ≡ false) → (take n xs ≡ filter p xs) × (drop n xs ≡ filter (λ x. not (p x)) xs)
  parted [] zero within low high = (refl, refl)
  parted [] (suc n) within low high = absurd (omega (arith, within))
  parted (x ∷ xs) zero within low high =
      let fails : p x ≡ false = high 0 x (omega arith) (omega arith) in
      let rest = parted xs zero (omega arith) (λ k d below. absurd (omega (arith, below))) (λ k d from inside. high (suc k) d (omega arith) (omega (arith, inside))) in
      (rest.0 ∙ sym (ap (λ b. cond b (x ∷ filter p xs) (filter p xs)) fails), ap (λ ys. x ∷ ys) rest.1 ∙ sym (ap (λ b. cond (not b) (x ∷ filter (λ y. not (p y)) xs) (filter (λ y. not (p y)) xs)) fails))
  parted (x ∷ xs) (suc n) within low high =
      let passes : p x ≡ true = low 0 x (omega arith) in
      let rest = parted xs n (omega (arith, within)) (λ k d below. low (suc k) d (omega (arith, below))) (λ k d from inside. high (suc k) d (omega (arith, from)) (omega (arith, inside))) in
      (ap (λ ys. x ∷ ys) rest.0 ∙ sym (ap (λ b. cond b (x ∷ filter p xs) (filter p xs)) passes), rest.1 ∙ sym (ap (λ b. cond (not b) (x ∷ filter (λ y. not (p y)) xs) (filter (λ y. not (p y)) xs)) passes))

-- in the order of keys the sessions don't fall
rise : (claims : List (Key × Claim)) (i j : ℕ) (d : Key × Claim) → T (is_sorted key_cmp claims) → i ≤ j → j < length claims → is_gt (session_cmp (get_or claims i d).0.session (get_or claims j d).0.session) ≡ false
rise [] i j d h low within = absurd (omega (arith, within))
rise (e ∷ es) zero zero d h low within = ap is_gt (tied_itself session_total e.0.session)
rise (e ∷ es) zero (suc j) d h low within =
    let below = All-from_recursion (λ (row : Key × Claim). key_cmp e.0 row.0 ≡ Less) es (all-below key_cmp e.0 es (first _ _ h)) in
    session_upto e.0 (get_or es j d).0 (below j d (omega (arith, within)))
rise (e ∷ es) (suc i) zero d h low within = absurd (omega (arith, low))
rise (e ∷ es) (suc i) (suc j) d h low within = rise es i j d (second _ _ h) (omega (arith, low)) (omega (arith, within))

-- what an answer to a test says
less_is : (o : Ordering) → is_lt o ≡ true → o ≡ Less
less_is Less is = refl
less_is Equal is = absurd cc
less_is Greater is = absurd cc

-- a session that isn't above one that is within another is within it
within_too : (x y s : Session) (o : Ordering) → session_cmp y s ≡ o → is_gt (session_cmp x y) ≡ false → is_le o ≡ true → is_le (session_cmp x s) ≡ true
within_too x y s Less tie upto is = ap is_le (upto_below session_cmp session_total x y s upto tie)
within_too x y s Equal tie upto is = subst (λ z. is_le (session_cmp x z) ≡ true) (session_exact y s tie) (not_above (session_cmp x y) upto)
  where
    not_above : (o : Ordering) → is_gt o ≡ false → is_le o ≡ true
    not_above Less h = refl
    not_above Equal h = refl
    not_above Greater h = absurd cc
within_too x y s Greater tie upto is = absurd cc

-- the claim is of the session, or of a lesser one
abbrev pub comes_upto : Session → Key × Claim → Bool
comes_upto session row = is_le (session_cmp row.0.session session)

-- Both tests part claims in order.
pub before_parts : (session : Session) (claims : List (Key × Claim)) → T (is_sorted key_cmp claims) → IsPartitionedBy (comes_before session) claims
before_parts session claims h i j d low within is =
    let x = (get_or claims i d).0.session in
    let y = (get_or claims j d).0.session in
    ap is_lt (upto_below session_cmp session_total x y session (rise claims i j d h low within) (less_is (session_cmp y session) is))

pub upto_parts : (session : Session) (claims : List (Key × Claim)) → T (is_sorted key_cmp claims) → IsPartitionedBy (comes_upto session) claims
upto_parts session claims h i j d low within is =
    within_too (get_or claims i d).0.session (get_or claims j d).0.session session (session_cmp (get_or claims j d).0.session session) refl (rise claims i j d h low within) is

-- what fails where another test passes fails with it
fails : {a : Bool} (b : Bool) → (b ≡ true → a ≡ true) → a ≡ false → b ≡ false
fails true front not_front = sym (front refl) ∙ not_front
fails false front not_front = refl

-- The row before a place and the one there tell that a session's claims begin at it.
pub starts_at : (session : Session) (claims : List (Key × Claim)) → T (is_sorted key_cmp claims) → (i : ℕ) → i ≤ length claims → ((k : ℕ) → k + 1 ≡ i → HoldsAt (λ row. comes_before session row ≡ true) claims k) → (i < length claims → HoldsAt (λ row. comes_before session row ≡ false) claims i) → IsStart session claims i
starts_at session claims h i within before from = (
  λ k d low below. before_parts session claims h k (i - 1) d (omega (arith, below)) (omega (arith, below, within)) (before (i - 1) (omega (arith, below)) d),
  λ k d low inside. fails (comes_before session (get_or claims k d)) (λ passes. before_parts session claims h i k d low inside passes) (from (omega (arith, low, inside)) d),
)

-- what is not above is within
within_is : (o : Ordering) (above : Bool) → is_gt o ≡ above → is_le o ≡ not above
within_is Less above is = ap not is
within_is Equal above is = ap not is
within_is Greater above is = ap not is

-- the claims of sessions up to one, counted from the first on
module _ (session : Session) (claims : List (Key × Claim)) (i : ℕ) (e : Key × Claim) (within : i < length claims) (upto : (k : ℕ) (d : Key × Claim) → k < i → comes_upto session (get_or claims k d) ≡ true) where
  -- whatever stands for the row at the place, if there were none
  here : (above : Bool) → is_gt (session_cmp (get_or claims i e).0.session session) ≡ above → (d : Key × Claim) → comes_upto session (get_or claims i d) ≡ not above
  here above is d =
      ap (comes_upto session) (get_or_default claims i d e within) ∙ within_is (session_cmp (get_or claims i e).0.session session) above is

  -- one more is
  pub upto_more : is_gt (session_cmp (get_or claims i e).0.session session) ≡ false → (k : ℕ) (d : Key × Claim) → k < i + 1 → comes_upto session (get_or claims k d) ≡ true
  upto_more is k d below =
      below_more (λ n. (row : Key × Claim) → comes_upto session (get_or claims n row) ≡ true) i (λ n low row. upto n row low) (here false is) k below d

  -- and where the next isn't, no other one is
  pub upto_ends : T (is_sorted key_cmp claims) → is_gt (session_cmp (get_or claims i e).0.session session) ≡ true → IsPartitionPoint (λ (row : Key × Claim). comes_upto session row ≡ true) (λ (row : Key × Claim). comes_upto session row ≡ false) claims i
  upto_ends h is = (
    λ k d low below. upto k d below,
    λ k d from inside. fails (comes_upto session (get_or claims k d)) (λ passes. upto_parts session claims h i k d from inside passes) (here true is d),
  )

-- a session that is neither before another nor after it is that one
one_session : (session : Session) (row : Key × Claim) → (not (comes_before session row) && comes_upto session row) ≡ is_of session row
one_session session row =
    elim (session_cmp row.0.session session) as (λ o. (not (is_lt o) && is_le o) ≡ is_eq (ordering_reverse o)) [ Less ↦ refl | Equal ↦ refl | Greater ↦ refl ]
    ∙ ap is_eq (sym (session_total.antisymm session row.0.session))

module _ (session : Session) (claims : List (Key × Claim)) (h : T (is_sorted key_cmp claims)) (start : ℕ) (within : start ≤ length claims) (point : IsStart session claims start) (from : List (Key × Claim)) (is : from ≡ take (length claims - start) (drop start claims)) where
  -- the claims from the start on are those that don't come before
  pub from_is : from ≡ filter (λ row. not (comes_before session row)) claims
  from_is =
      is ∙ take_rest claims start
      ∙ (parted (comes_before session) claims start within (λ k d below. point.0 k d (omega arith) below) (λ k d above inside. point.1 k d above inside)).1

  -- so they are in order
  pub from_sorted : T (is_sorted key_cmp from)
  from_sorted = subst (λ rows. T (is_sorted key_cmp rows)) (sym from_is) (is_sorted-filter key_cmp (λ row. not (comes_before session row)) claims h)

  -- And those up to where greater sessions begin are the session's.
  pub run_is : (end : ℕ) → end ≤ length from → IsPartitionPoint (λ row. comes_upto session row ≡ true) (λ row. comes_upto session row ≡ false) from end → take end from ≡ filter (is_of session) claims
  run_is end inside upto =
      (parted (comes_upto session) from end inside (λ k d below. upto.0 k d (omega arith) below) (λ k d above low. upto.1 k d above low)).0
      ∙ ap (filter (comes_upto session)) from_is
      ∙ filter-filter (comes_upto session) (λ row. not (comes_before session row)) claims
      ∙ filter_agree (λ row. not (comes_before session row) && comes_upto session row) (is_of session) (one_session session) claims
