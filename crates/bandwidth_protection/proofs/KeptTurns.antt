-- One LSP's turn after the other to keep what it had.
use Rattle.std.proofs.Common.{◌≡◌, ℕ, ◌+◌, ◌-◌, ◌<◌, ◌≤◌, Bool, true, false, ◌&&◌, if◌then◌else◌, T, List, Option, Some, None, is_some, length, drop, get_or, nat_le, refl, ap, sym, ◌∙◌, arith}
use Rattle.std.proofs.lemmas.Bool.{le-leb, leb-true}
use Rattle.std.proofs.lemmas.List.{drop_more}
use Rattle.std.proofs.lemmas.Option.{slice_get-get_or}
use Rattle.std.specs.FinMap.Entries.{find, is_sorted, put}
use Rattle.std.specs.List.{cons_option}
use Rattle.std.specs.Option.{option_and_then, option_map, option_map_or}
use Rattle.std.specs.Ordering.{nat_cmp}
use Rattle.sorted_rows.specs.RowsLaws.{all_found}
use Rattle.lsr_facts.specs.OrderLaws.{key_total}
use Rattle.lsr_facts.specs.Orders.{key_cmp}
use Rattle.lsr_facts.specs.declared.assignment.Assignment.{Assignment}
use Rattle.lsr_facts.specs.declared.key.Key.{Key}
use Rattle.lsr_facts.specs.declared.router.Router.{Router}
use Rattle.bypass_shares.proofs.OneTurn.{kept-turn}
use Rattle.bypass_shares.specs.Left.{AreLeft, left_at}
use Rattle.bypass_shares.specs.Merged.{with_rows}
use Rattle.bypass_shares.specs.Shares.{assigned_of, each_in_turn, has_room, is_candidate, kept_for, stays, with_given}
use Rattle.bypass_shares.specs.declared.wish.Wish.{Wish}
use Rattle.abstract_router.specs.States.{State}
use Rattle.bandwidth_protection.proofs.Placing.{at_place}
use Rattle.bandwidth_protection.specs.Keeping.{claim_of, kept_turn, known_wishes}
use Rattle.bandwidth_protection.specs.Wishing.{wish_at}

-- the turn of an LSP that had some, by what it asks for
abbrev pub turn_by : (ℕ → ℕ) → List (Key × Assignment) → List (Key × Assignment) → Key → Option Wish → List (Key × Assignment)
turn_by capacity known pairs key wish = option_map_or (λ wish. with_given key_cmp capacity key (kept_for key_cmp capacity known pairs (key, wish)) pairs) wish pairs

-- what stays of what it had, by what it may have of that
claimed : (capacity : ℕ → ℕ) (pairs : List (Key × Assignment)) (had : Assignment) (wish : Option Wish) (claim : Assignment) → option_and_then (claim_of had) wish ≡ Some claim
    → (w : Wish) × (wish ≡ Some w) × (stays key_cmp capacity pairs w had ≡ (if has_room key_cmp capacity pairs claim.rate claim.bypass then Some claim else None))
claimed capacity pairs had None claim is = absurd (let e = is in cc)
claimed capacity pairs had (Some wish) claim is = (wish, refl, by (is_candidate wish had.bypass) is)
  where
    by : (b : Bool) → ◌≡◌ {A = Option Assignment} (if b then Some (record { bypass = had.bypass; rate = wish.rate }) else None) (Some claim)
        → ◌≡◌ {A = Option Assignment} (if b && has_room key_cmp capacity pairs wish.rate had.bypass then Some (record { bypass = had.bypass; rate = wish.rate }) else None)
        (if has_room key_cmp capacity pairs claim.rate claim.bypass then Some claim else None)
    by true is = let same : record { bypass = had.bypass; rate = wish.rate } ≡ claim = let e = is in cc in ap (λ (c : Assignment). if has_room key_cmp capacity pairs c.rate c.bypass then Some c else None) same
    by false is = absurd (let e = is in cc)

-- there is room where so much is left
has_left_room : (capacity : ℕ → ℕ) (left : List (ℕ × ℕ)) (pairs : List (Key × Assignment)) (rate number : ℕ) → AreLeft capacity left pairs → rate ≤ left_at left number → has_room key_cmp capacity pairs rate number ≡ true
has_left_room capacity left pairs rate number are_left fits = let sum = are_left number in le-leb (assigned_of number pairs + rate) (capacity number) (omega (arith, sum, fits))

-- So it is given what it may have, where so much is left.
pub given_turn : (capacity : ℕ → ℕ) (known rows made made_after : List (Key × Assignment)) (left left_after : List (ℕ × ℕ)) (key : Key) (had claim : Assignment) (wish : Option Wish)
    → T (is_sorted key_cmp rows) → is_some (find key_cmp key (with_rows key_cmp made rows)) ≡ false → find key_cmp key known ≡ Some had → option_and_then (claim_of had) wish ≡ Some claim
    → nat_le claim.rate (left_at left claim.bypass) ≡ true → left_after ≡ put nat_cmp claim.bypass (left_at left claim.bypass - claim.rate) left → made_after ≡ put key_cmp key claim made
    → AreLeft capacity left (with_rows key_cmp made rows)
    → AreLeft capacity left_after (with_rows key_cmp made_after rows) × (with_rows key_cmp made_after rows ≡ turn_by capacity known (with_rows key_cmp made rows) key wish)
given_turn capacity known rows made made_after left left_after key had claim wish sorted none was is fits left_is made_is are_left =
    let pairs = with_rows key_cmp made rows in
    let found = claimed capacity pairs had wish claim is in
    let room = has_left_room capacity left pairs claim.rate claim.bypass are_left (leb-true claim.rate (left_at left claim.bypass) fits) in
    let stay : Some claim ≡ stays key_cmp capacity pairs found.0 had = sym (found.2 ∙ ap (λ b. if b then Some claim else None) room) in
    let turn = kept-turn capacity left left_after known rows made made_after (key, found.0) had claim sorted none was stay made_is left_is are_left in
    (turn.0, turn.1 ∙ sym (ap (turn_by capacity known pairs key) found.1))

-- the row at a place is found
pub found_at : (known : List (Key × Assignment)) (i : ℕ) (d : Key × Assignment) → i < length known → T (is_sorted key_cmp known) → find key_cmp (get_or known i d).0 known ≡ Some (get_or known i d).1
found_at known i d within sorted =
    at_place (λ (row : Key × Assignment). find key_cmp row.0 known ≡ Some row.1) known i (get_or known i d) (all_found key_cmp key_total known sorted) (slice_get-get_or known i d within)

module _ (r : Router) (s : State) (capacity : ℕ → ℕ) where
  -- the turns from the next on, after one's
  turn_first : (known pairs : List (Key × Assignment)) (key : Key) (wish : Option Wish) (rest : List (Key × Wish))
      → each_in_turn key_cmp capacity (kept_for key_cmp capacity known) (turn_by capacity known pairs key wish) rest
      ≡ each_in_turn key_cmp capacity (kept_for key_cmp capacity known) pairs (cons_option (option_map (λ w. (key, w)) wish) rest)
  turn_first known pairs key None rest = refl
  turn_first known pairs key (Some wish) rest = refl

  pub next_turn : (known pairs after rows : List (Key × Assignment)) (i : ℕ) (d : Key × Assignment) → i < length rows → after ≡ kept_turn r s capacity known pairs (get_or rows i d)
      → each_in_turn key_cmp capacity (kept_for key_cmp capacity known) after (known_wishes r s (drop (i + 1) rows))
      ≡ each_in_turn key_cmp capacity (kept_for key_cmp capacity known) pairs (known_wishes r s (drop i rows))
  next_turn known pairs after rows i d within made =
      let key = (get_or rows i d).0 in
      ap (λ start. each_in_turn key_cmp capacity (kept_for key_cmp capacity known) start (known_wishes r s (drop (i + 1) rows))) made
      ∙ turn_first known pairs key (wish_at r s key) (known_wishes r s (drop (i + 1) rows))
      ∙ sym (ap (λ left. each_in_turn key_cmp capacity (kept_for key_cmp capacity known) pairs (known_wishes r s left)) (drop_more rows i d within))
