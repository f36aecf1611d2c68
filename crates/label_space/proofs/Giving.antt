-- A label is given exactly where one of the range is free.
use Rattle.std.proofs.Common.{◌≡◌, ℕ, zero, suc, ◌+◌, ◌-◌, ◌<◌, ◌≤◌, ◌||◌, Bool, true, false, List, [], ◌∷◌, Option, Some, None, IfSome, is_some, refl, sym, ap, subst, ◌∙◌, arith, inl, inr}
use Rattle.std.specs.List.{Contains, IsDistinct, list_any, range_with_len, slice_get}
use Rattle.std.proofs.lemmas.Bool.{cases_eq, false≢true}
use Rattle.std.proofs.lemmas.List.FromFn.{get_or-range_with_len, length-range_with_len}
use Rattle.lsr_facts.specs.Routers.{AreLabels}
use Rattle.lsr_facts.specs.declared.key.Key.{Key}
use Rattle.lsr_facts.specs.declared.router.LabelRange.{LabelRange}
use Rattle.lsr_facts.specs.declared.router.Router.{Router}
use Rattle.label_space.specs.LineLaws.{Contains-first, none_contained}
use Rattle.label_space.specs.Labels.{IsFree, IsLabelSpace, IsOf, Labels, give, labels_of}
use Rattle.label_space.specs.FreeLabels.{MayBeGiven, has_free_label, is_free, labels_in}
use Rattle.label_space.specs.Bindings.{AreBound, by_label}
use Rattle.label_space.proofs.Binding.{free_by, free_to}

-- one of so many numbers passes the test
any_in : (test : ℕ → Bool) (count from n : ℕ) → from ≤ n → n < from + count → test n ≡ true → list_any test (range_with_len from count) ≡ true
any_in test zero from n above below passes = absurd (omega (arith, above, below))
any_in test (suc count) from n above below passes =
    elim (cases_eq from n) [
      | inl same ↦ ap (λ b. b || list_any test (range_with_len (from + 1) count)) (ap test same ∙ passes)
      | inr apart ↦ or_later (test from) (any_in test count (from + 1) n (omega (arith, above, apart)) (omega (arith, below)) passes)
    ]
  where
    or_later : (a : Bool) {b : Bool} → b ≡ true → (a || b) ≡ true
    or_later true passes = refl
    or_later false passes = passes

-- and none does where each fails it
none_in : (test : ℕ → Bool) (count from : ℕ) → ((n : ℕ) → from ≤ n → n < from + count → test n ≡ true → ⊥) → list_any test (range_with_len from count) ≡ false
none_in test zero from fails = refl
none_in test (suc count) from fails =
    ap (λ b. b || list_any test (range_with_len (from + 1) count)) (no (test from) (fails from (omega arith) (omega arith)))
    ∙ none_in test count (from + 1) (λ n above below. fails n (omega (arith, above)) (omega (arith, below)))
  where
    no : (b : Bool) → (b ≡ true → ⊥) → b ≡ false
    no true fails = absurd (fails refl)
    no false fails = refl

-- No LSP holds a label of a new space.
pub bound_new : (range : LabelRange) → AreLabels range → IsLabelSpace record { range = range; moment = 0; free = labels_of range; resting = [] } → AreBound record { range = range; moment = 0; free = labels_of range; resting = [] } []
unfolding IsDistinct
bound_new range labels known = record {
  known = known;
  in_order = tt;
  held = record { from_first = tt; to_last = tt; apart = tt };
  taken = λ label. (λ is. absurd (is.taken (all_free label is.own)), λ is. absurd (false≢true is));
}
  where
    all_free : (label : ℕ) → IsOf range label → Contains (range_with_len range.first (range.last - range.first + 1)) label
    all_free label own =
        let below : label - range.first < range.last - range.first + 1 = omega (arith, own.from, own.to) in
        (label - range.first, omega (arith, below, length-range_with_len range.first (range.last - range.first + 1)), get_or-range_with_len range.first (range.last - range.first + 1) (label - range.first) label below ∙ omega (arith, own.from))

module _ (space : Labels) (labels : List (Key × ℕ)) (are : AreBound space labels) where
  abbrev resting : List (ℕ × ℕ)
  resting = by_label space.resting

  -- what is given may be
  pub given_may : (r : Router) → r.labels ≡ space.range → (label : Option ℕ) → IfSome label (IsFree space) → IfSome label (MayBeGiven r labels resting)
  given_may r same None is = tt
  given_may r same (Some label) is =
      let free = free_by space labels are label is in
      record {
        from_first = subst (λ (range : LabelRange). range.first ≤ label) (sym same) free.0.from;
        to_last = subst (λ (range : LabelRange). label ≤ range.last) (sym same) free.0.to;
        free = free.1;
      }

  -- one is free of the range
  some_left : (free : List ℕ) → space.free ≡ free → is_some (slice_get free 0) ≡ list_any (is_free labels resting) (labels_in space.range)
  some_left [] none =
      sym (none_in (is_free labels resting) (space.range.last + 1 - space.range.first) space.range.first (λ n above below free. none_contained n (subst (λ line. Contains line n) none (free_to space labels are n (record { from = above; to = omega (arith, above, below) }) free))))
  some_left (label ∷ free) some =
      let is = free_by space labels are label (subst (λ line. Contains line label) (sym some) (Contains-first label free label refl)) in
      sym (any_in (is_free labels resting) (space.range.last + 1 - space.range.first) space.range.first label is.0.from (omega (arith, is.0.from, is.0.to)) is.1)

  pub given_where : (r : Router) → r.labels ≡ space.range → is_some (give space) ≡ has_free_label r labels resting
  unfolding has_free_label
  given_where r same = some_left space.free refl ∙ ap (λ range. list_any (is_free labels resting) (labels_in range)) (sym same)
