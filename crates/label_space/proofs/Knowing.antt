-- What always holds of labels in line.
use Rattle.std.proofs.Common.{◌≡◌, ℕ, ◌+◌, ◌-◌, ◌<◌, ◌≤◌, max, min, nat_eq, List, [], ◌∷◌, ◌++◌, get_or, length, map, set, Some, sym, ap, subst, ◌∙◌, arith}
use Rattle.std.specs.List.{AllByRecursion, Contains, IsDistinct, filter, range_with_len, slice_get}
use Rattle.std.proofs.lemmas.Bool.{ltb-true}
use Rattle.std.proofs.lemmas.List.{length-map, length-replicate, length-set}
use Rattle.std.proofs.lemmas.Option.{none-some, same_Some}
use Rattle.sorted_rows.specs.ListLaws.{all-filter_passes, all-from_map, all-map, all-weaker}
use Rattle.lsr_facts.specs.Routers.{AreLabels}
use Rattle.lsr_facts.specs.declared.router.LabelRange.{LabelRange}
use Rattle.label_space.specs.LabelLaws.{IsLabelSpace-end_rests, IsLabelSpace-hold, IsLabelSpace-release, IsLabelSpace-wake, held_from_line, held_not_in_line}
use Rattle.label_space.specs.Labels.{AreInLine, HasPlaces, IsHeld, IsLabelSpace, IsOf, Labels, in_line, labels_by, labels_of, release}
use Rattle.label_space.specs.LineLaws.{Differs, differs_from}
use Rattle.label_space.specs.Lines.{IsRising, Places, line_with, line_without}
use Rattle.label_space.proofs.Numbering.{IsDistinct-labels, from_label, labels_own, map-range_with_len, to_label}
use Rattle.label_space.proofs.Relinked.{IsDistinct-range, range_below}
use Rattle.label_space.proofs.Resting.{by_ended, by_held, by_new, by_released, by_woken, in_parts, is_later, rising-ended, rising-new, rising_after, row_of, zeros}
use Rattle.label_space.proofs.Rising.{rising-with, rising-without}

-- labels of places in line, none of which is in it twice
pub is_label_space : (range : LabelRange) (moment count : ℕ) (untils line : List ℕ) → HasPlaces range count → AllByRecursion (λ place. place < count) line → IsDistinct nat_eq line → IsRising untils line → IsLabelSpace (labels_by range moment untils line)
is_label_space range moment count untils line places within apart rising = record {
  range = places.labels;
  own = subst (AllByRecursion (IsOf range)) (in_parts range.first moment untils line rising) (labels_own range count line places within);
  apart = subst (IsDistinct nat_eq) (in_parts range.first moment untils line rising) (IsDistinct-labels range.first line apart);
  later = all-map (λ (row : ℕ × ℕ). moment < row.1) (row_of range.first untils) (filter (is_later moment untils) line) (all-filter_passes (λ place. moment < get_or untils place 0) (is_later moment untils) (λ place later. ltb-true moment (get_or untils place 0) later) line);
}

module _ (range : LabelRange) (moment : ℕ) (places : Places) (untils : List ℕ) (always : AreInLine range moment places untils) where
  abbrev labels : Labels
  labels = labels_by range moment untils places.line

  abbrev line : List ℕ
  line = places.line

  -- the labels that no LSP has are those of the places in line
  line_is : map (λ place. range.first + place) line ≡ in_line labels
  line_is = in_parts range.first moment untils line always.rising

  -- each place in line has a moment
  pub line_within : AllByRecursion (λ place. place < length untils) line
  line_within =
      all-weaker (λ place. IsOf range (range.first + place)) (λ place. place < length untils) (λ place own. omega (arith, always.each, always.numbered.places, own.from, own.to)) line
      (all-from_map (IsOf range) (λ place. range.first + place) line (subst (AllByRecursion (IsOf range)) (sym line_is) always.known.own))

  pub first_within : (place : ℕ) → slice_get line 0 ≡ Some place → place < length untils
  first_within place first = by line line_within first
    where
      by : (part : List ℕ) → AllByRecursion (λ p. p < length untils) part → slice_get part 0 ≡ Some place → place < length untils
      by [] within none = absurd (none-some place none)
      by (x ∷ part) within some = let same = same_Some x place some in let below : x < length untils = within.0 in omega (arith, below, same)

  pub within_range : (label : ℕ) → IsOf range label → label - range.first < length untils
  within_range label own = omega (arith, always.each, always.numbered.places, own.from, own.to)

  -- the place of a label that is held isn't in line
  pub held_absent : (label : ℕ) → IsHeld labels label → ¬ Contains line (label - range.first)
  held_absent label held among =
      held_not_in_line labels label held (subst (λ l. Contains l label) line_is (to_label range.first line label held.own.from among))

  -- and the other way round
  pub absent_held : (label : ℕ) → IsOf range label → ¬ Contains line (label - range.first) → IsHeld labels label
  absent_held label own absent =
      held_from_line labels label own (λ among. absent (from_label range.first line label (subst (λ l. Contains l label) (sym line_is) among)).1)

  -- What is in line when a label is held,
  pub now_held : (place : ℕ) → get_or untils place 0 ≤ moment → AreInLine range moment record places { line = line_without place line } untils
  now_held place over = record {
    numbered = always.numbered;
    each = always.each;
    rising = rising-without untils place line always.rising;
    known = subst IsLabelSpace (sym (by_held range moment untils line place over)) (IsLabelSpace-hold labels (range.first + place) always.known);
  }

  -- when one is released,
  module _ (label until : ℕ) (held : IsHeld labels label) where
    abbrev after : List ℕ
    after = set untils (label - range.first) (max until moment)

    away : Differs (label - range.first) line
    away = differs_from line (label - range.first) (held_absent label held)

    number : range.first + (label - range.first) ≡ label
    number = omega (arith, held.own.from)

    pub is_released : labels_by range moment after (line_with after (label - range.first) line) ≡ release labels label until
    is_released =
        by_released range moment untils line (label - range.first) until always.rising (within_range label held.own) away ∙ ap (λ l. release labels l until) number

    pub rising_then : IsRising after line
    rising_then = rising_after range moment untils line (label - range.first) until always.rising (within_range label held.own) away

    pub now_released : AreInLine range moment record places { line = line_with after (label - range.first) line } after
    now_released = record {
      numbered = always.numbered;
      each = length-set untils (label - range.first) (max until moment) ∙ always.each;
      rising = rising-with after (label - range.first) line rising_then;
      known = subst IsLabelSpace (sym is_released) (IsLabelSpace-release labels label until always.known held);
    }

  -- when a moment comes,
  pub now_woken : (now : ℕ) → AreInLine range (max moment now) places untils
  now_woken now = record {
    numbered = always.numbered;
    each = always.each;
    rising = always.rising;
    known = subst IsLabelSpace (sym (by_woken range moment untils line now always.rising)) (IsLabelSpace-wake labels now always.known);
  }

  -- and when no label rests any more
  pub now_ended : AreInLine range moment places (map (λ until. min until moment) untils)
  now_ended = record {
    numbered = always.numbered;
    each = length-map untils (λ until. min until moment) ∙ always.each;
    rising = rising-ended range moment untils line line_within always.rising;
    known = subst IsLabelSpace (sym (by_ended range moment untils line line_within always.rising)) (IsLabelSpace-end_rests labels always.known);
  }

-- What is in line of a new space.
pub are_new : (range : LabelRange) (count : ℕ) → HasPlaces range count → AreInLine range 0 record { count = count; line = range_with_len 0 count } (zeros count)
are_new range count places = record {
  numbered = places;
  each = length-replicate count 0;
  rising = rising-new count (range_with_len 0 count);
  known = is_label_space range 0 count (zeros count) (range_with_len 0 count) places (range_below count 0 count (omega arith)) (IsDistinct-range 0 count) (rising-new count (range_with_len 0 count));
}

-- All its labels are free.
pub new_labels : (range : LabelRange) → AreLabels range → labels_by range 0 (zeros (range.last - range.first + 1)) (range_with_len 0 (range.last - range.first + 1)) ≡ record { range = range; moment = 0; free = labels_of range; resting = [] }
new_labels range labels =
    let count = range.last - range.first + 1 in
    let from : range.first + 0 ≡ range.first = omega arith in
    by_new range count (range_with_len 0 count)
    ∙ ap (λ free. record { range = range; moment = 0; free = free; resting = [] }) (map-range_with_len range.first 0 count ∙ ap (λ first. range_with_len first count) from)
