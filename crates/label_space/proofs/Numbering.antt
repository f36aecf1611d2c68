-- The labels of places, numbered from the first label of a range on.
use Rattle.std.proofs.Common.{◌≡◌, ℕ, zero, suc, ◌+◌, ◌-◌, ◌<◌, ◌≤◌, ◌==◌, nat_eq, true, false, cond, not, List, [], ◌∷◌, map, refl, sym, ap, ◌∙◌, inl, inr, arith}
use Rattle.std.specs.List.{AllByRecursion, Contains, IsDistinct, range_with_len}
use Rattle.std.proofs.lemmas.Bool.{cases_eq, eq-eqb, ne_eqb}
use Rattle.std.proofs.lemmas.Map.Keys.{IsDistinct-cons, IsDistinct-head, IsDistinct-tail}
use Rattle.sorted_rows.specs.ListLaws.{all-map, all-weaker}
use Rattle.lsr_facts.specs.declared.router.LabelRange.{LabelRange}
use Rattle.label_space.specs.Labels.{HasPlaces, IsOf, labels_at}
use Rattle.label_space.specs.LineLaws.{Contains-cons_cases, Contains-first, Contains-later, none_contained}
use Rattle.label_space.specs.Lines.{line_without}

module _ (first : ℕ) where
  -- two labels differ where their places do
  same_test : (place other : ℕ) → (first + place == first + other) ≡ (place == other)
  same_test place other =
      elim (cases_eq place other) [
        | inl same ↦ eq-eqb (first + place) (first + other) (omega (arith, same)) ∙ sym (eq-eqb place other same)
        | inr apart ↦ ne_eqb (first + place) (first + other) (λ same. apart (omega (arith, same))) ∙ sym (ne_eqb place other apart)
      ]

  -- a place leaves the line as its label does
  pub map-line_without : (place : ℕ) (line : List ℕ) → map (λ p. first + p) (line_without place line) ≡ line_without (first + place) (map (λ p. first + p) line)
  map-line_without place [] = refl
  map-line_without place (y ∷ line) =
      let rest = map-line_without place line in
      let labels = map (λ p. first + p) line in
      elim (place == y) as (λ b. map (λ p. first + p) (cond (not b) (y ∷ line_without place line) (line_without place line)) ≡ cond (not b) ((first + y) ∷ line_without (first + place) labels) (line_without (first + place) labels)) [
        | true ↦ rest
        | false ↦ ap (λ l. (first + y) ∷ l) rest
      ]
      ∙ ap (λ b. cond (not b) ((first + y) ∷ line_without (first + place) labels) (line_without (first + place) labels)) (sym (same_test place y))

  -- a label is among those of the places where its place is among these
  pub from_label : (line : List ℕ) (label : ℕ) → Contains (map (λ p. first + p) line) label → (first ≤ label) × Contains line (label - first)
  from_label [] label among = absurd (none_contained label among)
  from_label (y ∷ line) label among =
      elim (Contains-cons_cases (first + y) (map (λ p. first + p) line) label among) [
        | inl same ↦ (omega (arith, same), Contains-first y line (label - first) (omega (arith, same)))
        | inr later ↦ let rest = from_label line label later in (rest.0, Contains-later y line (label - first) rest.1)
      ]

  -- and the other way round
  pub to_label : (line : List ℕ) (label : ℕ) → first ≤ label → Contains line (label - first) → Contains (map (λ p. first + p) line) label
  to_label [] label from among = absurd (none_contained (label - first) among)
  to_label (y ∷ line) label from among =
      elim (Contains-cons_cases y line (label - first) among) [
        | inl same ↦ Contains-first (first + y) (map (λ p. first + p) line) label (omega (arith, same, from))
        | inr later ↦ Contains-later (first + y) (map (λ p. first + p) line) label (to_label line label from later)
      ]

  -- no label is twice where no place is
  pub IsDistinct-labels : (line : List ℕ) → IsDistinct nat_eq line → IsDistinct nat_eq (map (λ p. first + p) line)
  IsDistinct-labels [] distinct = distinct
  IsDistinct-labels (y ∷ line) distinct =
      let labels = map (λ p. first + p) line in
      let head = all-weaker (λ z. (y == z) ≡ false) (λ z. (first + y == first + z) ≡ false) (λ z apart. same_test y z ∙ apart) line (IsDistinct-head nat_eq y line distinct) in
      IsDistinct-cons nat_eq (first + y) labels (all-map (λ label. (first + y == label) ≡ false) (λ p. first + p) line head) (IsDistinct-labels line (IsDistinct-tail nat_eq y line distinct))

  -- the labels of all places
  pub map-range_with_len : (from count : ℕ) → map (λ p. first + p) (range_with_len from count) ≡ range_with_len (first + from) count
  map-range_with_len from zero = refl
  map-range_with_len from (suc count) =
      let next : first + (from + 1) ≡ first + from + 1 = omega arith in
      ap (λ l. (first + from) ∷ l) (map-range_with_len (from + 1) count ∙ ap (λ start. range_with_len start count) next)

-- the labels of places in line are of the range
pub labels_own : (range : LabelRange) (count : ℕ) (line : List ℕ) → HasPlaces range count → AllByRecursion (λ place. place < count) line → AllByRecursion (IsOf range) (labels_at range line)
labels_own range count line places within =
    all-map (IsOf range) (λ place. range.first + place) line (all-weaker (λ place. place < count) (λ place. IsOf range (range.first + place)) (λ place below. record { from = omega arith; to = omega (arith, below, places.places) }) line within)

-- and a label of the range has a place
pub place_within : (range : LabelRange) (count label : ℕ) → HasPlaces range count → IsOf range label → label - range.first < count
place_within range count label places own = omega (arith, places.places, own.from, own.to)
