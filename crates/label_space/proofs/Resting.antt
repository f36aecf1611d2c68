-- The labels of places in line, each of which rests until a moment: what is free of them, and what rests.
use Rattle.std.proofs.Common.{◌≡◌, ◌⊎◌, ◌↔◌, ℕ, zero, suc, ◌+◌, ◌-◌, ◌<◌, ◌≤◌, ◌==◌, max, min, nat_eq, nat_le, nat_lt, Bool, true, false, cond, not, List, [], ◌∷◌, ◌++◌, Option, Some, None, IfSome, get_or, length, map, replicate, set, refl, sym, ap, subst, ◌∙◌, inl, inr, arith, get_or-set_same}
use Rattle.std.specs.FinMap.Entries.{find}
use Rattle.std.specs.List.{AllByRecursion, Contains, IsDistinct, filter, slice_get}
use Rattle.std.specs.Ordering.{nat_cmp}
use Rattle.std.proofs.lemmas.Bool.{cases_eq, cases_lt, eq-eqb, le-leb, le-ltb, leb-true, lt-leb, lt-ltb, ltb-true, ne_eqb}
use Rattle.std.proofs.lemmas.List.{get_or-map, get_or-replicate, get_or_past, length-replicate, map_push}
use Rattle.std.proofs.lemmas.Map.Lookups.{exact_unsigned}
use Rattle.std.proofs.lemmas.Option.{none-some, same_Some}
use Rattle.sorted_rows.specs.ListLaws.{all-always, all-both, all-weaker, filter-all_pass, filter_agree_within}
use Rattle.sorted_rows.specs.Rows.{keys_of}
use Rattle.sorted_rows.specs.RowsLaws.{find-all_row}
use Rattle.lsr_facts.specs.declared.router.LabelRange.{LabelRange}
use Rattle.label_space.specs.Labels.{IsFree, Labels, end_rests, give, hold, labels_at, labels_by, release, rests_with, wake}
use Rattle.label_space.specs.LineLaws.{Contains-filter, Contains-first, Contains-from_filter, Differs}
use Rattle.label_space.specs.Lines.{IsRising, line_with, line_without}
use Rattle.label_space.specs.RestLaws.{absent-found, find-absent}
use Rattle.label_space.specs.Rests.{resting_past}
use Rattle.label_space.proofs.Numbering.{from_label, map-line_without, to_label}
use Rattle.label_space.proofs.Rising.{rising-same, same_but}

-- the place's label rests no longer than until a moment
abbrev pub is_over : ℕ → List ℕ → ℕ → Bool
is_over moment untils place = nat_le (get_or untils place 0) moment

-- or longer
abbrev pub is_later : ℕ → List ℕ → ℕ → Bool
is_later moment untils place = nat_lt moment (get_or untils place 0)

-- the place's label, and until when it rests
abbrev pub row_of : ℕ → List ℕ → ℕ → ℕ × ℕ
row_of first untils place = (first + place, get_or untils place 0)

-- the labels of places in line that rest
abbrev pub rests_of : ℕ → ℕ → List ℕ → List ℕ → List (ℕ × ℕ)
rests_of first moment untils line = map (row_of first untils) (filter (is_later moment untils) line)

-- two tests leave the same, in any order
filters_swapped : (p q : ℕ → Bool) (line : List ℕ) → filter p (filter q line) ≡ filter q (filter p line)
filters_swapped p q [] = refl
filters_swapped p q (x ∷ line) =
    let rest = filters_swapped p q line in
    elim (p x) as (λ a. p x ≡ a → filter p (cond (q x) (x ∷ filter q line) (filter q line)) ≡ filter q (cond a (x ∷ filter p line) (filter p line))) [
      | true ↦ λ passes. elim (q x) as (λ b. filter p (cond b (x ∷ filter q line) (filter q line)) ≡ cond b (x ∷ filter q (filter p line)) (filter q (filter p line))) [
        | true ↦ ap (λ b. cond b (x ∷ filter p (filter q line)) (filter p (filter q line))) passes ∙ ap (λ l. x ∷ l) rest
        | false ↦ rest
      ]
      | false ↦ λ fails. elim (q x) as (λ b. filter p (cond b (x ∷ filter q line) (filter q line)) ≡ filter q (filter p line)) [
        | true ↦ ap (λ b. cond b (x ∷ filter p (filter q line)) (filter p (filter q line))) fails ∙ rest
        | false ↦ rest
      ]
    ] refl

-- a place that fails a test leaves what the test leaves as it was
filter-without_fails : (p : ℕ → Bool) (gone : ℕ) → p gone ≡ false → (line : List ℕ) → filter p (line_without gone line) ≡ filter p line
filter-without_fails p gone fails [] = refl
filter-without_fails p gone fails (x ∷ line) =
    let rest = filter-without_fails p gone fails line in
    elim (cases_eq gone x) [
      | inl same ↦ rw (eq-eqb gone x same) (rest ∙ ap (λ b. cond b (x ∷ filter p line) (filter p line)) (sym (ap p (sym same) ∙ fails)))
      | inr apart ↦ rw (ne_eqb gone x apart) (ap (λ l. cond (p x) (x ∷ l) l) rest)
    ]

-- and so one that joins the line
filter-with_fails : (p : ℕ → Bool) (numbers : List ℕ) (place : ℕ) → p place ≡ false → (line : List ℕ) → filter p (line_with numbers place line) ≡ filter p line
filter-with_fails p numbers place fails [] = ap (λ b. cond b (place ∷ []) []) fails
filter-with_fails p numbers place fails (x ∷ line) =
    let rest = filter-with_fails p numbers place fails line in
    elim (nat_lt (get_or numbers place 0) (get_or numbers x 0)) as (λ b. filter p (cond b (place ∷ x ∷ line) (x ∷ line_with numbers place line)) ≡ filter p (x ∷ line)) [
      | true ↦ ap (λ b. cond b (place ∷ filter p (x ∷ line)) (filter p (x ∷ line))) fails
      | false ↦ ap (λ l. cond (p x) (x ∷ l) l) rest
    ]

-- nothing is left where each fails
filter-all_fail : (p : ℕ → Bool) (line : List ℕ) → AllByRecursion (λ x. p x ≡ false) line → filter p line ≡ []
filter-all_fail p [] each = refl
filter-all_fail p (x ∷ line) each = ap (λ b. cond b (x ∷ filter p line) (filter p line)) each.0 ∙ filter-all_fail p line each.1

module _ (first moment : ℕ) where
  -- the labels of places whose rest is over
  abbrev free_of : List ℕ → List ℕ → List ℕ
  free_of untils line = map (λ place. first + place) (filter (is_over moment untils) line)

  -- nothing is free where each place rests longer
  none_over : (untils line : List ℕ) → AllByRecursion (λ place. moment < get_or untils place 0) line → filter (is_over moment untils) line ≡ []
  none_over untils line later =
      filter-all_fail (is_over moment untils) line (all-weaker (λ place. moment < get_or untils place 0) (λ place. is_over moment untils place ≡ false) (λ place more. lt-leb (get_or untils place 0) moment more) line later)

  -- behind one that rests longer each does
  all_later : (untils : List ℕ) (x : ℕ) (line : List ℕ) → IsRising untils (x ∷ line) → moment < get_or untils x 0 → AllByRecursion (λ place. moment < get_or untils place 0) (x ∷ line)
  all_later untils x line rising more =
      (more, all-weaker (λ place. get_or untils x 0 ≤ get_or untils place 0) (λ place. moment < get_or untils place 0) (λ place above. omega (arith, more, above)) line rising.0)

  -- The labels that rest, one place after the other.
  rests_step : (untils : List ℕ) (x : ℕ) (line : List ℕ) → rests_of first moment untils (x ∷ line) ≡ cond (is_later moment untils x) (row_of first untils x ∷ rests_of first moment untils line) (rests_of first moment untils line)
  rests_step untils x line =
      elim (is_later moment untils x) as (λ b. map (row_of first untils) (cond b (x ∷ filter (is_later moment untils) line) (filter (is_later moment untils) line)) ≡ cond b (row_of first untils x ∷ rests_of first moment untils line) (rests_of first moment untils line)) [ true ↦ refl | false ↦ refl ]

  -- Where places have the same moments, the same is free, and the same rests.
  free_same : (untils others line : List ℕ) → AllByRecursion (λ place. get_or others place 0 ≡ get_or untils place 0) line → free_of others line ≡ free_of untils line
  free_same untils others line same =
      ap (map (λ place. first + place)) (filter_agree_within (is_over moment others) (is_over moment untils) line (all-weaker (λ place. get_or others place 0 ≡ get_or untils place 0) (λ place. is_over moment others place ≡ is_over moment untils place) (λ place e. ap (λ until. nat_le until moment) e) line same))

  rests_same : (untils others line : List ℕ) → AllByRecursion (λ place. get_or others place 0 ≡ get_or untils place 0) line → rests_of first moment others line ≡ rests_of first moment untils line
  rests_same untils others [] same = refl
  rests_same untils others (x ∷ line) same =
      let e = same.0 in
      let rest = rests_same untils others line same.1 in
      rests_step others x line
      ∙ (λ i. cond (nat_lt moment (e i)) ((first + x, e i) ∷ rest i) (rest i))
      ∙ sym (rests_step untils x line)

  -- A place joins the line whose rest is over at this very moment: it is the last of those that are free.
  free-with_over : (untils : List ℕ) (place : ℕ) (line : List ℕ) → IsRising untils line → get_or untils place 0 ≡ moment → filter (is_over moment untils) (line_with untils place line) ≡ filter (is_over moment untils) line ++ place ∷ []
  free-with_over untils place [] rising now = rw (le-leb (get_or untils place 0) moment (omega (arith, now))) refl
  free-with_over untils place (x ∷ line) rising now =
      elim (cases_lt (get_or untils place 0) (get_or untils x 0)) [
        | inl less ↦
            let later = all_later untils x line rising (omega (arith, less, now)) in
            rw (lt-ltb (get_or untils place 0) (get_or untils x 0) less)
            (ap (λ b. cond b (place ∷ filter (is_over moment untils) (x ∷ line)) (filter (is_over moment untils) (x ∷ line))) (le-leb (get_or untils place 0) moment (omega (arith, now)))
            ∙ ap (λ l. place ∷ l) (none_over untils (x ∷ line) later)
            ∙ ap (λ l. l ++ place ∷ []) (sym (none_over untils (x ∷ line) later)))
        | inr more ↦ rw (le-ltb (get_or untils place 0) (get_or untils x 0) more, le-leb (get_or untils x 0) moment (omega (arith, more, now))) (ap (λ l. x ∷ l) (free-with_over untils place line rising.1 now))
      ]

  -- One joins it that rests: it rests behind those that rest no longer.
  rests-with_later : (untils : List ℕ) (place : ℕ) (line : List ℕ) → moment < get_or untils place 0 → rests_of first moment untils (line_with untils place line) ≡ rests_with (row_of first untils place) (rests_of first moment untils line)
  rests-with_later untils place [] later = rw (lt-ltb moment (get_or untils place 0) later) refl
  rests-with_later untils place (x ∷ line) later =
      elim (cases_lt (get_or untils place 0) (get_or untils x 0)) [
        | inl less ↦
            rw (lt-ltb (get_or untils place 0) (get_or untils x 0) less, lt-ltb moment (get_or untils place 0) later, lt-ltb moment (get_or untils x 0) (omega (arith, less, later)), lt-ltb (get_or untils place 0) (get_or untils x 0) less) refl
        | inr more ↦ elim (cases_lt moment (get_or untils x 0)) [
          | inl still ↦ rw (le-ltb (get_or untils place 0) (get_or untils x 0) more, lt-ltb moment (get_or untils x 0) still, le-ltb (get_or untils place 0) (get_or untils x 0) more) (ap (λ rows. row_of first untils x ∷ rows) (rests-with_later untils place line later))
          | inr over ↦ rw (le-ltb (get_or untils place 0) (get_or untils x 0) more, le-ltb moment (get_or untils x 0) over) (rests-with_later untils place line later)
        ]
      ]

  -- Of places that all rest those are over at a later moment that rest no longer.
  woken_all : (untils line : List ℕ) (now : ℕ) → AllByRecursion (λ place. moment < get_or untils place 0) line → map (λ place. first + place) (filter (is_over (max moment now) untils) line) ≡ keys_of (filter (λ row. nat_le row.1 now) (rests_of first moment untils line))
  woken_all untils [] now later = refl
  woken_all untils (x ∷ line) now later =
      let rest = woken_all untils line now later.1 in
      let still : moment < get_or untils x 0 = later.0 in
      elim (cases_lt now (get_or untils x 0)) [
        | inl more ↦ rw (lt-ltb moment (get_or untils x 0) still, lt-leb (get_or untils x 0) (max moment now) (omega (arith, still, more)), lt-leb (get_or untils x 0) now more) rest
        | inr over ↦ rw (lt-ltb moment (get_or untils x 0) still, le-leb (get_or untils x 0) (max moment now) (omega (arith, over)), le-leb (get_or untils x 0) now over) (ap (λ labels. (first + x) ∷ labels) rest)
      ]

  -- So it is along a line.
  free-woken : (untils line : List ℕ) (now : ℕ) → IsRising untils line → map (λ place. first + place) (filter (is_over (max moment now) untils) line) ≡ free_of untils line ++ keys_of (filter (λ row. nat_le row.1 now) (rests_of first moment untils line))
  free-woken untils [] now rising = refl
  free-woken untils (x ∷ line) now rising =
      elim (cases_lt moment (get_or untils x 0)) [
        | inl more ↦
            let later = all_later untils x line rising more in
            woken_all untils (x ∷ line) now later
            ∙ ap (λ l. map (λ place. first + place) l ++ keys_of (filter (λ row. nat_le row.1 now) (rests_of first moment untils (x ∷ line)))) (sym (none_over untils (x ∷ line) later))
        | inr over ↦
            rw (le-ltb moment (get_or untils x 0) over, le-leb (get_or untils x 0) (max moment now) (omega (arith, over)), le-leb (get_or untils x 0) moment over)
            (ap (λ labels. (first + x) ∷ labels) (free-woken untils line now rising.1))
      ]

  -- The others rest still.
  rests-woken : (untils line : List ℕ) (now : ℕ) → rests_of first (max moment now) untils line ≡ resting_past now (rests_of first moment untils line)
  rests-woken untils [] now = refl
  rests-woken untils (x ∷ line) now =
      let rest = rests-woken untils line now in
      elim (cases_lt moment (get_or untils x 0)) [
        | inl still ↦ elim (cases_lt now (get_or untils x 0)) [
          | inl more ↦ rw (lt-ltb moment (get_or untils x 0) still, lt-ltb (max moment now) (get_or untils x 0) (omega (arith, still, more)), lt-ltb now (get_or untils x 0) more) (ap (λ rows. row_of first untils x ∷ rows) rest)
          | inr over ↦ rw (lt-ltb moment (get_or untils x 0) still, le-ltb (max moment now) (get_or untils x 0) (omega (arith, over)), le-ltb now (get_or untils x 0) over) rest
        ]
        | inr over ↦ rw (le-ltb moment (get_or untils x 0) over, le-ltb (max moment now) (get_or untils x 0) (omega (arith, over))) rest
      ]

  -- Those that rest stand behind those that are free.
  pub in_parts : (untils line : List ℕ) → IsRising untils line → map (λ place. first + place) line ≡ free_of untils line ++ keys_of (rests_of first moment untils line)
  in_parts untils [] rising = refl
  in_parts untils (x ∷ line) rising =
      elim (cases_lt moment (get_or untils x 0)) [
        | inl more ↦
            let later = all_later untils x line rising more in
            all_rest (x ∷ line) later ∙ ap (λ l. map (λ place. first + place) l ++ keys_of (rests_of first moment untils (x ∷ line))) (sym (none_over untils (x ∷ line) later))
        | inr over ↦
            rw (le-ltb moment (get_or untils x 0) over, le-leb (get_or untils x 0) moment over) (ap (λ labels. (first + x) ∷ labels) (in_parts untils line rising.1))
      ]
    where
      all_rest : (rest : List ℕ) → AllByRecursion (λ place. moment < get_or untils place 0) rest → map (λ place. first + place) rest ≡ keys_of (rests_of first moment untils rest)
      all_rest [] later = refl
      all_rest (y ∷ rest) later = rw (lt-ltb moment (get_or untils y 0) later.0) (ap (λ labels. (first + y) ∷ labels) (all_rest rest later.1))

  -- The labels of places that rest are those that the test leaves.
  keys_rests : (untils line : List ℕ) → keys_of (rests_of first moment untils line) ≡ map (λ place. first + place) (filter (is_later moment untils) line)
  keys_rests untils line = by (filter (is_later moment untils) line)
    where
      by : (places : List ℕ) → keys_of (map (row_of first untils) places) ≡ map (λ place. first + place) places
      by [] = refl
      by (x ∷ places) = ap (λ labels. (first + x) ∷ labels) (by places)

  -- A place in line that rests is found,
  pub rest_found : (untils line : List ℕ) (label : ℕ) → first ≤ label → Contains line (label - first) → moment < get_or untils (label - first) 0 → find nat_cmp label (rests_of first moment untils line) ≡ Some (get_or untils (label - first) 0)
  rest_found untils line label from among later =
      let rows = rests_of first moment untils line in
      let is_among : Contains (keys_of rows) label = subst (λ keys. Contains keys label) (sym (keys_rests untils line)) (to_label first (filter (is_later moment untils) line) label from (Contains-filter (is_later moment untils) line (label - first) (lt-ltb moment (get_or untils (label - first) 0) later) among)) in
      by (find nat_cmp label rows) refl (find-all_row nat_cmp exact_unsigned (λ row. row.1 ≡ get_or untils (row.0 - first) 0) label rows (each (filter (is_later moment untils) line))) is_among
    where
      each : (places : List ℕ) → AllByRecursion (λ row. row.1 ≡ get_or untils (row.0 - first) 0) (map (row_of first untils) places)
      each [] = tt
      each (x ∷ places) = let place : x ≡ first + x - first = omega arith in (ap (λ p. get_or untils p 0) place, each places)

      by : (o : Option ℕ) → find nat_cmp label (rests_of first moment untils line) ≡ o → IfSome o (λ until. until ≡ get_or untils (label - first) 0) → Contains (keys_of (rests_of first moment untils line)) label → o ≡ Some (get_or untils (label - first) 0)
      by None none is there = absurd (absent-found label (rests_of first moment untils line) none there)
      by (Some until) some is there = ap Some is

  -- and no other is.
  pub rest_not_found : (untils line : List ℕ) (label : ℕ) → (first ≤ label → Contains line (label - first) → get_or untils (label - first) 0 ≤ moment) → find nat_cmp label (rests_of first moment untils line) ≡ None
  rest_not_found untils line label over =
      find-absent label (rests_of first moment untils line) (λ among.
      let from = from_label first (filter (is_later moment untils) line) label (subst (λ keys. Contains keys label) (keys_rests untils line) among) in
      let there = Contains-from_filter (is_later moment untils) line (label - first) from.1 in
      let under = over from.0 there.1 in
      let more = ltb-true moment (get_or untils (label - first) 0) there.0 in
      absurd (omega (arith, under, more)))

  -- A label is free exactly where its place is in line, and its rest over.
  pub free_where : (untils line : List ℕ) (label : ℕ) → (Contains (free_of untils line) label ↔ ((first ≤ label) × Contains line (label - first) × (get_or untils (label - first) 0 ≤ moment)))
  free_where untils line label = (
    λ among.
        let from = from_label first (filter (is_over moment untils) line) label among in
        let there = Contains-from_filter (is_over moment untils) line (label - first) from.1 in
        (from.0, there.1, leb-true (get_or untils (label - first) 0) moment there.0),
    λ is. to_label first (filter (is_over moment untils) line) label is.0 (Contains-filter (is_over moment untils) line (label - first) (le-leb (get_or untils (label - first) 0) moment is.2) is.1),
  )

module _ (range : LabelRange) (moment : ℕ) (untils line : List ℕ) where
  -- labels of a range, by what is free of them and what rests
  abbrev labels_with : List ℕ → List (ℕ × ℕ) → Labels
  labels_with free resting = record { range = range; moment = moment; free = free; resting = resting }

  -- A place whose rest is over leaves the line.
  pub by_held : (place : ℕ) → get_or untils place 0 ≤ moment → labels_by range moment untils (line_without place line) ≡ hold (labels_by range moment untils line) (range.first + place)
  by_held place over =
      let free = ap (map (λ p. range.first + p)) (filters_swapped (is_over moment untils) (λ other. not (place == other)) line) ∙ map-line_without range.first place (filter (is_over moment untils) line) in
      let resting = ap (map (row_of range.first untils)) (filter-without_fails (is_later moment untils) place (le-ltb moment (get_or untils place 0) over) line) in
      λ i. labels_with (free i) (resting i)

  -- Another one joins it.
  module _ (place until : ℕ) (rising : IsRising untils line) (within : place < length untils) (away : Differs place line) where
    abbrev after : List ℕ
    after = set untils place (max until moment)

    at : get_or after place 0 ≡ max until moment
    at = get_or-set_same untils place (max until moment) 0 within

    same : AllByRecursion (λ other. get_or after other 0 ≡ get_or untils other 0) line
    same = same_but untils place (max until moment) line away

    pub rising_after : IsRising after line
    rising_after = rising-same untils after line same rising

    pub by_released : labels_by range moment after (line_with after place line) ≡ release (labels_by range moment untils line) (range.first + place) until
    by_released =
        let joined = at in
        elim (cases_lt moment until) [
          | inl later ↦
              let is : get_or after place 0 ≡ until = omega (arith, later, joined) in
              let free = ap (map (λ p. range.first + p)) (filter-with_fails (is_over moment after) after place (lt-leb (get_or after place 0) moment (omega (arith, later, is))) line) ∙ free_same range.first moment untils after line same in
              let resting = rests-with_later range.first moment after place line (omega (arith, later, is)) ∙ ap (λ u. rests_with (range.first + place, u) (rests_of range.first moment after line)) is ∙ ap (rests_with (range.first + place, until)) (rests_same range.first moment untils after line same) in
              rw (lt-ltb moment until later) (λ i. labels_with (free i) (resting i))
          | inr over ↦
              let is : get_or after place 0 ≡ moment = omega (arith, over, joined) in
              let free = ap (map (λ p. range.first + p)) (free-with_over range.first moment after place line rising_after is) ∙ map_push (λ p. range.first + p) (filter (is_over moment after) line) place ∙ ap (λ labels. labels ++ (range.first + place) ∷ []) (free_same range.first moment untils after line same) in
              let resting = ap (map (row_of range.first after)) (filter-with_fails (is_later moment after) after place (le-ltb moment (get_or after place 0) (omega (arith, is))) line) ∙ rests_same range.first moment untils after line same in
              rw (le-ltb moment until over) (λ i. labels_with (free i) (resting i))
        ]

  -- A moment comes.
  pub by_woken : (now : ℕ) → IsRising untils line → labels_by range (max moment now) untils line ≡ wake (labels_by range moment untils line) now
  by_woken now rising =
      let free = free-woken range.first moment untils line now rising in
      let resting = rests-woken range.first moment untils line now in
      λ i. record { range = range; moment = max moment now; free = free i; resting = resting i }

  -- No label rests any more.
  module _ (few : AllByRecursion (λ place. place < length untils) line) where
    abbrev ended : List ℕ
    ended = map (λ until. min until moment) untils

    ended_at : (place : ℕ) → place < length untils → get_or ended place 0 ≡ min (get_or untils place 0) moment
    ended_at place within = get_or-map (λ until. min until moment) untils place 0 0 within

    over_all : AllByRecursion (λ place. get_or ended place 0 ≤ moment) line
    over_all =
        all-weaker (λ place. place < length untils) (λ place. get_or ended place 0 ≤ moment) (λ place within. let e = ended_at place within in omega (arith, e)) line few

    pub by_ended : IsRising untils line → labels_by range moment ended line ≡ end_rests (labels_by range moment untils line)
    by_ended rising =
        let free = ap (map (λ p. range.first + p)) (filter-all_pass (is_over moment ended) line (all-weaker (λ place. get_or ended place 0 ≤ moment) (λ place. is_over moment ended place ≡ true) (λ place over. le-leb (get_or ended place 0) moment over) line over_all)) ∙ in_parts range.first moment untils line rising in
        let resting = ap (map (row_of range.first ended)) (filter-all_fail (is_later moment ended) line (all-weaker (λ place. get_or ended place 0 ≤ moment) (λ place. is_later moment ended place ≡ false) (λ place over. le-ltb moment (get_or ended place 0) over) line over_all)) in
        λ i. labels_with (free i) (resting i)

    pub rising-ended : IsRising untils line → IsRising ended line
    rising-ended rising = along line few rising
      where
        along : (part : List ℕ) → AllByRecursion (λ place. place < length untils) part → IsRising untils part → IsRising ended part
        along [] within up = tt
        along (x ∷ part) within up =
            let here = ended_at x within.0 in (
              all-both (λ place. place < length untils) (λ place. get_or untils x 0 ≤ get_or untils place 0) (λ place. get_or ended x 0 ≤ get_or ended place 0) (λ place inside above. let e = ended_at place inside in omega (arith, e, here, above)) part within.1 up.0,
              along part within.1 up.1,
            )

-- What is given is the first in line, where its rest is over.
pub given_first : (range : LabelRange) (moment : ℕ) (untils : List ℕ) (place : ℕ) (line : List ℕ) → IsRising untils line → slice_get line 0 ≡ Some place → give (labels_by range moment untils line) ≡ cond (nat_le (get_or untils place 0) moment) (Some (range.first + place)) None
given_first range moment untils place [] rising first = absurd (none-some place first)
given_first range moment untils place (x ∷ line) rising first =
    let same : x ≡ place = same_Some x place first in
    subst (λ p. give (labels_by range moment untils (x ∷ line)) ≡ cond (nat_le (get_or untils p 0) moment) (Some (range.first + p)) None) same (elim (cases_lt moment (get_or untils x 0)) [
      | inl more ↦ rw (lt-leb (get_or untils x 0) moment more) (ap (λ places. slice_get (map (λ p. range.first + p) places) 0) (none_over range.first moment untils line (all_later range.first moment untils x line rising more).1))
      | inr over ↦ rw (le-leb (get_or untils x 0) moment over) refl
    ])

pub given_none : (range : LabelRange) (moment : ℕ) (untils line : List ℕ) → slice_get line 0 ≡ None → give (labels_by range moment untils line) ≡ None
given_none range moment untils [] none = refl
given_none range moment untils (x ∷ line) none = absurd (none-some x (sym none))

-- what is given is free
pub given_free : (labels : Labels) (label : ℕ) → give labels ≡ Some label → IsFree labels label
given_free labels label given = first_in labels.free given
  where
    first_in : (line : List ℕ) → slice_get line 0 ≡ Some label → Contains line label
    first_in [] none = absurd (none-some label none)
    first_in (x ∷ line) some = Contains-first x line label (same_Some x label some)

-- so many moments 0: no place of a new space rests
abbrev pub zeros : ℕ → List ℕ
zeros count = replicate count 0

zero_at : (count place : ℕ) → get_or (zeros count) place 0 ≡ 0
zero_at count place =
    elim (cases_lt place count) [
      | inl within ↦ get_or-replicate count place 0 0 within
      | inr past ↦ let len : length (zeros count) ≡ count = length-replicate count 0 in get_or_past (zeros count) place 0 (omega (arith, past, len))
    ]

pub rising-new : (count : ℕ) (line : List ℕ) → IsRising (zeros count) line
rising-new count [] = tt
rising-new count (x ∷ line) = (all-always (λ place. get_or (zeros count) x 0 ≤ get_or (zeros count) place 0) (λ place. let a = zero_at count x in let b = zero_at count place in omega (arith, a, b)) line, rising-new count line)

pub by_new : (range : LabelRange) (count : ℕ) (line : List ℕ) → labels_by range 0 (zeros count) line ≡ record { range = range; moment = 0; free = labels_at range line; resting = [] }
by_new range count line =
    let untils = zeros count in
    let free = ap (map (λ p. range.first + p)) (filter-all_pass (is_over 0 untils) line (all-always (λ place. is_over 0 untils place ≡ true) (λ place. le-leb (get_or untils place 0) 0 (let e = zero_at count place in omega (arith, e))) line)) in
    let resting = ap (map (row_of range.first untils)) (filter-all_fail (is_later 0 untils) line (all-always (λ place. is_later 0 untils place ≡ false) (λ place. le-ltb 0 (get_or untils place 0) (let e = zero_at count place in omega (arith, e))) line)) in
    λ i. record { range = range; moment = 0; free = free i; resting = resting i }
