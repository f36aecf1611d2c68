-- What links say of their line, and what each change of them makes of it.
use Rattle.std.proofs.Common.{◌≡◌, ◌≢◌, ◌⊎◌, ℕ, zero, suc, ◌+◌, ◌<◌, ◌≤◌, ◌==◌, nat_eq, not, true, false, List, [], ◌∷◌, ◌++◌, Some, None, length, get_or, set, refl, sym, ap, subst, ◌∙◌, inl, inr, arith, add-one, get_or-set_other, get_or-set_same}
use Rattle.std.specs.List.{AllByRecursion, Contains, IsDistinct, list_any, range_with_len, slice_get}
use Rattle.std.specs.Option.{unwrap_or}
use Rattle.std.proofs.lemmas.Bool.{cases_eq, eqb-false, eqb-true, false≢true, ne_eqb, or_cases}
use Rattle.std.proofs.lemmas.Grind.{get_or-set_at}
use Rattle.std.proofs.lemmas.List.{append-nil, append_assoc, get_or_append_left, get_or_push, length-append, length-set}
use Rattle.std.proofs.lemmas.List.Elements.{Contains-append_left, Contains-push}
use Rattle.std.proofs.lemmas.List.FromFn.{get_or-range_with_len, length-range_with_len}
use Rattle.std.proofs.lemmas.Map.Steps.{length-le_from_distinct_below}
use Rattle.sorted_rows.specs.ListLaws.{all-append, all-filter, all-weaker}
use Rattle.label_space.specs.LineLaws.{Contains-line_without, Contains-with_others, Contains-with_same, Differs, IsDistinct-joined, IsDistinct-line_without, all-with, cases_contained, differs_from, distinct_with, line_around, line_without-between}
use Rattle.label_space.specs.Lines.{AreLinks, IsLinked, line_of, line_without}
use Rattle.label_space.proofs.Links.{all-first, all-last, all-part, around_place, line_from-linked, linked_last, linked-join, linked-part, linked-removed, linked-set_end, linked-set_next, linked-set_previous}

-- the end differs from each place
end_differs : (count : ℕ) (line : List ℕ) → AllByRecursion (λ place. place < count) line → Differs count line
end_differs count line within =
    all-weaker (λ place. place < count) (λ place. (count == place) ≡ false) (λ place below. ne_eqb count place (λ same. absurd (omega arith))) line within

-- a place of the line is below the end
below_any : (count place : ℕ) (line : List ℕ) → AllByRecursion (λ p. p < count) line → list_any (nat_eq place) line ≡ true → place < count
below_any count place [] within among = absurd (false≢true among)
below_any count place (x ∷ line) within among =
    elim (or_cases (place == x) (list_any (nat_eq place) line) among) [
      | inl same ↦ let e = eqb-true place x same in let lt : x < count = within.0 in omega (arith, e)
      | inr later ↦ below_any count place line within.1 later
    ]

below_contained : (count place : ℕ) (line : List ℕ) → AllByRecursion (λ p. p < count) line → Contains line place → place < count
below_contained count place line within among =
    let around = line_around line place among in
    (all-part (λ p. p < count) around.0 place around.1 (subst (AllByRecursion (λ p. p < count)) around.2 within)).1

-- links that go from the end along a line to the end are links, and say that line
pub are_links : (count : ℕ) (next previous line : List ℕ) → length next ≡ count + 1 → length previous ≡ count + 1 → IsLinked next previous count line count → AllByRecursion (λ place. place < count) line → IsDistinct nat_eq line → ((place : ℕ) → place < count → ¬ Contains line place → get_or next place 0 ≡ place) → AreLinks count next previous × (line_of count next ≡ line)
are_links count next previous line nexts previouses linked within apart alone =
    let few = length-le_from_distinct_below line count apart (λ place. below_any count place line within) in
    let said = line_from-linked count count next previous count line linked (end_differs count line within) few in
    let back : line ≡ line_of count next = sym said in (
      record {
        nexts = nexts;
        previouses = previouses;
        linked = subst (λ l. IsLinked next previous count l count) back linked;
        within = subst (AllByRecursion (λ place. place < count)) back within;
        apart = subst (IsDistinct nat_eq) back apart;
        alone = subst (λ l. (place : ℕ) → place < count → ¬ Contains l place → get_or next place 0 ≡ place) back alone;
      },
      said,
    )

module _ (count : ℕ) (next previous : List ℕ) (links : AreLinks count next previous) where
  -- a place in line is a place
  pub place_within : (place : ℕ) → Contains (line_of count next) place → place < count
  place_within place among = below_contained count place (line_of count next) links.within among

  -- a line, parted at one of its places
  abbrev Parted : ℕ → List ℕ → List ℕ → Type 0
  Parted place before behind =
      IsLinked next previous count before place × IsLinked next previous place behind count × AllByRecursion (λ p. p < count) before × AllByRecursion (λ p. p < count) behind

  parted : (place : ℕ) (before behind : List ℕ) → line_of count next ≡ before ++ place ∷ behind → Parted place before behind
  parted place before behind is =
      let parts = linked-part next previous count before place behind count (subst (λ l. IsLinked next previous count l count) is links.linked) in
      let within = all-part (λ p. p < count) before place behind (subst (AllByRecursion (λ p. p < count)) is links.within) in
      (parts.0, parts.1, within.0, within.2)

  -- the place before one in line is a place, or the end
  pub previous_within : (place : ℕ) → Contains (line_of count next) place → get_or previous place 0 < count + 1
  previous_within place among =
      let around = line_around (line_of count next) place among in
      let parts = parted place around.0 around.1 around.2 in
      all-last (λ p. p < count + 1) next previous count around.0 place parts.0 (omega arith) (all-weaker (λ p. p < count) (λ p. p < count + 1) (λ p below. omega (arith, below)) around.0 parts.2)

  -- so is the place behind it
  pub next_within : (place : ℕ) → Contains (line_of count next) place → get_or next place 0 < count + 1
  next_within place among =
      let around = line_around (line_of count next) place among in
      let parts = parted place around.0 around.1 around.2 in
      all-first (λ p. p < count + 1) next previous place around.1 count parts.1 (omega arith) (all-weaker (λ p. p < count) (λ p. p < count + 1) (λ p below. omega (arith, below)) around.1 parts.3)

  -- and the last of all
  pub last_within : get_or previous count 0 < count + 1
  last_within =
      all-last (λ p. p < count + 1) next previous count (line_of count next) count links.linked (omega arith) (all-weaker (λ p. p < count) (λ p. p < count + 1) (λ p below. omega (arith, below)) (line_of count next) links.within)

  -- a line with nothing behind its end is empty
  none_at : (line : List ℕ) → IsLinked next previous count line count → AllByRecursion (λ p. p < count) line → get_or next count 0 ≡ count → slice_get line 0 ≡ None
  none_at [] linked within is = refl
  none_at (place ∷ line) linked within is = let same : place ≡ count = sym linked.0 ∙ is in absurd (omega (arith, within.0, same))

  pub none_first : get_or next count 0 ≡ count → slice_get (line_of count next) 0 ≡ None
  none_first = none_at (line_of count next) links.linked links.within

  -- and else begins with what is behind its end
  some_at : (line : List ℕ) → IsLinked next previous count line count → get_or next count 0 ≢ count → slice_get line 0 ≡ Some (get_or next count 0)
  some_at [] linked apart = absurd (apart linked.0)
  some_at (place ∷ line) linked apart = ap (λ p. Some p) (sym linked.0)

  pub some_first : get_or next count 0 ≢ count → slice_get (line_of count next) 0 ≡ Some (get_or next count 0)
  some_first = some_at (line_of count next) links.linked

  -- a place that has another one behind it is in line
  pub is_in_line : (place : ℕ) → place < count → get_or next place 0 ≢ place → Contains (line_of count next) place
  is_in_line place below apart =
      elim (cases_contained (line_of count next) place) [ inl among ↦ among | inr absent ↦ absurd (apart (links.alone place below absent)) ]

  -- and the other way round
  pub has_another : (place : ℕ) → Contains (line_of count next) place → get_or next place 0 ≢ place
  has_another place among same =
      let around = line_around (line_of count next) place among in
      let parts = parted place around.0 around.1 around.2 in
      let behind = (around_place around.0 place around.1 (subst (IsDistinct nat_eq) around.2 links.apart)).differs_behind in
      let below : place < count = place_within place among in
      let differs = all-first (λ p. (place == p) ≡ false) next previous place around.1 count parts.1 (ne_eqb place count (λ e. absurd (omega (arith, below)))) behind in
      eqb-false place (get_or next place 0) differs (sym same)

  -- A place leaves the line: the places on both sides of it name each other, and it names itself.
  pub removed : (place last first : ℕ) → Contains (line_of count next) place → last ≡ get_or previous place 0 → first ≡ get_or next place 0 → AreLinks count (set (set next last first) place place) (set previous first last) × (line_of count (set (set next last first) place place) ≡ line_without place (line_of count next))
  removed place last first among is_last is_first =
      let line = line_of count next in
      let around = line_around line place among in
      let before = around.0 in
      let behind = around.1 in
      let below : place < count = place_within place among in
      let parts = parted place before behind around.2 in
      let sides = around_place before place behind (subst (IsDistinct nat_eq) around.2 links.apart) in
      let differs = subst (Differs count) around.2 (end_differs count line links.within) in
      let last_below : last < length next = let h = previous_within place among in omega (arith, is_last, links.nexts) in
      let first_below : first < length previous = let h = next_within place among in omega (arith, is_first, links.previouses) in
      let relinked = linked-removed next previous last first count before place behind count is_last is_first last_below first_below differs differs (subst (IsDistinct nat_eq) around.2 links.apart) (subst (λ l. IsLinked next previous count l count) around.2 links.linked) in
      let apart : place ≢ count = λ same. absurd (omega (arith, below)) in
      let away = all-append (λ y. (place == y) ≡ false) before behind sides.differs_before sides.differs_behind in
      let alone_again = linked-set_next (set next last first) (set previous first last) place place count (before ++ behind) count apart away relinked in
      let left : line_without place line ≡ before ++ behind = ap (line_without place) around.2 ∙ line_without-between place before behind sides.differs_before sides.differs_behind in
      are_links count (set (set next last first) place place) (set previous first last) (line_without place line)
      (length-set (set next last first) place place ∙ length-set next last first ∙ links.nexts)
      (length-set previous first last ∙ links.previouses)
      (subst (λ l. IsLinked (set (set next last first) place place) (set previous first last) count l count) (sym left) alone_again)
      (all-filter (λ p. p < count) (λ other. not (place == other)) line links.within)
      (IsDistinct-line_without place line links.apart)
      (λ other other_below absent. elim (cases_eq other place) [
        | inl same ↦ get_or-set_at (set next last first) place other place 0 same (omega (arith, length-set next last first, links.nexts)) ∙ sym same
        | inr other_apart ↦
            let other_absent : ¬ Contains line other = λ other_among. absent (Contains-line_without place line other (λ same. other_apart (sym same)) other_among) in
            let other_differs = (all-part (λ y. (other == y) ≡ false) before place behind (subst (Differs other) around.2 (differs_from line other other_absent))).0 in
            let last_differs = all-last (λ p. (other == p) ≡ false) next previous count before place parts.0 (ne_eqb other count (λ same. absurd (omega (arith, other_below)))) other_differs in
            get_or-set_other (set next last first) place other place 0 other_apart
            ∙ get_or-set_other next last other first 0 (λ same. eqb-false other (get_or previous place 0) last_differs (same ∙ is_last))
            ∙ links.alone other other_below other_absent
      ])

  -- A place joins the line at its end: it and the last one name each other, and it and the end.
  pub joined : (place last : ℕ) → place < count → ¬ Contains (line_of count next) place → last ≡ get_or previous count 0 → AreLinks count (set (set next last place) place count) (set (set previous place last) count place) × (line_of count (set (set next last place) place count) ≡ line_of count next ++ place ∷ [])
  joined place last below absent is_last =
      let line = line_of count next in
      let differs = end_differs count line links.within in
      let away = differs_from line place absent in
      let last_below : last < length next = let h = last_within in omega (arith, is_last, links.nexts) in
      let apart : place ≢ count = λ same. absurd (omega (arith, below)) in
      let next' = set next last place in
      let previous' = set previous place last in
      let relinked = linked-set_end next previous last place count line count is_last last_below (omega (arith, below, links.previouses)) differs links.apart away links.linked in
      let before = linked-set_previous (set next' place count) previous' count place count line place (λ same. apart (sym same)) differs (linked-set_next next' previous' place count count line place apart away relinked) in
      let behind = get_or-set_same next' place count 0 (omega (arith, below, length-set next last place, links.nexts)) in
      let end = get_or-set_same previous' count place 0 (omega (arith, length-set previous place last, links.previouses)) in
      are_links count (set next' place count) (set previous' count place) (line ++ place ∷ [])
      (length-set next' place count ∙ length-set next last place ∙ links.nexts)
      (length-set previous' count place ∙ length-set previous place last ∙ links.previouses)
      (linked-join (set next' place count) (set previous' count place) count line place [] count before (behind, end))
      (all-append (λ p. p < count) line (place ∷ []) links.within (below, tt))
      (IsDistinct-joined line place links.apart away)
      (λ other other_below other_absent.
      let other_apart : other ≢ place = λ same. other_absent (subst (Contains (line ++ place ∷ [])) (sym same) (Contains-push line place)) in
      let before_absent : ¬ Contains line other = λ among. other_absent (Contains-append_left line (place ∷ []) other among) in
      let last_differs = all-last (λ p. (other == p) ≡ false) next previous count line count links.linked (ne_eqb other count (λ same. absurd (omega (arith, other_below)))) (differs_from line other before_absent) in
      get_or-set_other next' place other count 0 other_apart
      ∙ get_or-set_other next last other place 0 (λ same. eqb-false other (get_or previous count 0) last_differs (same ∙ is_last))
      ∙ links.alone other other_below before_absent)

  -- A place joins the line before another one: it and the one before that one name each other, and it and that one.
  joined_before : (place last there : ℕ) (before behind : List ℕ) → line_of count next ≡ before ++ there ∷ behind → place < count → ¬ Contains (line_of count next) place → last ≡ get_or previous there 0 → AreLinks count (set (set next last place) place there) (set (set previous place last) there place) × (line_of count (set (set next last place) place there) ≡ before ++ place ∷ there ∷ behind)
  joined_before place last there before behind is below absent is_last =
      let line = line_of count next in
      let parts = parted there before behind is in
      let distinct = subst (IsDistinct nat_eq) is links.apart in
      let sides = around_place before there behind distinct in
      let within = subst (AllByRecursion (λ p. p < count)) is links.within in
      let there_below : there < count = (all-part (λ p. p < count) before there behind within).1 in
      let ends = all-part (λ p. (count == p) ≡ false) before there behind (subst (Differs count) is (end_differs count line links.within)) in
      let whole = subst (Differs place) is (differs_from line place absent) in
      let away = all-part (λ p. (place == p) ≡ false) before there behind whole in
      let last_below : last < length next =
      let h = all-last (λ p. p < count + 1) next previous count before there parts.0 (omega arith) (all-weaker (λ p. p < count) (λ p. p < count + 1) (λ p lower. omega (arith, lower)) before parts.2) in omega (arith, h, is_last, links.nexts) in
      let last_apart : last ≢ there = λ same. eqb-false there (get_or previous there 0) (all-last (λ p. (there == p) ≡ false) next previous count before there parts.0 (ne_eqb there count (λ e. absurd (omega (arith, e, there_below)))) sides.differs_before) (sym same ∙ is_last) in
      let last_differs : Differs last behind = subst (λ p. Differs p behind) (sym is_last) (all-last (λ p. Differs p behind) next previous count before there parts.0 ends.2 sides.apart) in
      let place_end : place ≢ count = λ same. absurd (omega (arith, same, below)) in
      let there_end : there ≢ count = λ same. absurd (omega (arith, same, there_below)) in
      let place_there : place ≢ there = eqb-false place there away.1 in
      let next' = set next last place in
      let next'' = set next' place there in
      let previous' = set previous place last in
      let previous'' = set previous' there place in
      let relinked = linked-set_end next previous last place count before there is_last last_below (omega (arith, below, links.previouses)) ends.0 sides.first away.0 parts.0 in
      let first = linked-set_previous next'' previous' there place count before place (λ same. place_there (sym same)) sides.differs_before (linked-set_next next' previous' place there count before place place_end away.0 relinked) in
      let second = linked-set_previous next'' previous' there place there behind count there_end sides.differs_behind (linked-set_previous next'' previous place last there behind count place_end away.2 (linked-set_next next' previous place there there behind count place_there away.2 (linked-set_next next previous last place there behind count last_apart last_differs parts.1))) in
      let forth = get_or-set_same next' place there 0 (omega (arith, below, length-set next last place, links.nexts)) in
      let back = get_or-set_same previous' there place 0 (omega (arith, there_below, length-set previous place last, links.previouses)) in
      are_links count next'' previous'' (before ++ place ∷ there ∷ behind)
      (length-set next' place there ∙ length-set next last place ∙ links.nexts)
      (length-set previous' there place ∙ length-set previous place last ∙ links.previouses)
      (linked-join next'' previous'' count before place (there ∷ behind) count first (forth, back, second))
      (all-with (λ p. p < count) before place (there ∷ behind) below within)
      (distinct_with before place (there ∷ behind) whole distinct)
      (λ other other_below other_absent.
      let other_apart : other ≢ place = λ same. other_absent (subst (Contains (before ++ place ∷ there ∷ behind)) (sym same) (Contains-with_same before place (there ∷ behind))) in
      let before_absent : ¬ Contains line other = λ among. other_absent (Contains-with_others before place (there ∷ behind) other (subst (λ l. Contains l other) is among)) in
      let differs = (all-part (λ y. (other == y) ≡ false) before there behind (subst (Differs other) is (differs_from line other before_absent))).0 in
      let apart_last = all-last (λ p. (other == p) ≡ false) next previous count before there parts.0 (ne_eqb other count (λ same. absurd (omega (arith, same, other_below)))) differs in
      get_or-set_other next' place other there 0 other_apart
      ∙ get_or-set_other next last other place 0 (λ same. eqb-false other (get_or previous there 0) apart_last (same ∙ is_last))
      ∙ links.alone other other_below before_absent)

  -- So it joins the line between its two parts.
  pub inserted : (place last there : ℕ) (before behind : List ℕ) → line_of count next ≡ before ++ behind → unwrap_or (slice_get behind 0) count ≡ there → place < count → ¬ Contains (line_of count next) place → last ≡ get_or previous there 0 → AreLinks count (set (set next last place) place there) (set (set previous place last) there place) × (line_of count (set (set next last place) place there) ≡ before ++ place ∷ behind)
  inserted place last there before [] is at below absent is_last =
      let line : line_of count next ≡ before = is ∙ append-nil before in
      let made = joined place last below absent (is_last ∙ ap (λ p. get_or previous p 0) (sym at)) in
      subst (λ p. AreLinks count (set (set next last place) place p) (set (set previous place last) p place) × (line_of count (set (set next last place) place p) ≡ before ++ place ∷ [])) at (made.0, made.1 ∙ ap (λ l. l ++ place ∷ []) line)
  inserted place last there before (first ∷ behind) is at below absent is_last =
      let made = joined_before place last first before behind is below absent (is_last ∙ ap (λ p. get_or previous p 0) (sym at)) in
      subst (λ p. AreLinks count (set (set next last place) place p) (set (set previous place last) p place) × (line_of count (set (set next last place) place p) ≡ before ++ place ∷ first ∷ behind)) at made

  -- the first of the other part is a place, or the end
  pub there_within : (there : ℕ) (before behind : List ℕ) → line_of count next ≡ before ++ behind → unwrap_or (slice_get behind 0) count ≡ there → there < count + 1
  there_within there before [] is at = omega (arith, at)
  there_within there before (first ∷ behind) is at =
      let below = (all-part (λ p. p < count) before first behind (subst (AllByRecursion (λ p. p < count)) is links.within)).1 in
      omega (arith, at, below)

  -- and the one before it is the last of the one part, or the end where none is in that
  pub last_of : (there : ℕ) (before behind : List ℕ) → line_of count next ≡ before ++ behind → unwrap_or (slice_get behind 0) count ≡ there → ((before ≡ []) × (get_or previous there 0 ≡ count)) ⊎ ((less : List ℕ) × (before ≡ less ++ get_or previous there 0 ∷ []))
  last_of there before [] is at =
      let linked = subst (λ l. IsLinked next previous count l count) (is ∙ append-nil before) links.linked in
      subst (λ p. ((before ≡ []) × (get_or previous p 0 ≡ count)) ⊎ ((less : List ℕ) × (before ≡ less ++ get_or previous p 0 ∷ []))) at (linked_last next previous count before count linked)
  last_of there before (first ∷ behind) is at =
      subst (λ p. ((before ≡ []) × (get_or previous p 0 ≡ count)) ⊎ ((less : List ℕ) × (before ≡ less ++ get_or previous p 0 ∷ []))) at (linked_last next previous count before first (parted first before behind is).0)

  -- which is below the end
  pub last_is_place : (less behind : List ℕ) (last : ℕ) → line_of count next ≡ (less ++ last ∷ []) ++ behind → last < count
  last_is_place less behind last is =
      (all-part (λ p. p < count) less last behind (subst (AllByRecursion (λ p. p < count)) (is ∙ append_assoc less (last ∷ []) behind) links.within)).1

  pub last_below : (there : ℕ) (before behind : List ℕ) → line_of count next ≡ before ++ behind → unwrap_or (slice_get behind 0) count ≡ there → get_or previous there 0 ≢ count → get_or previous there 0 < count
  last_below there before behind is at apart =
      elim (last_of there before behind is at) [
        | inl none ↦ absurd (apart none.1)
        | inr some ↦ last_is_place some.0 behind (get_or previous there 0) (is ∙ ap (λ l. l ++ behind) some.1)
      ]

  pub last_before_within : (there : ℕ) (before behind : List ℕ) → line_of count next ≡ before ++ behind → unwrap_or (slice_get behind 0) count ≡ there → get_or previous there 0 < count + 1
  last_before_within there before behind is at =
      elim (last_of there before behind is at) [
        | inl none ↦ let e = none.1 in omega (arith, e)
        | inr some ↦ let below = last_is_place some.0 behind (get_or previous there 0) (is ∙ ap (λ l. l ++ behind) some.1) in omega (arith, below)
      ]

  -- no more places are in line than there are
  pub line_few : length (line_of count next) ≤ count
  line_few = length-le_from_distinct_below (line_of count next) count links.apart (λ place. below_any count place (line_of count next) links.within)

-- numbers from one on are at least it
range_above : (low from count : ℕ) → low < from → AllByRecursion (λ x. (low == x) ≡ false) (range_with_len from count)
range_above low from zero above = tt
range_above low from (suc count) above =
    (ne_eqb low from (λ same. absurd (omega (arith, above))), range_above low (from + 1) count (omega (arith, above)))

-- and below where they end
pub range_below : (high from count : ℕ) → from + count ≤ high → AllByRecursion (λ x. x < high) (range_with_len from count)
range_below high from zero below = tt
range_below high from (suc count) below = (omega (arith, below), range_below high (from + 1) count (omega (arith, below)))

-- none of them is twice
pub IsDistinct-range : (from count : ℕ) → IsDistinct nat_eq (range_with_len from count)
unfolding IsDistinct
IsDistinct-range from zero = tt
IsDistinct-range from (suc count) = (range_above from (from + 1) count (omega arith), IsDistinct-range (from + 1) count)

-- one number more
range_with_len-suc : (from count : ℕ) → range_with_len from (suc count) ≡ range_with_len from count ++ (from + count) ∷ []
range_with_len-suc from zero = let e : from ≡ from + 0 = omega arith in ap (λ x. x ∷ []) e
range_with_len-suc from (suc count) =
    let e : from + 1 + count ≡ from + suc count = omega arith in
    ap (λ rest. from ∷ rest) (range_with_len-suc (from + 1) count ∙ ap (λ x. range_with_len (from + 1) count ++ x ∷ []) e)

pub range_with_len-more : (from count : ℕ) → range_with_len from (count + 1) ≡ range_with_len from count ++ (from + count) ∷ []
range_with_len-more from count = ap (range_with_len from) (add-one count) ∙ range_with_len-suc from count

module _ (count : ℕ) (next previous : List ℕ) (is_next : next ≡ range_with_len 1 count ++ 0 ∷ []) (is_previous : previous ≡ count ∷ range_with_len 0 count) where
  -- the links of all places in line, the least first
  next_at : (place : ℕ) → place < count → get_or next place 0 ≡ place + 1
  next_at place below =
      ap (λ l. get_or l place 0) is_next
      ∙ get_or_append_left (range_with_len 1 count) (0 ∷ []) 0 place (omega (arith, below, length-range_with_len 1 count))
      ∙ get_or-range_with_len 1 count place 0 below
      ∙ omega arith

  next_end : get_or next count 0 ≡ 0
  next_end = ap (λ l. get_or l count 0) is_next ∙ get_or_push (range_with_len 1 count) 0 0 count (length-range_with_len 1 count)

  previous_at : (place : ℕ) → place < count → get_or previous (place + 1) 0 ≡ place
  previous_at place below =
      ap (λ l. get_or l (place + 1) 0) is_previous ∙ (rw add-one (get_or-range_with_len 0 count place 0 below ∙ omega arith))

  previous_first : get_or previous 0 0 ≡ count
  previous_first = ap (λ l. get_or l 0 0) is_previous

  -- from one place on
  linked_from : (from left : ℕ) → from + 1 + left ≡ count → IsLinked next previous from (range_with_len (from + 1) left) count
  linked_from from zero is =
      let end : from + 1 ≡ count = omega (arith, is) in
      let below : from < count = omega (arith, is) in
      (next_at from below ∙ end, subst (λ p. get_or previous p 0 ≡ from) end (previous_at from below))
  linked_from from (suc left) is =
      let below : from < count = omega (arith, is) in
      (next_at from below, previous_at from below, linked_from (from + 1) left (omega (arith, is)))

  -- from the end on
  linked_whole : (left : ℕ) → left ≡ count → IsLinked next previous count (range_with_len 0 left) count
  linked_whole zero is = (next_end ∙ is, subst (λ p. get_or previous p 0 ≡ count) is previous_first)
  linked_whole (suc left) is = (next_end, previous_first, linked_from 0 left (omega (arith, is)))

  pub all_in_line : AreLinks count next previous × (line_of count next ≡ range_with_len 0 count)
  all_in_line =
      are_links count next previous (range_with_len 0 count)
      (ap length is_next ∙ (length-append (range_with_len 1 count) (0 ∷ []) ∙ omega (arith, length-range_with_len 1 count)))
      (ap length is_previous ∙ omega (arith, length-range_with_len 0 count))
      (linked_whole count refl)
      (range_below count 0 count (omega arith))
      (IsDistinct-range 0 count)
      (λ place below absent. absurd (absent (place, omega (arith, below, length-range_with_len 0 count), get_or-range_with_len 0 count place place below ∙ omega arith)))
