-- Laws of labels, however they are held and released, and whatever moments come.
use Rattle.std.specs.Prelude.{◌≡◌, ◌≢◌, ℕ, ◌<◌, ◌≤◌, ◌==◌, ◌↔◌, ◌⊎◌, max, nat_eq, nat_le, nat_lt, Bool, true, false, cond, not, List, [], ◌∷◌, ◌++◌, All, Contains, None, Some, filter, map, slice_get}
use Rattle.std.specs.List.{AllByRecursion, IsDistinct}
use Rattle.std.proofs.Common.{refl, sym, ap, subst, ◌∙◌, inl, inr, arith}
use Rattle.std.proofs.lemmas.Bool.{cases_eq, cases_lt, eq-eqb, eqb-true, le-leb, le-ltb, lt-leb, lt-ltb, ltb-true, ne_eqb}
use Rattle.std.proofs.lemmas.List.{append-nil, append_assoc, map-append}
use Rattle.std.proofs.lemmas.List.Elements.{All-from_recursion, Contains-append_cases, Contains-append_left, Contains-append_right}
use Rattle.std.proofs.lemmas.Map.Keys.{IsDistinct-head}
use Rattle.std.proofs.lemmas.Option.{none-some, same_Some}
use Rattle.sorted_rows.specs.ListLaws.{all-append, all-both, all-filter, all-filter_passes, all-from_map, all-map, all-weaker}
use Rattle.sorted_rows.specs.Rows.{keys_of}
use Rattle.lsr_facts.specs.declared.router.LabelRange.{LabelRange}
use Rattle.label_space.specs.Changes.{Change, IsTaken, after, held, released, woken}
use Rattle.label_space.specs.Labels.{IsFree, IsHeld, IsLabelSpace, IsOf, IsResting, Labels, end_rests, give, hold, in_line, release, rests_with, wake}
use Rattle.label_space.specs.LineLaws.{Contains-cons_cases, Contains-filter, Contains-first, Contains-from_without, Contains-later, Contains-line_without, Contains-with_cases, Contains-with_others, Contains-with_same, Differs, absent_from, all-parts, all-with, cases_contained, differs_from, distinct_around, distinct_filter, distinct_parts, distinct_with, gone_differs, none_contained, line_without-first}
use Rattle.label_space.specs.Lines.{line_without}
use Rattle.label_space.specs.Rests.{resting_past}

-- a held label is not in line
pub held_not_in_line : (labels : Labels) (label : ℕ) → IsHeld labels label → ¬ Contains (in_line labels) label
held_not_in_line labels label taken among =
    elim (Contains-append_cases labels.free (keys_of labels.resting) label among) [ inl free ↦ taken.taken free | inr rests ↦ taken.awake rests ]

-- and the other way round
pub held_from_line : (labels : Labels) (label : ℕ) → IsOf labels.range label → ¬ Contains (in_line labels) label → IsHeld labels label
held_from_line labels label own absent = record {
  own = own;
  taken = λ free. absent (Contains-append_left labels.free (keys_of labels.resting) label free);
  awake = λ rests. absent (Contains-append_right labels.free (keys_of labels.resting) label rests);
}

-- a free label is one of the range
pub free_own : (labels : Labels) (label : ℕ) → IsLabelSpace labels → IsFree labels label → IsOf labels.range label
free_own labels label space free = among (in_line labels) space.own (Contains-append_left labels.free (keys_of labels.resting) label free)
  where
    among : (line : List ℕ) → AllByRecursion (IsOf labels.range) line → Contains line label → IsOf labels.range label
    among [] own here = absurd (none_contained label here)
    among (x ∷ line) own here = elim (Contains-cons_cases x line label here) [ inl same ↦ subst (IsOf labels.range) same own.0 | inr later ↦ among line own.1 later ]

-- and doesn't rest
pub free_awake : (labels : Labels) (label : ℕ) → IsLabelSpace labels → IsFree labels label → ¬ IsResting labels label
free_awake labels label space free =
    absent_from (keys_of labels.resting) label (distinct_parts labels.free (keys_of labels.resting) label space.apart free)

-- what rests isn't given
pub resting_not_given : (labels : Labels) (label : ℕ) → IsLabelSpace labels → IsResting labels label → give labels ≢ Some label
resting_not_given labels label space rests given = free_awake labels label space (first_in labels.free given) rests
  where
    first_in : (line : List ℕ) → slice_get line 0 ≡ Some label → Contains line label
    first_in [] none = absurd (none-some label none)
    first_in (x ∷ line) some = Contains-first x line label (same_Some x label some)

-- where none is given each is held, or rests
all_taken : (labels : Labels) (free : List ℕ) → labels.free ≡ free → slice_get free 0 ≡ None → (label : ℕ) → IsOf labels.range label → IsHeld labels label ⊎ IsResting labels label
all_taken labels [] is none label own =
    elim (cases_contained (keys_of labels.resting) label) [
      | inl rests ↦ inr rests
      | inr awake ↦ inl (record { own = own; taken = λ free. none_contained label (subst (λ line. Contains line label) is free); awake = awake })
    ]
all_taken labels (x ∷ free) is none label own = absurd (none-some x (sym none))

-- and the other way round
none_left : (labels : Labels) (free : List ℕ) → labels.free ≡ free → IsLabelSpace labels → ((label : ℕ) → IsOf labels.range label → IsHeld labels label ⊎ IsResting labels label) → slice_get free 0 ≡ None
none_left labels [] is space taken = refl
none_left labels (x ∷ free) is space taken =
    let here : IsFree labels x = subst (λ line. Contains line x) (sym is) (Contains-first x free x refl) in
    elim (taken x (free_own labels x space here)) [ inl is_held ↦ absurd (is_held.taken here) | inr rests ↦ absurd (free_awake labels x space here rests) ]

pub none_given : (labels : Labels) → IsLabelSpace labels → ((give labels ≡ None) ↔ ((label : ℕ) → IsOf labels.range label → IsHeld labels label ⊎ IsResting labels label))
none_given labels space = (all_taken labels labels.free refl, none_left labels labels.free refl space)

-- a label that is held now is held, and those that were
pub IsHeld-hold : (labels : Labels) (label other : ℕ) → IsLabelSpace labels → IsFree labels label → (IsHeld (hold labels label) other ↔ (IsHeld labels other ⊎ (other ≡ label)))
IsHeld-hold labels label other space free = (by, to)
  where
    by : IsHeld (hold labels label) other → IsHeld labels other ⊎ (other ≡ label)
    by taken = elim (cases_eq other label) [
      | inl same ↦ inr same
      | inr apart ↦ inl (record { own = taken.own; taken = λ among. taken.taken (Contains-line_without label labels.free other (λ same. apart (sym same)) among); awake = taken.awake })
    ]

    here : IsHeld (hold labels label) label
    here = record {
      own = free_own labels label space free;
      taken = absent_from (line_without label labels.free) label (gone_differs label labels.free);
      awake = free_awake labels label space free;
    }

    to : IsHeld labels other ⊎ (other ≡ label) → IsHeld (hold labels label) other
    to is = elim is [
      | inl taken ↦ record { own = taken.own; taken = λ among. taken.taken (Contains-from_without label labels.free other among); awake = taken.awake }
      | inr same ↦ subst (IsHeld (hold labels label)) (sym same) here
    ]

-- and all others are free as before
pub IsFree-hold : (labels : Labels) (label other : ℕ) → other ≢ label → (IsFree (hold labels label) other ↔ IsFree labels other)
IsFree-hold labels label other apart =
    (Contains-from_without label labels.free other, Contains-line_without label labels.free other (λ same. apart (sym same)))

pub IsLabelSpace-hold : (labels : Labels) (label : ℕ) → IsLabelSpace labels → IsLabelSpace (hold labels label)
IsLabelSpace-hold labels label space =
    let parts = all-parts (IsOf labels.range) labels.free (keys_of labels.resting) space.own in
    record {
      range = space.range;
      own = all-append (IsOf labels.range) (line_without label labels.free) (keys_of labels.resting) (all-filter (IsOf labels.range) (λ other. not (label == other)) labels.free parts.0) parts.1;
      apart = distinct_filter (λ other. not (label == other)) labels.free (keys_of labels.resting) space.apart;
      later = space.later;
    }

-- where a row joins those that rest
pub joined_rows : (row : ℕ × ℕ) (rows : List (ℕ × ℕ)) → (before : List (ℕ × ℕ)) × (behind : List (ℕ × ℕ)) × (rows ≡ before ++ behind) × (rests_with row rows ≡ before ++ row ∷ behind)
joined_rows row [] = ([], [], refl, refl)
joined_rows row (first ∷ rows) =
    let rest = joined_rows row rows in
    elim (nat_lt row.1 first.1) as (λ b. (before : List (ℕ × ℕ)) × (behind : List (ℕ × ℕ)) × (first ∷ rows ≡ before ++ behind) × (cond b (row ∷ first ∷ rows) (first ∷ rests_with row rows) ≡ before ++ row ∷ behind)) [
      | true ↦ ([], first ∷ rows, refl, refl)
      | false ↦ (first ∷ rest.0, rest.1, ap (λ more. first ∷ more) rest.2, ap (λ more. first ∷ more) rest.3)
    ]

-- where a label joins the line
pub joined_line : (labels : Labels) (label until : ℕ) → (before : List ℕ) × (behind : List ℕ) × (in_line labels ≡ before ++ behind) × (in_line (release labels label until) ≡ before ++ label ∷ behind)
joined_line labels label until =
    let at = joined_rows (label, until) labels.resting in
    elim (nat_lt labels.moment until) as (λ b. (before : List ℕ) × (behind : List ℕ) × (in_line labels ≡ before ++ behind) × (cond b labels.free (labels.free ++ label ∷ []) ++ keys_of (cond b (rests_with (label, until) labels.resting) labels.resting) ≡ before ++ label ∷ behind)) [
      | true ↦ (
        labels.free ++ keys_of at.0,
        keys_of at.1,
        ap (λ rows. labels.free ++ keys_of rows) at.2 ∙ ap (λ keys. labels.free ++ keys) (map-append (λ (row : ℕ × ℕ). row.0) at.0 at.1) ∙ sym (append_assoc labels.free (keys_of at.0) (keys_of at.1)),
        ap (λ rows. labels.free ++ keys_of rows) at.3 ∙ ap (λ keys. labels.free ++ keys) (map-append (λ (row : ℕ × ℕ). row.0) at.0 ((label, until) ∷ at.1)) ∙ sym (append_assoc labels.free (keys_of at.0) (label ∷ keys_of at.1)),
      )
      | false ↦ (labels.free, keys_of labels.resting, refl, append_assoc labels.free (label ∷ []) (keys_of labels.resting))
    ]

-- a label that is released is held no more, and those that were are
pub IsHeld-release : (labels : Labels) (label until other : ℕ) → (IsHeld (release labels label until) other ↔ (IsHeld labels other × (other ≢ label)))
IsHeld-release labels label until other = (by, to)
  where
    by : IsHeld (release labels label until) other → IsHeld labels other × (other ≢ label)
    by taken =
        let at = joined_line labels label until in
        let absent : ¬ Contains (at.0 ++ label ∷ at.1) other = λ among. held_not_in_line (release labels label until) other taken (subst (λ line. Contains line other) (sym at.3) among) in (
          held_from_line labels other taken.own (λ among. absent (Contains-with_others at.0 label at.1 other (subst (λ line. Contains line other) at.2 among))),
          λ same. absent (subst (Contains (at.0 ++ label ∷ at.1)) (sym same) (Contains-with_same at.0 label at.1)),
        )

    to : IsHeld labels other × (other ≢ label) → IsHeld (release labels label until) other
    to is =
        let at = joined_line labels label until in
        held_from_line (release labels label until) other is.0.own (λ among. elim (Contains-with_cases at.0 label at.1 other (subst (λ line. Contains line other) at.3 among)) [
          | inl same ↦ is.1 (sym same)
          | inr before ↦ held_not_in_line labels other is.0 (subst (λ line. Contains line other) (sym at.2) before)
        ])

-- it is free where its moment has come
pub IsFree-release : (labels : Labels) (label until : ℕ) → until ≤ labels.moment → IsFree (release labels label until) label
IsFree-release labels label until over =
    subst (λ b. Contains (cond b labels.free (labels.free ++ label ∷ [])) label) (sym (le-ltb labels.moment until over)) (Contains-with_same labels.free label [])

-- and else it rests until then
pub rests-release : (labels : Labels) (label until : ℕ) → labels.moment < until → Contains (release labels label until).resting (label, until)
rests-release labels label until later =
    let at = joined_rows (label, until) labels.resting in
    subst (λ b. Contains (cond b (rests_with (label, until) labels.resting) labels.resting) (label, until)) (sym (lt-ltb labels.moment until later)) (subst (λ rows. Contains rows (label, until)) (sym at.3) (Contains-with_same at.0 (label, until) at.1))

-- all others are free as before
pub IsFree-release_others : (labels : Labels) (label until other : ℕ) → other ≢ label → (IsFree (release labels label until) other ↔ IsFree labels other)
IsFree-release_others labels label until other apart =
    elim (nat_lt labels.moment until) as (λ b. (Contains (cond b labels.free (labels.free ++ label ∷ [])) other ↔ Contains labels.free other)) [
      | true ↦ (λ among. among, λ among. among)
      | false ↦ (
        λ among. elim (Contains-append_cases labels.free (label ∷ []) other among) [
          | inl before ↦ before
          | inr last ↦ elim (Contains-cons_cases label [] other last) [ inl same ↦ absurd (apart (sym same)) | inr none ↦ absurd (none_contained other none) ]
        ],
        Contains-append_left labels.free (label ∷ []) other,
      )
    ]

pub IsLabelSpace-release : (labels : Labels) (label until : ℕ) → IsLabelSpace labels → IsHeld labels label → IsLabelSpace (release labels label until)
IsLabelSpace-release labels label until space taken =
    let at = joined_line labels label until in
    let away : Differs label (at.0 ++ at.1) = subst (Differs label) at.2 (differs_from (in_line labels) label (held_not_in_line labels label taken)) in
    record {
      range = space.range;
      own = subst (AllByRecursion (IsOf labels.range)) (sym at.3) (all-with (IsOf labels.range) at.0 label at.1 taken.own (subst (AllByRecursion (IsOf labels.range)) at.2 space.own));
      apart = subst (IsDistinct nat_eq) (sym at.3) (distinct_with at.0 label at.1 away (subst (IsDistinct nat_eq) at.2 space.apart));
      later = later;
    }
  where
    later : AllByRecursion (λ row. labels.moment < row.1) (release labels label until).resting
    later =
        let at = joined_rows (label, until) labels.resting in
        elim (nat_lt labels.moment until) as (λ b. nat_lt labels.moment until ≡ b → AllByRecursion (λ row. labels.moment < row.1) (cond b (rests_with (label, until) labels.resting) labels.resting)) [
          | true ↦ λ more. subst (AllByRecursion (λ row. labels.moment < row.1)) (sym at.3) (all-with (λ (row : ℕ × ℕ). labels.moment < row.1) at.0 (label, until) at.1 (ltb-true labels.moment until more) (subst (AllByRecursion (λ row. labels.moment < row.1)) at.2 space.later))
          | false ↦ λ over. space.later
        ] refl

-- Rows parted at a moment, behind a line: first those until at most this one, then those until a later one.
abbrev parted : List ℕ → List (ℕ × ℕ) → ℕ → List ℕ
parted line rows now = line ++ keys_of (filter (λ row. nat_le row.1 now) rows) ++ keys_of (resting_past now rows)

-- what holds of each key holds of those that a test leaves
keys_filter : (P : ℕ → Type 0) (p : ℕ × ℕ → Bool) (rows : List (ℕ × ℕ)) → AllByRecursion P (keys_of rows) → AllByRecursion P (keys_of (filter p rows))
keys_filter P p rows each =
    all-map P (λ (row : ℕ × ℕ). row.0) (filter p rows) (all-filter (λ (row : ℕ × ℕ). P row.0) p rows (all-from_map P (λ (row : ℕ × ℕ). row.0) rows each))

parted_all : (P : ℕ → Type 0) (line : List ℕ) (rows : List (ℕ × ℕ)) (now : ℕ) → AllByRecursion P (line ++ keys_of rows) → AllByRecursion P (parted line rows now)
parted_all P line rows now each =
    let parts = all-parts P line (keys_of rows) each in
    all-append P (line ++ keys_of (filter (λ row. nat_le row.1 now) rows)) (keys_of (resting_past now rows))
    (all-append P line (keys_of (filter (λ row. nat_le row.1 now) rows)) parts.0 (keys_filter P (λ row. nat_le row.1 now) rows parts.1))
    (keys_filter P (λ row. nat_lt now row.1) rows parts.1)

parted_distinct : (line : List ℕ) (rows : List (ℕ × ℕ)) (now : ℕ) → IsDistinct nat_eq (line ++ keys_of rows) → IsDistinct nat_eq (parted line rows now)
parted_distinct line [] now distinct = subst (IsDistinct nat_eq) (sym (append-nil (line ++ []))) distinct
parted_distinct line (row ∷ rows) now distinct =
    let whole = distinct_around line row.0 (keys_of rows) distinct in
    let away = parted_all (λ z. (row.0 == z) ≡ false) line rows now whole.0 in
    let rest = parted_distinct line rows now whole.1 in
    let over = keys_of (filter (λ row. nat_le row.1 now) rows) in
    let later = keys_of (resting_past now rows) in
    elim (cases_lt now row.1) [
      | inl more ↦ rw (lt-leb row.1 now more, lt-ltb now row.1 more) (distinct_with (line ++ over) row.0 later away rest)
      | inr less ↦ rw (le-leb row.1 now less, le-ltb now row.1 less)
          (subst (IsDistinct nat_eq) (sym (append_assoc line (row.0 ∷ over) later)) (distinct_with line row.0 (over ++ later) (subst (Differs row.0) (append_assoc line over later) away) (subst (IsDistinct nat_eq) (append_assoc line over later) rest)))
    ]

-- a row is on one side of a moment or on the other
parted_cases : (rows : List (ℕ × ℕ)) (now x : ℕ) → Contains (keys_of rows) x → Contains (keys_of (filter (λ row. nat_le row.1 now) rows)) x ⊎ Contains (keys_of (resting_past now rows)) x
parted_cases [] now x among = absurd (none_contained x among)
parted_cases (row ∷ rows) now x among =
    let over = keys_of (filter (λ row. nat_le row.1 now) rows) in
    let later = keys_of (resting_past now rows) in
    elim (cases_lt now row.1) [
      | inl more ↦ rw (lt-leb row.1 now more, lt-ltb now row.1 more) (elim (Contains-cons_cases row.0 (keys_of rows) x among) [
        | inl same ↦ inr (Contains-first row.0 later x same)
        | inr behind ↦ elim (parted_cases rows now x behind) [ inl is ↦ inl is | inr is ↦ inr (Contains-later row.0 later x is) ]
      ])
      | inr less ↦ rw (le-leb row.1 now less, le-ltb now row.1 less) (elim (Contains-cons_cases row.0 (keys_of rows) x among) [
        | inl same ↦ inl (Contains-first row.0 over x same)
        | inr behind ↦ elim (parted_cases rows now x behind) [ inl is ↦ inl (Contains-later row.0 over x is) | inr is ↦ inr is ]
      ])
    ]

-- what a test leaves of rows has no other keys
keys_from_filter : (p : ℕ × ℕ → Bool) (rows : List (ℕ × ℕ)) (x : ℕ) → Contains (keys_of (filter p rows)) x → Contains (keys_of rows) x
keys_from_filter p [] x = λ among. among
keys_from_filter p (row ∷ rows) x =
    let rest = keys_from_filter p rows x in
    elim (p row) as (λ b. Contains (keys_of (cond b (row ∷ filter p rows) (filter p rows))) x → Contains (keys_of (row ∷ rows)) x) [
      | true ↦ λ among. elim (Contains-cons_cases row.0 (keys_of (filter p rows)) x among) [
        | inl same ↦ Contains-first row.0 (keys_of rows) x same
        | inr later ↦ Contains-later row.0 (keys_of rows) x (rest later)
      ]
      | false ↦ λ among. Contains-later row.0 (keys_of rows) x (rest among)
    ]

-- A moment that comes changes nothing of what is held.
pub IsHeld-wake : (labels : Labels) (now label : ℕ) → (IsHeld (wake labels now) label ↔ IsHeld labels label)
IsHeld-wake labels now label = (by, to)
  where
    by : IsHeld (wake labels now) label → IsHeld labels label
    by taken = record {
      own = taken.own;
      taken = λ free. taken.taken (Contains-append_left labels.free (keys_of (filter (λ row. nat_le row.1 now) labels.resting)) label free);
      awake = λ rests. elim (parted_cases labels.resting now label rests) [
        | inl over ↦ taken.taken (Contains-append_right labels.free (keys_of (filter (λ row. nat_le row.1 now) labels.resting)) label over)
        | inr later ↦ taken.awake later
      ];
    }

    to : IsHeld labels label → IsHeld (wake labels now) label
    to taken = record {
      own = taken.own;
      taken = λ free. elim (Contains-append_cases labels.free (keys_of (filter (λ row. nat_le row.1 now) labels.resting)) label free) [
        | inl before ↦ taken.taken before
        | inr over ↦ taken.awake (keys_from_filter (λ row. nat_le row.1 now) labels.resting label over)
      ];
      awake = λ rests. taken.awake (keys_from_filter (λ row. nat_lt now row.1) labels.resting label rests);
    }

-- the key of a row is among the keys
pub Contains-keys : (rows : List (ℕ × ℕ)) (row : ℕ × ℕ) → Contains rows row → Contains (keys_of rows) row.0
Contains-keys [] row among = absurd (none_contained row among)
Contains-keys (first ∷ rows) row among =
    elim (Contains-cons_cases first rows row among) [
      | inl same ↦ Contains-first first.0 (keys_of rows) row.0 (ap (λ (r : ℕ × ℕ). r.0) same)
      | inr later ↦ Contains-later first.0 (keys_of rows) row.0 (Contains-keys rows row later)
    ]

-- a label whose rest is over is free then
pub IsFree-wake : (labels : Labels) (label until now : ℕ) → Contains labels.resting (label, until) → until ≤ now → IsFree (wake labels now) label
IsFree-wake labels label until now rests over =
    Contains-append_right labels.free (keys_of (filter (λ row. nat_le row.1 now) labels.resting)) label
    (Contains-keys (filter (λ row. nat_le row.1 now) labels.resting) (label, until) (Contains-filter (λ row. nat_le row.1 now) labels.resting (label, until) (le-leb until now over) rests))

-- and else it rests as before
pub rests-wake : (labels : Labels) (label until now : ℕ) → Contains labels.resting (label, until) → now < until → Contains (wake labels now).resting (label, until)
rests-wake labels label until now rests more =
    Contains-filter (λ row. nat_lt now row.1) labels.resting (label, until) (lt-ltb now until more) rests

pub IsLabelSpace-wake : (labels : Labels) (now : ℕ) → IsLabelSpace labels → IsLabelSpace (wake labels now)
IsLabelSpace-wake labels now space = record {
  range = space.range;
  own = parted_all (IsOf labels.range) labels.free labels.resting now space.own;
  apart = parted_distinct labels.free labels.resting now space.apart;
  later = all-both (λ (row : ℕ × ℕ). labels.moment < row.1) (λ (row : ℕ × ℕ). now < row.1) (λ (row : ℕ × ℕ). max labels.moment now < row.1) (λ row a b. omega (arith, a, b)) (resting_past now labels.resting)
      (all-filter (λ (row : ℕ × ℕ). labels.moment < row.1) (λ row. nat_lt now row.1) labels.resting space.later)
      (all-filter_passes (λ (row : ℕ × ℕ). now < row.1) (λ row. nat_lt now row.1) (λ row more. ltb-true now row.1 more) labels.resting);
}

-- Where no label rests any more, nothing changes of what is held.
pub IsHeld-end_rests : (labels : Labels) (label : ℕ) → (IsHeld (end_rests labels) label ↔ IsHeld labels label)
IsHeld-end_rests labels label = (
  λ taken. record {
    own = taken.own;
    taken = λ free. taken.taken (Contains-append_left labels.free (keys_of labels.resting) label free);
    awake = λ rests. taken.taken (Contains-append_right labels.free (keys_of labels.resting) label rests);
  },
  λ taken. record { own = taken.own; taken = held_not_in_line labels label taken; awake = none_contained label },
)

pub IsLabelSpace-end_rests : (labels : Labels) → IsLabelSpace labels → IsLabelSpace (end_rests labels)
IsLabelSpace-end_rests labels space = record {
  range = space.range;
  own = subst (AllByRecursion (IsOf labels.range)) (sym (append-nil (in_line labels))) space.own;
  apart = subst (IsDistinct nat_eq) (sym (append-nil (in_line labels))) space.apart;
  later = tt;
}

-- the first leaves the line as the others are in it
pub free-hold_first : (labels : Labels) (label : ℕ) (others : List ℕ) → IsLabelSpace labels → labels.free ≡ label ∷ others → (hold labels label).free ≡ others
free-hold_first labels label others space is =
    let line = subst (λ free. IsDistinct nat_eq (free ++ keys_of labels.resting)) is space.apart in
    ap (line_without label) is ∙ line_without-first label others (all-parts (λ z. (label == z) ≡ false) others (keys_of labels.resting) (IsDistinct-head nat_eq label (others ++ keys_of labels.resting) line)).0

-- what stands before a label in a line; all of it where the label isn't there
abbrev before_label : ℕ → List ℕ → List ℕ
before_label label [] = []
before_label label (x ∷ line) = cond (label == x) [] (x ∷ before_label label line)

none_before : (label : ℕ) (line : List ℕ) → slice_get line 0 ≡ Some label → before_label label line ≡ []
none_before label [] first = absurd (none-some label first)
none_before label (x ∷ line) first =
    ap (λ b. cond b [] (x ∷ before_label label line)) (eq-eqb label x (sym (same_Some x label first)))

all_before : (label : ℕ) (line : List ℕ) → Differs label line → before_label label line ≡ line
all_before label [] differs = refl
all_before label (x ∷ line) differs =
    ap (λ b. cond b [] (x ∷ before_label label line)) differs.0 ∙ ap (λ more. x ∷ more) (all_before label line differs.1)

-- so much is left of it where another one left the line
before_without : (label other : ℕ) → other ≢ label → (line : List ℕ) → before_label label (line_without other line) ≡ line_without other (before_label label line)
before_without label other apart [] = refl
before_without label other apart (x ∷ line) =
    let rest = before_without label other apart line in
    elim (cases_eq label x) [
      | inl same ↦ rw (ne_eqb other x (λ is. apart (is ∙ sym same)), eq-eqb label x same) refl
      | inr differs ↦ elim (cases_eq other x) [
        | inl same ↦ rw (ne_eqb label x differs, eq-eqb other x same) rest
        | inr away ↦ rw (ne_eqb other x away, ne_eqb label x differs, ne_eqb other x away) (ap (λ more. x ∷ more) rest)
      ]
    ]

-- and it is before the label still where others joined the line at its end
before_append : (P : ℕ → Type 0) (label : ℕ) (line more : List ℕ) → AllByRecursion P (before_label label (line ++ more)) → AllByRecursion P (before_label label line)
before_append P label [] more = λ each. tt
before_append P label (x ∷ line) more =
    let rest = before_append P label line more in
    elim (label == x) as (λ b. AllByRecursion P (cond b [] (x ∷ before_label label (line ++ more))) → AllByRecursion P (cond b [] (x ∷ before_label label line))) [
      | true ↦ λ each. tt
      | false ↦ λ each. (each.0, rest each.1)
    ]

before_released : (P : ℕ → Type 0) (label : ℕ) (labels : Labels) (other until : ℕ) → AllByRecursion P (before_label label (release labels other until).free) → AllByRecursion P (before_label label labels.free)
before_released P label labels other until =
    elim (nat_lt labels.moment until) as (λ b. AllByRecursion P (before_label label (cond b labels.free (labels.free ++ other ∷ []))) → AllByRecursion P (before_label label labels.free)) [
      | true ↦ λ each. each
      | false ↦ before_append P label labels.free (other ∷ [])
    ]

-- each of a line is taken, where the others are that one leaves
taken_with : (first : ℕ) (later : List Change) (line : List ℕ) → AllByRecursion (IsTaken later) (line_without first line) → AllByRecursion (IsTaken (held first ∷ later)) line
taken_with first later [] = λ each. tt
taken_with first later (x ∷ line) =
    elim (first == x) as (λ b. (first == x) ≡ b → AllByRecursion (IsTaken later) (cond (not b) (x ∷ line_without first line) (line_without first line)) → AllByRecursion (IsTaken (held first ∷ later)) (x ∷ line)) [
      | true ↦ λ same each. (Contains-first (held first) later (held x) (ap held (eqb-true first x same)), taken_with first later line each)
      | false ↦ λ apart each. (Contains-later (held first) later (held x) each.0, taken_with first later line each.1)
    ] refl

-- what is taken in later changes is taken
taken_later : (change : Change) (later : List Change) (line : List ℕ) → AllByRecursion (IsTaken later) line → AllByRecursion (IsTaken (change ∷ later)) line
taken_later change later line each =
    all-weaker (IsTaken later) (IsTaken (change ∷ later)) (λ x taken. Contains-later change later (held x) taken) line each

-- What stands before a label in line is taken before that label is the first.
waits : (changes : List Change) (labels : Labels) (label : ℕ) → ¬ IsTaken changes label → give (after changes labels) ≡ Some label → AllByRecursion (IsTaken changes) (before_label label labels.free)
waits [] labels label untaken given = subst (AllByRecursion (IsTaken [])) (sym (none_before label labels.free given)) tt
waits (held other ∷ later) labels label untaken given =
    let apart : other ≢ label = λ same. untaken (Contains-first (held other) later (held label) (ap held same)) in
    let rest = waits later (hold labels other) label (λ taken. untaken (Contains-later (held other) later (held label) taken)) given in
    taken_with other later (before_label label labels.free) (subst (AllByRecursion (IsTaken later)) (before_without label other apart labels.free) rest)
waits (released other until ∷ later) labels label untaken given =
    let change = released other until in
    taken_later change later (before_label label labels.free)
    (before_released (IsTaken later) label labels other until (waits later (release labels other until) label (λ taken. untaken (Contains-later change later (held label) taken)) given))
waits (woken now ∷ later) labels label untaken given =
    taken_later (woken now) later (before_label label labels.free)
    (before_append (IsTaken later) label labels.free (keys_of (filter (λ row. nat_le row.1 now) labels.resting)) (waits later (wake labels now) label (λ taken. untaken (Contains-later (woken now) later (held label) taken)) given))

-- A released label waits for all that were free before it.
pub waits_for_all : (labels : Labels) (label until : ℕ) (changes : List Change) → IsHeld labels label → ¬ IsTaken changes label → give (after changes (release labels label until)) ≡ Some label → All (IsTaken changes) labels.free
waits_for_all labels label until changes taken untaken given =
    All-from_recursion (IsTaken changes) labels.free (subst (AllByRecursion (IsTaken changes)) (all_before label labels.free (differs_from labels.free label taken.taken)) (before_released (IsTaken changes) label labels label until (waits changes (release labels label until) label untaken given)))
