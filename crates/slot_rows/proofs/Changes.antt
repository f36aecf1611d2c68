-- What a change of one slot makes of the rows.
use Rattle.std.proofs.Common.{◌≡◌, ℕ, ◌+◌, ◌<◌, ◌≤◌, T, List, [], ◌∷◌, ◌++◌, not, map, length, get_or, set, Some, None, sym, ap, subst, ◌∙◌, arith}
use Rattle.std.specs.Cmp.{IsTotalOrder, tied_itself}
use Rattle.std.specs.FinMap.Entries.{is_sorted, is_sorted-put, is_sorted-where_key, put, where_key}
use Rattle.std.specs.List.{insert, remove}
use Rattle.std.specs.Ordering.{is_eq}
use Rattle.std.specs.declared.cmp.Ordering.{Ordering}
use Rattle.std.specs.declared.cmp.Ordering.TheVariants.{Equal}
use Rattle.std.proofs.lemmas.List.{get_or_default, length-append, length-set, map-append}
use Rattle.std.proofs.lemmas.List.Edits.{length-insert, length-remove}
use Rattle.sorted_rows.proofs.Places.{put_at, removed_at}
use Rattle.slab.specs.Slab.{Slab, Updates, get, slab_len}
use Rattle.slot_rows.specs.Slots.{IsSlotted, rows_of}
use Rattle.slot_rows.proofs.Filled.{inserted, length_read, none_among, read, removed, row_at, stays, written}
use Rattle.slot_rows.proofs.Places.{some_of}

-- the slots belong together, and have these rows
pub record Gives {K X : Type 0} (cmp : K → K → Ordering) (most : ℕ) (slots : Slab (K × X)) (order : List ℕ) (capacity : ℕ) (rows : List (K × X)) : Type 0 where
  pub slotted : IsSlotted cmp most slots order capacity
  pub rows_are : rows_of slots order ≡ rows

module _ {K X : Type 0} (cmp : K → K → Ordering) (most : ℕ) where
  pub gives : (slots : Slab (K × X)) (order : List ℕ) (capacity : ℕ) (rows : List (K × X)) → map (get slots) order ≡ map Some rows → T (is_sorted cmp rows) → slab_len slots ≡ length order → length rows ≤ most → most ≤ slots.capacity → most ≤ capacity → slots.capacity ≤ 65536 → Gives cmp most slots order capacity rows
  gives slots order capacity rows h sorted used few slots_room index_room numbered =
      let are = read (get slots) order rows h in
      let long = length_read (get slots) order rows h in
      record {
        slotted = record {
          filled = h ∙ ap (map Some) (sym are);
          in_order = subst (λ rs. T (is_sorted cmp rs)) (sym are) sorted;
          used = used;
          few = omega (arith, long, few);
          slots_room = slots_room;
          index_room = index_room;
          numbered = numbered;
        };
        rows_are = are;
      }

  module _ (total : IsTotalOrder cmp) (s t : Slab (K × X)) (order : List ℕ) (capacity : ℕ) (kept : IsSlotted cmp most s order capacity) where
    abbrev before : List (K × X)
    before = rows_of s order

    -- the row of a slot in order
    pub row_of_place : (i : ℕ) → i < length order → K × X
    row_of_place i within =
        get_or before i (some_of before i (omega (arith, within, length_read (get s) order before kept.filled)))

    pub has_row : (i at : ℕ) (within : i < length order) → at ≡ get_or order i at → get s at ≡ Some (row_of_place i within)
    unfolding row_of_place
    has_row i at within is =
        ap (get s) is ∙ row_at (get s) order before kept.filled i at (some_of before i (omega (arith, within, length_read (get s) order before kept.filled))) within

    -- what holds of the row at its place holds of it
    pub of_that_row : (P : K × X → Type 0) (i : ℕ) (within : i < length order) → ((d : K × X) → P (get_or (rows_of s order) i d)) → P (row_of_place i within)
    unfolding row_of_place
    of_that_row P i within h = h _

    -- it is that row
    pub that_row : (i : ℕ) (within : i < length order) (d : K × X) → row_of_place i within ≡ get_or (rows_of s order) i d
    unfolding row_of_place
    that_row i within d =
        let inside : i < length before = omega (arith, within, length_read (get s) order before kept.filled) in
        get_or_default before i (some_of before i inside) d inside

    -- the value of a slot in order was set
    pub over : (q : K) (v : X) (i at : ℕ) (within : i < length order) → at ≡ get_or order i at → Updates s t at (Some ((row_of_place i within).0, v)) → slab_len t ≡ slab_len s → t.capacity ≡ s.capacity → ((d : K × X) → put cmp q v (rows_of s order) ≡ set (rows_of s order) i ((get_or (rows_of s order) i d).0, v)) → length (put cmp q v (rows_of s order)) ≤ most → Gives cmp most t order capacity (put cmp q v (rows_of s order))
    unfolding row_of_place
    over q v i at within is updates len room puts few =
        let d = some_of before i (omega (arith, within, length_read (get s) order before kept.filled)) in
        let there = get_or_default order i 0 at within ∙ sym is in
        let now = written cmp total (get s) (get t) at ((row_of_place i within).0, v) updates.changed updates.others order before kept.filled kept.in_order i within there in
        gives t order capacity (put cmp q v before) (now ∙ ap (map Some) (sym (puts d))) (is_sorted-put cmp total q v before kept.in_order) (len ∙ kept.used) few (omega (arith, room, kept.slots_room)) kept.index_room (omega (arith, room, kept.numbered))

    -- a row came
    pub added : (q : K) (v : X) (i at now : ℕ) (order_now : List ℕ) → i ≤ length order → order_now ≡ insert order i at → get s at ≡ None → Updates s t at (Some (q, v)) → slab_len t ≡ slab_len s + 1 → t.capacity ≡ s.capacity → capacity ≤ now → put cmp q v (rows_of s order) ≡ insert (rows_of s order) i (q, v) → length (put cmp q v (rows_of s order)) ≤ most → Gives cmp most t order_now now (put cmp q v (rows_of s order))
    added q v i at now order_now within is_now none updates len room more puts few =
        let is = inserted (get s) (get t) at (q, v) none updates.changed updates.others order before kept.filled i within in
        let long = length-insert order i at within in
        gives t order_now now (put cmp q v before) (ap (map (get t)) is_now ∙ is ∙ ap (map Some) (sym puts)) (is_sorted-put cmp total q v before kept.in_order) (omega (arith, len, kept.used, long, ap length is_now)) few (omega (arith, room, kept.slots_room)) (omega (arith, more, kept.index_room)) (omega (arith, room, kept.numbered))

    -- a row went
    pub gone : (q : K) (i at now : ℕ) (order_now : List ℕ) → i < length order → at ≡ get_or order i at → order_now ≡ remove order i → Updates s t at None → slab_len t + 1 ≡ slab_len s → t.capacity ≡ s.capacity → now ≡ capacity → where_key cmp (λ k. not (is_eq (cmp q k))) (rows_of s order) ≡ remove (rows_of s order) i → Gives cmp most t order_now now (where_key cmp (λ k. not (is_eq (cmp q k))) (rows_of s order))
    gone q i at now order_now within is is_now updates len room same_room leaves =
        let there = get_or_default order i 0 at within ∙ sym is in
        let left = where_key cmp (λ k. not (is_eq (cmp q k))) before in
        let without = removed cmp total (get s) (get t) at updates.others order before kept.filled kept.in_order i within there in
        let slots_left = length-remove order i within in
        let same = length_read (get s) order before kept.filled in
        let rows_left = length-remove before i (omega (arith, within, same)) in
        gives t order_now now left (ap (map (get t)) is_now ∙ without ∙ ap (map Some) (sym leaves)) (is_sorted-where_key cmp (λ k. not (is_eq (cmp q k))) before kept.in_order) (omega (arith, len, kept.used, slots_left, ap length is_now)) (omega (arith, ap length leaves, rows_left, same, kept.few)) (omega (arith, room, kept.slots_room)) (omega (arith, same_room, kept.index_room)) (omega (arith, room, kept.numbered))

    -- a row came whose key is above those of all
    pub pushed : (row : K × X) (at now : ℕ) (order_now : List ℕ) → length order < most → order_now ≡ order ++ at ∷ [] → get s at ≡ None → Updates s t at (Some row) → slab_len t ≡ slab_len s + 1 → t.capacity ≡ s.capacity → capacity ≤ now → T (is_sorted cmp (rows_of s order ++ row ∷ [])) → Gives cmp most t order_now now (rows_of s order ++ row ∷ [])
    pushed row at now order_now free is_now none updates len room more sorted =
        let apart = none_among (get s) at none order before kept.filled in
        let same = stays (get s) (get t) at updates.others order apart ∙ kept.filled in
        let read_now = ap (map (get t)) is_now ∙ map-append (get t) order (at ∷ []) ∙ (λ i. same i ++ updates.changed i ∷ []) ∙ sym (map-append Some before (row ∷ [])) in
        let long = length_read (get s) order before kept.filled in
        gives t order_now now (before ++ row ∷ []) read_now sorted (omega (arith, len, kept.used, ap length is_now, length-append order (at ∷ []))) (omega (arith, length-append before (row ∷ []), long, free)) (omega (arith, room, kept.slots_room)) (omega (arith, more, kept.index_room)) (omega (arith, room, kept.numbered))

    -- the key of a slot's row ties with itself
    tied_there : (i : ℕ) (within : i < length order) (d : K × X) → cmp (get_or before i d).0 (row_of_place i within).0 ≡ Equal
    tied_there i within d =
        subst (λ (row : K × X). cmp row.0 (row_of_place i within).0 ≡ Equal) (that_row i within d) (tied_itself total (row_of_place i within).0)

    -- the value of the slot at a place was set
    pub changed_at : (v : X) (i at : ℕ) (within : i < length order) → at ≡ get_or order i at → Updates s t at (Some ((row_of_place i within).0, v)) → slab_len t ≡ slab_len s → t.capacity ≡ s.capacity → Gives cmp most t order capacity (set (rows_of s order) i ((row_of_place i within).0, v))
    changed_at v i at within is updates len room =
        let q = (row_of_place i within).0 in
        let long = length_read (get s) order before kept.filled in
        let puts : (d : K × X) → put cmp q v before ≡ set before i ((get_or before i d).0, v) = λ d. put_at cmp total q v before i d kept.in_order (omega (arith, within, long)) (tied_there i within d) in
        let is_set : put cmp q v before ≡ set before i (q, v) = of_that_row (λ row. put cmp q v before ≡ set before i (row.0, v)) i within puts in
        subst (λ rows. Gives cmp most t order capacity rows) is_set (over q v i at within is updates len room puts (omega (arith, ap length is_set, length-set before i (q, v), long, kept.few)))

    -- the row at a place went
    pub gone_at : (i at now : ℕ) (order_now : List ℕ) → i < length order → at ≡ get_or order i at → order_now ≡ remove order i → Updates s t at None → slab_len t + 1 ≡ slab_len s → t.capacity ≡ s.capacity → now ≡ capacity → Gives cmp most t order_now now (remove (rows_of s order) i)
    gone_at i at now order_now within is is_now updates len room same_room =
        let row = row_of_place i within in
        let leaves = removed_at cmp total row.0 before i row kept.in_order (omega (arith, within, length_read (get s) order before kept.filled)) (tied_there i within row) in
        subst (λ rows. Gives cmp most t order_now now rows) leaves (gone row.0 i at now order_now within is is_now updates len room same_room leaves)
