-- A walk over the entries of a segment.
use Rattle.std.proofs.Common.{◌≡◌, ◌↔◌, ⊎_elim, ◌+◌, ◌-◌, ◌<◌, ◌≤◌, ◌==◌, ◌&&◌, ◌∷◌, suc, zero, ℕ, Bool, true, false, List, [], length, nat_lt, slice_index_or, slice_set, arith, refl, sym, ap, rules, ◌∙◌}
use Rattle.std.proofs.lemmas.Bool.{cases_eq, cases_lt, eq-eqb, ne_eqb, lt-ltb, le-ltb}
use Rattle.std.proofs.lemmas.List.{length-set, get_or_past, get_or-set_same, get_or-set_other}
use Rattle.run_journal.specs.Marks.{Counts, counted, first_mark, mark_after, one_if, receipt_of}
use Rattle.run_journal.specs.declared.entry.CountedEntry.{CountedEntry}
use Rattle.run_journal.specs.declared.mark.Mark.{Mark}
use Rattle.run_journal.specs.declared.receipt.Receipt.{Receipt}
use Rattle.run_journal.proofs.Following.{mark_is}
use Rattle.run_reconciler.specs.Walks.{IsAt, IsNext, IsTold, is_moved, passed, place_at}
use Rattle.run_reconciler.specs.declared.reconciling.Walk.{Walk}

-- a mark's place is that of the list's element, by a default whose place is 0
pub place_is : (ms : List Mark) (k : ℕ) (d : Mark) → d.place ≡ 0 → (slice_index_or ms k d).place ≡ place_at ms k
place_is [] k d is = is
place_is (m ∷ ms) zero d is = refl
place_is (m ∷ ms) (suc k) d is = place_is ms k d is

and_none : (b : Bool) → one_if (b && false) ≡ 0
and_none true = refl
and_none false = refl

-- where a mark's place goes up by one, the place at an index does where it is that mark's
pub place_moved : (ms : List Mark) (j k : ℕ) (m : Mark) → m.place ≡ place_at ms j + 1 → place_at (slice_set ms j m) k ≡ place_at ms k + one_if (nat_lt k (length ms) && (j == k))
place_moved ms j k m is =
    ⊎_elim
    (λ (lt : k < length ms). ⊎_elim
    (λ (e : j ≡ k).
    let low : j < length ms = omega arith in
    let a : place_at (slice_set ms j m) j ≡ m.place = ap (λ (x : Mark). x.place) (get_or-set_same ms j m (first_mark 0) low) in
    let b : one_if (nat_lt k (length ms) && (j == k)) ≡ 1 = rw (lt-ltb k (length ms) lt, eq-eqb j k e) refl in
    let f : place_at (slice_set ms j m) k ≡ place_at (slice_set ms j m) j = ap (place_at (slice_set ms j m)) (sym e) in
    let g : place_at ms k ≡ place_at ms j = ap (place_at ms) (sym e) in
    omega (arith, a, b, f, g, is))
    (λ (ne : j ≡ k → ⊥).
    let a : place_at (slice_set ms j m) k ≡ place_at ms k = ap (λ (x : Mark). x.place) (get_or-set_other ms j k m (first_mark 0) (λ e. ne (sym e))) in
    let b : one_if (nat_lt k (length ms) && (j == k)) ≡ 0 = rw (ne_eqb j k ne) (and_none (nat_lt k (length ms))) in
    omega (arith, a, b))
    (cases_eq j k))
    (λ (past : length ms ≤ k).
    let long : length (slice_set ms j m) ≤ k = omega (arith, length-set ms j m) in
    let a : place_at (slice_set ms j m) k ≡ 0 = ap (λ (x : Mark). x.place) (get_or_past (slice_set ms j m) k (first_mark 0) long) in
    let d : place_at ms k ≡ 0 = ap (λ (x : Mark). x.place) (get_or_past ms k (first_mark 0) past) in
    let b : one_if (nat_lt k (length ms) && (j == k)) ≡ 0 = rw (le-ltb k (length ms) past) refl in
    omega (arith, a, b, d))
    (cases_lt k (length ms))

-- a walk goes on by an entry as the numbers do
pub at_passed : (w : Walk) (n : Counts) (e : CountedEntry) → IsAt w n → IsAt (passed w e) (counted n e)
at_passed w n e is =
    let moved = place_moved n.marks (e.entry.port - 1) w.index (mark_after n e) (ap (λ (x : ℕ). x + 1) (place_is n.marks (e.entry.port - 1) (first_mark e.entry.port) refl)) in
    let same : one_if (nat_lt w.index (length n.marks) && (e.entry.port - 1 == w.index)) ≡ one_if (is_moved w e) = ap (λ (b : Bool). one_if (b && (e.entry.port - 1 == w.index))) (sym is.marks) in
    record {
      number = omega (arith, is.number);
      published = omega (arith, is.published);
      place = omega (arith, moved, same, is.place);
      marks = is.marks ∙ ap (nat_lt w.index) (sym (length-set n.marks (e.entry.port - 1) (mark_after n e)));
    }

-- the place of the mark after an entry, by the walk
after_place : (w : Walk) (n : Counts) (e : CountedEntry) → IsAt w n → w.index ≡ e.entry.port - 1 → (mark_after n e).place ≡ w.place + (w.moves + 1)
after_place w n e is index =
    let a = place_is n.marks (e.entry.port - 1) (first_mark e.entry.port) refl in
    let b : place_at n.marks (e.entry.port - 1) ≡ place_at n.marks w.index = ap (place_at n.marks) (sym index) in
    omega (arith, a, b, is.place)

-- the mark after the next entry is that which its numbers say
pub next_is : (w : Walk) (n : Counts) (e : CountedEntry) (m : Mark) → IsAt w n → w.index ≡ e.entry.port - 1 → IsNext w e m ↔ (m ≡ mark_after n e)
next_is w n e m is index =
    let place = after_place w n e is index in (
      λ next. mark_is m (mark_after n e) next.0 (next.1 ∙ sym place) (omega (arith, next.2, is.number)) (omega (arith, next.3, is.published)),
      λ same. (
        ap (λ (x : Mark). x.port) same,
        ap (λ (x : Mark). x.place) same ∙ place,
        omega (arith, ap (λ (x : Mark). x.entry) same, is.number),
        omega (arith, ap (λ (x : Mark). x.published) same, is.published),
      ),
    )

-- and so is the receipt
pub told_is : (w : Walk) (n : Counts) (e : CountedEntry) (r : Receipt) → IsAt w n → w.index ≡ e.entry.port - 1 → IsTold w e r ↔ (r ≡ receipt_of n e)
told_is w n e r is index =
    let next = next_is w n e r.mark is index in (
      λ told. receipt_is r (receipt_of n e) (next.0 told.0) told.1 told.2 told.3,
      λ same. (next.1 (ap (λ (x : Receipt). x.mark) same), ap (λ (x : Receipt). x.event) same, ap (λ (x : Receipt). x.reply) same, ap (λ (x : Receipt). x.outputs) same),
    )
  where
    receipt_is : (a b : Receipt) → a.mark ≡ b.mark → a.event ≡ b.event → a.reply ≡ b.reply → a.outputs ≡ b.outputs → a ≡ b
    receipt_is a b mark event reply outputs = search rules
