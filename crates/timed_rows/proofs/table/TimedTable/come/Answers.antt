use Rattle.std.proofs.Common.{◌≡◌, List, ℕ, filter, sym, subst}
use Rattle.std.proofs.lemmas.List.Sorted.{IsNonDecreasingBy-from_sort}
use Rattle.std.specs.List.Sorted.{IsNonDecreasingBy}
use Rattle.std.specs.Result.{IfOk}
use Rattle.slab.specs.Slab.{get}
use Rattle.slot_rows.specs.Slots.{rows_of}
use Rattle.sorted_rows.specs.Rows.{keys_of}
use Rattle.timer_wheel.specs.Due.{has_come}
use Rattle.timed_rows.specs.Gathered.{CoverRows, CoverSlots}
use Rattle.timed_rows.specs.Timed.{TimedRows}
use Rattle.timed_rows.proofs.Rows.{come_covered}
use Rattle.timed_rows.proofs.table.TimedTable.come.Goals as goal

pub returns-then-len-gt-FEW : goal.returns-then-len-gt-FEW
returns-then-len-gt-FEW g c =
    subst (λ (t : TimedRows _ _ _). IfOk c.keys_where.result (λ keys. keys.items ≡ keys_of (filter (λ row. has_come c.args.now (g.M.Timed.at t.timing row.1)) t.rows))) c.self.view_is c.keys_where.ensures

pub keys_at-requires-clause-rise : goal.keys_at-requires-clause-rise
keys_at-requires-clause-rise g c =
    subst (λ (places : List ℕ). IsNonDecreasingBy (λ place. place) places) (sym c.deref-4.ensures.value) (IsNonDecreasingBy-from_sort (λ place. place) c.sort_unstable.new.self.items c.sort_unstable.ensures.sorted)

pub keys_at-requires-clause-covered : goal.keys_at-requires-clause-covered
keys_at-requires-clause-covered g c =
    let s = c.self.inside in
    let order = s.rows.by_key.items in
    let due = c.in_ok-due.due.items in
    let places = c.in_ok-places.places.items in
    let in_turn = c.sort_unstable.new.self.items in
    let of_order = subst (λ (slots : List ℕ). CoverSlots slots c.deref-2.result.now places) c.deref.ensures.value c.in_ok-places.ensures in
    let covered = subst (λ (slots : List ℕ). CoverSlots order slots places) c.deref-2.ensures.value of_order in
    let found = come_covered (g.M.Timed.at s.timing) (get s.rows.slots) s.wheel c.args.now c.self.invariant.moments_are due order places in_turn c.in_ok-due.ensures.exact covered c.sort_unstable.ensures.permutation in
    let read = subst (λ (slots : List ℕ). CoverRows (λ row. has_come c.args.now (g.M.Timed.at s.timing row.1)) (get s.rows.slots) slots in_turn) (sym c.deref-3.ensures.value) found in
    subst (λ (slots : List ℕ). CoverRows (λ row. has_come c.args.now (g.M.Timed.at s.timing row.1)) (get s.rows.slots) c.deref-3.result.now slots) (sym c.deref-4.ensures.value) read

pub returns : goal.returns
returns g c =
    let s = c.self.inside in
    let read = subst (λ (order : List ℕ). IfOk c.keys_at.result (λ keys. keys.items ≡ keys_of (filter (λ row. has_come c.args.now (g.M.Timed.at s.timing row.1)) (rows_of s.rows.slots order)))) c.deref-3.ensures.value c.keys_at.ensures in
    subst (λ (t : TimedRows _ _ _). IfOk c.keys_at.result (λ keys. keys.items ≡ keys_of (filter (λ row. has_come c.args.now (g.M.Timed.at t.timing row.1)) t.rows))) c.self.view_is read
