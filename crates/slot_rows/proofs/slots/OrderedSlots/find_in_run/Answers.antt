use Rattle.std.proofs.Common.{◌≡◌, ◌<◌, ◌+◌, ◌&&◌, Some, true, false, drop, length, suc, rules, sym, ap, cond, ◌∙◌, arith}
use Rattle.std.specs.List.{find, slice_get}
use Rattle.std.specs.Ordering.{is_eq}
use Rattle.slab.specs.Slab.{get}
use Rattle.slot_rows.specs.Slots.{rows_of}
use Rattle.slot_rows.proofs.Filled.{length_read}
use Rattle.slot_rows.proofs.RunRows.{got_within, in_run, next_row, rows_parted, run_begins, run_ends}
use Rattle.slot_rows.proofs.slots.OrderedSlots.find_in_run.Goals as goal

pub loop-place-init : goal.loop-place-init
loop-place-init g c =
    let compares = g.P.Probe.compares c.args.probe.now in
    let rows = rows_of c.args.self.now.slots c.args.self.now.by_key.items in
    let parts = c.first_place-place.ensures.partitioned (rows_parted g.K.Ord.cmp compares c.requires.rises rows c.requires.slotted.in_order) in
    record {
      from = parts.1;
      sought = run_begins g.K.Ord.cmp compares c.requires.rises (g.T.RowTest.passes c.args.test.now) rows c.first_place-place.result c.first_place-place.ensures.bound parts.0;
    }

pub returns-in_default : goal.returns-in_default
returns-in_default g c =
    let rows = rows_of c.args.self.now.slots c.args.self.now.by_key.items in
    let within : c.loop-place.place < length rows = omega (arith, length_read (get c.args.self.now.slots) c.args.self.now.by_key.items rows c.requires.slotted.filled) in
    absurd (got_within rows c.loop-place.place (sym c.in_default.ensures) within)

pub returns-then-is_ne : goal.returns-then-is_ne
returns-then-is_ne g c =
    let compares = g.P.Probe.compares c.args.probe.now in
    let rows = rows_of c.args.self.now.slots c.args.self.now.by_key.items in
    let place = c.loop-place.place in
    let row = c.in-Some.row.now in
    let there : slice_get rows place ≡ Some row = sym c.in-Some.ensures in
    let within : place < length rows = omega (arith, length_read (get c.args.self.now.slots) c.args.self.now.by_key.items rows c.requires.slotted.filled) in
    let not_equal : is_eq (compares row.0) ≡ false = search rules in
    sym (run_ends g.K.Ord.cmp compares c.requires.rises (g.T.RowTest.passes c.args.test.now) rows c.requires.slotted.in_order place row there within c.loop-place.invariant.from not_equal) ∙ c.loop-place.invariant.sought

pub returns-then-passes : goal.returns-then-passes
returns-then-passes g c =
    let compares = g.P.Probe.compares c.args.probe.now in
    let passes = g.T.RowTest.passes c.args.test.now in
    let rows = rows_of c.args.self.now.slots c.args.self.now.by_key.items in
    let place = c.loop-place.place in
    let row = c.in-Some.row.now in
    let there : slice_get rows place ≡ Some row = sym c.in-Some.ensures in
    let equal : is_eq (compares row.0) ≡ true = search rules in
    let good : passes row ≡ true = search rules in
    let both : in_run compares passes row ≡ true = λ i. equal i && good i in
    sym (next_row (in_run compares passes) rows place row there ∙ ap (λ b. cond b (Some row) (find (in_run compares passes) (drop (suc place) rows))) both) ∙ c.loop-place.invariant.sought

pub loop-place-preserved : goal.loop-place-preserved
loop-place-preserved g c =
    let compares = g.P.Probe.compares c.args.probe.now in
    let passes = g.T.RowTest.passes c.args.test.now in
    let rows = rows_of c.args.self.now.slots c.args.self.now.by_key.items in
    let place = c.loop-place.place in
    let row = c.in-Some.row.now in
    let there : slice_get rows place ≡ Some row = sym c.in-Some.ensures in
    let equal : is_eq (compares row.0) ≡ true = search rules in
    let bad : passes row ≡ false = search rules in
    let both : in_run compares passes row ≡ false = λ i. equal i && bad i in
    let on : place + 1 ≡ suc place = omega arith in
    record {
      from = λ k d from below. c.loop-place.invariant.from k d (omega (arith, from)) below;
      sought = ap (λ n. find (in_run compares passes) (drop n rows)) on ∙ sym (next_row (in_run compares passes) rows place row there ∙ ap (λ b. cond b (Some row) (find (in_run compares passes) (drop (suc place) rows))) both) ∙ c.loop-place.invariant.sought;
    }
