use Rattle.std.proofs.Common.{ℕ, ◌+◌, ◌-◌, refl, arith}
use Rattle.std.specs.Option.{option_map_or}
use Rattle.std.specs.declared.cmp.Ordering.{Ordering}
use Rattle.std.specs.declared.cmp.Ordering.TheVariants.{Less, Greater}
use Rattle.slab.specs.Slab.{get}
use Rattle.slot_rows.proofs.Beside.{gap_at, told}
use Rattle.slot_rows.proofs.finding.place_beside.Goals as goal

pub returns-then-near-eq0-clause-position : goal.returns-then-near-eq0-clause-position
returns-then-near-eq0-clause-position g c =
    let ord : ℕ → Ordering = λ slot. option_map_or (λ row. g.K.Ord.cmp row.0 c.args.key.now) (get c.args.slots.now slot) Less in
    let order = c.args.by_key.now in
    let at = c.in_ok-cmp_place.ensures.within in
    gap_at ord order c.args.near (omega (arith, at.0)) (λ k is d. absurd (omega (arith, is, c.if-near-eq0.true))) (λ inside. told ord order c.args.near c.args.near c.in_ok-cmp_place.field-0 Greater refl at.1 c.in-Greater.is)

pub returns-in-Less-2-clause-position : goal.returns-in-Less-2-clause-position
returns-in-Less-2-clause-position g c =
    let ord : ℕ → Ordering = λ slot. option_map_or (λ row. g.K.Ord.cmp row.0 c.args.key.now) (get c.args.slots.now slot) Less in
    let order = c.args.by_key.now in
    let at = c.in_ok-cmp_place.ensures.within in
    let before = c.in_ok-cmp_place-in-Greater.ensures.within in
    gap_at ord order c.args.near (omega (arith, at.0)) (λ k is. told ord order (c.args.near - 1) k c.in_ok-cmp_place-in-Greater.field-0 Less (omega (arith, is)) before.1 c.in-Less-2.is) (λ inside. told ord order c.args.near c.args.near c.in_ok-cmp_place.field-0 Greater refl at.1 c.in-Greater.is)

pub returns-in-Some-Greater-clause-position : goal.returns-in-Some-Greater-clause-position
returns-in-Some-Greater-clause-position g c =
    let ord : ℕ → Ordering = λ slot. option_map_or (λ row. g.K.Ord.cmp row.0 c.args.key.now) (get c.args.slots.now slot) Less in
    let order = c.args.by_key.now in
    let at = c.in_ok-cmp_place.ensures.within in
    let next = c.in-Some-Greater.ensures.within in
    gap_at ord order (c.args.near + 1) (omega (arith, at.0)) (λ k is. told ord order c.args.near k c.in_ok-cmp_place.field-0 Less (omega (arith, is)) at.1 c.in-Less.is) (λ inside. told ord order (c.args.near + 1) (c.args.near + 1) c.in-Some-Greater.field-0 Greater refl next.1 c.in-Some-Greater.field-0-is)

pub returns-in-None-clause-position : goal.returns-in-None-clause-position
returns-in-None-clause-position g c =
    let ord : ℕ → Ordering = λ slot. option_map_or (λ row. g.K.Ord.cmp row.0 c.args.key.now) (get c.args.slots.now slot) Less in
    let order = c.args.by_key.now in
    let at = c.in_ok-cmp_place.ensures.within in
    gap_at ord order (c.args.near + 1) (omega (arith, at.0)) (λ k is. told ord order c.args.near k c.in_ok-cmp_place.field-0 Less (omega (arith, is)) at.1 c.in-Less.is) (λ inside. absurd (omega (arith, inside, c.in-None.ensures.past)))
