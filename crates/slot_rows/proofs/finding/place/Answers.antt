use Rattle.std.proofs.Common.{◌≡◌, ℕ, List, Result, Ok, Err, IfOk, get_or}
use Rattle.std.specs.List.Sorted.{IsBinarySearchResult}
use Rattle.std.specs.declared.cmp.Ordering.{Ordering}
use Rattle.std.specs.declared.cmp.Ordering.TheVariants.{Equal}
use Rattle.slab.specs.Slab.{get}
use Rattle.slot_rows.specs.Slots.{rows_of}
use Rattle.slot_rows.proofs.Places.{absent_place, found_place, searched}
use Rattle.slot_rows.proofs.finding.place.Goals as goal

-- what a search says where it found something
ok_part : {R : Type 0} (ord : R → Ordering) (rows : List R) (r : Result ℕ ℕ) → IsBinarySearchResult ord rows r → IfOk r (λ i. (d : R) → ord (get_or rows i d) ≡ Equal)
ok_part ord rows (Ok i) is = is
ok_part ord rows (Err i) is = tt

pub returns-clause-found : goal.returns-clause-found
returns-clause-found g c =
    let slots = c.args.slots.now in
    found_place g.K.Ord.cmp g.met.K.Ord.total (get slots) c.args.by_key.now (rows_of slots c.args.by_key.now) c.requires.filled c.requires.in_order c.args.key.now c.search_near.result c.search_near.ensures.bound c.search_near.ensures.position

pub returns-clause-absent : goal.returns-clause-absent
returns-clause-absent g c =
    let slots = c.args.slots.now in
    absent_place g.K.Ord.cmp g.met.K.Ord.total (get slots) c.args.by_key.now (rows_of slots c.args.by_key.now) c.requires.filled c.requires.in_order c.args.key.now c.search_near.result c.search_near.ensures.bound c.search_near.ensures.position

pub returns-clause-ties : goal.returns-clause-ties
returns-clause-ties g c =
    let slots = c.args.slots.now in
    let ord : g.row.K.Denot × g.row.V.Denot → Ordering = λ row. g.K.Ord.cmp row.0 c.args.key.now in
    ok_part ord (rows_of slots c.args.by_key.now) c.search_near.result (searched ord (get slots) c.args.by_key.now (rows_of slots c.args.by_key.now) c.requires.filled c.search_near.result c.search_near.ensures.bound c.search_near.ensures.position)
