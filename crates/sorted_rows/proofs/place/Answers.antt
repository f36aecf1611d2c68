use Rattle.std.proofs.Common.{rules}
use Rattle.std.proofs.lemmas.Fn.{always_returns_same}
use Rattle.sorted_rows.proofs.Places.{absent, found}
use Rattle.sorted_rows.proofs.place.Goals as goal

pub returns-clause-found : goal.returns-clause-found
returns-clause-found g c =
    let is = c.binary_search_by.ensures.position (λ row. g.K.Ord.cmp row.0 c.args.key.now) (always_returns_same _ _ _ (λ a r f' called. search rules)) in
    found g.K.Ord.cmp g.met.K.Ord.total c.args.key.now c.args.rows.now c.binary_search_by.result c.requires c.binary_search_by.ensures.bound is

pub returns-clause-absent : goal.returns-clause-absent
returns-clause-absent g c =
    let is = c.binary_search_by.ensures.position (λ row. g.K.Ord.cmp row.0 c.args.key.now) (always_returns_same _ _ _ (λ a r f' called. search rules)) in
    absent g.K.Ord.cmp g.met.K.Ord.total c.args.key.now c.args.rows.now c.binary_search_by.result c.requires c.binary_search_by.ensures.bound is
