use Rattle.std.proofs.Common.{rules}
use Rattle.std.specs.Option.{option_map_or}
use Rattle.std.specs.declared.cmp.Ordering.TheVariants.{Less}
use Rattle.std.proofs.lemmas.Fn.{always_returns_same}
use Rattle.slab.specs.Slab.{get}
use Rattle.slot_rows.proofs.finding.search_near.Goals as goal

pub returns-in-None-clause-position : goal.returns-in-None-clause-position
returns-in-None-clause-position g c =
    c.binary_search_by.ensures.position (λ slot. option_map_or (λ row. g.K.Ord.cmp row.0 c.args.key.now) (get c.args.slots.now slot) Less) (always_returns_same _ _ _ (λ a r f' called. search rules))
