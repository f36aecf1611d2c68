use Rattle.sorted_rows.specs.ListLaws.{all-always}
use Rattle.plain_soundness.specs.Apart.{ArePairApart}
use Rattle.plain_soundness.proofs.apart.ApartCheckCheckTuple2KeyPathFact.holds.Goals as goal

pub returns-then-has_no_stack : goal.returns-then-has_no_stack
returns-then-has_no_stack c =
    (λ passes. all-always (ArePairApart c.args.path.now) (c.has_no_stack.ensures c.if-has_no_stack.true) c.args.self.now.paths.now, λ all. c.if-has_no_stack.true)
