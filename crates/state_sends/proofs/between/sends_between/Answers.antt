-- What goes is forgotten first, and what is sent is renewed then.
use Rattle.std.proofs.Common.{List, [], ap, ◌∙◌}
use Rattle.std.specs.FinMap.Entries.{find}
use Rattle.abstract_paths.specs.declared.events.Output.{Output}
use Rattle.abstract_paths.specs.Outputs.{between}
use Rattle.abstract_paths.specs.Touched.{forgotten, renewed_moment}
use Rattle.state_sends.specs.Placing.{placed}
use Rattle.state_sends.proofs.Placing.{find-become}
use Rattle.state_sends.proofs.between.sends_between.Goals as goal

pub returns-clause-moments : goal.returns-clause-moments
returns-clause-moments g c =
    let cmp = g.I.Ord.cmp in
    let due = c.args.due.now in
    let was = c.args.was.now in
    let is = c.args.is.items in
    λ item.
    ap (find cmp item) (c.in_ok-sends.ensures.moments ∙ ap (λ told. placed cmp told (between cmp (renewed_moment cmp due c.args.moment) is was)) (c.in_ok-told.ensures.moments ∙ ap (λ (rows : List (_ × Output)). placed cmp [] (between cmp forgotten was rows)) c.as_slice.ensures.value))
    ∙ find-become cmp g.met.I.Ord.total due c.args.moment was is c.requires.was c.requires.is item
