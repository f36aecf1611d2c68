-- Each path leaves room for an error that names it, and so does the one that is found.
use Rattle.std.proofs.Common.{Option, IfSome, Some, ap, sym, subst, ◌∙◌}
use Rattle.std.specs.Option.{option_copied}
use Rattle.sorted_rows.specs.RowsLaws.{find-all}
use Rattle.lsr_facts.specs.Orders.{key_cmp}
use Rattle.lsr_facts.specs.declared.path_fact.PathFact.{PathFact}
use Rattle.abstract_paths.specs.MessageLaws.{LeavesRoom}
use Rattle.state_settling.proofs.repair.told_of.Goals as goal

pub told_on-requires : goal.told_on-requires
told_on-requires g c =
    let paths = (g.A.StateView.state c.args.after.now).facts.paths in
    subst (λ (known : Option PathFact). IfSome known (λ path. LeavesRoom (Some path.tspec))) (sym c.path.ensures.path ∙ ap option_copied c.in-Some.is)
    (find-all key_cmp (λ path. LeavesRoom (Some path.tspec)) c.args.repair.now.0 paths c.requires)
