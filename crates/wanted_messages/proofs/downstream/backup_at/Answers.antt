-- What is known under a key is a path.
use Rattle.std.proofs.Common.{IfSome, Option, subst, sym}
use Rattle.lsr_facts.specs.declared.path_fact.PathFact.{PathFact}
use Rattle.abstract_paths.specs.Soundness.{IsPath}
use Rattle.wanted_messages.specs.PathLaws.{known_is_path}
use Rattle.wanted_messages.proofs.downstream.backup_at.Goals as goal

pub backup_row-requires-clause-path : goal.backup_row-requires-clause-path
backup_row-requires-clause-path g c =
    let r = g.V.StateView.router c.args.view.now in
    let s = (g.V.StateView.state c.args.view.now).facts in
    let key = c.args.key.now in
    subst (λ (known : Option PathFact). IfSome known (λ path. IsPath r s.moment (key, path))) (sym c.in-Some.ensures.path) (known_is_path r s.moment key s.paths c.requires.paths)
