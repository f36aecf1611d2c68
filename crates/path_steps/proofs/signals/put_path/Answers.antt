use Rattle.std.proofs.Common.{List, Option, ap, ◌∙◌}
use Rattle.lsr_facts.specs.declared.key.Key.{Key}
use Rattle.lsr_facts.specs.declared.path_fact.PathFact.{PathFact}
use Rattle.state_views.specs.Edits.{edited}
use Rattle.path_steps.proofs.Putting.{path_is_put}
use Rattle.path_steps.proofs.signals.put_path.Goals as goal

pub returns : goal.returns
returns c s h =
    ap (λ (paths : List (Key × Option PathFact)). edited (record c.args.edits { paths = paths }) s) c.in_ok-set.ensures.ok
    ∙ path_is_put c.args.edits s c.args.key c.args.path h
