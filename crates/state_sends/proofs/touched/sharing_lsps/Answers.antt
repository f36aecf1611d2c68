-- The LSPs that are known, and those whose path has an edit, are all that are known before or after.
use Rattle.std.proofs.Common.{List, ap, ◌∙◌}
use Rattle.std.specs.Prelude.{◌||◌, Option}
use Rattle.lsr_facts.specs.Orders.{key_cmp}
use Rattle.lsr_facts.specs.declared.key.Key.{Key}
use Rattle.lsr_facts.specs.declared.path_fact.PathFact.{PathFact}
use Rattle.abstract_paths.specs.Touched.{is_among}
use Rattle.state_sends.proofs.Touching.{known_after}
use Rattle.state_sends.proofs.touched.sharing_lsps.Goals as goal

pub returns : goal.returns
returns g c =
    let known = c.in_ok-known.known in
    known_after (g.V.StateView.state c.args.view.now) c.args.edits.now known c.in_ok-all.all c.in_ok-known.ensures
    (λ key. c.in_ok-all.ensures key ∙ ap (λ (rows : List (Key × Option PathFact)). is_among key_cmp rows key || is_among key_cmp known key) c.as_slice.ensures.rows)
