use Rattle.std.proofs.Common.{◌∙◌, ap, drop, rules, tests, arith, length-drop}
use Rattle.std.proofs.lemmas.Iterator.{YieldsList-from_slice}
use Rattle.std.proofs.lemmas.Iterator.Consumers.{count_from_yields_List}
use Rattle.std.proofs.lemmas.Iterator.Search.{YieldsList-from_take_while}
use Rattle.std.proofs.lemmas.List.{take_all}
use Rattle.std.proofs.lemmas.List.Folds.{length-prefix_len}
use Rattle.abstract_paths.specs.Routing.{leads_here}
use Rattle.explicit_routes.proofs.hops.steps_from_here.Goals as goal

pub returns : goal.returns
returns c =
    let s = c.args.steps.now in
    let here = leads_here c.args.router.now in
    let counted = count_from_yields_List c.take_while.result _ c.count-here.ensures.ran (YieldsList-from_take_while _ here (YieldsList-from_slice s cc) c.take_while.ensures.closure c.take_while.ensures.done (λ x b q k. search (rules, tests))) ∙ length-prefix_len here s in
    take_all _ _ (omega (arith, length-drop c.count-here.result s)) ∙ ap (λ n. drop n s) counted
