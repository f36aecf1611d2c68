use Rattle.std.proofs.Common.{◌≡◌, arith, List, Option, T, filter_map, is_some, true, ap, subst, sym, ◌∙◌}
use Rattle.std.specs.FinMap.Entries.{find, is_sorted}
use Rattle.std.specs.List.{AllByRecursion}
use Rattle.std.proofs.lemmas.Grind.{common_steps}
use Rattle.std.proofs.lemmas.List.{take_all}
use Rattle.std.proofs.lemmas.List.Elements.{filter_map-append}
use Rattle.sorted_rows.specs.Edits.{edited}
use Rattle.lsr_facts.specs.Orders.{key_cmp}
use Rattle.lsr_facts.specs.declared.key.Key.{Key}
use Rattle.lsr_facts.specs.declared.path_fact.PathFact.{PathFact}
use Rattle.router_steps.specs.Expiring.{expiry_at}
use Rattle.router_steps.proofs.Expiries.{edited_expire, is_sorted-expiries, known_expiries}
use Rattle.router_steps.proofs.ticks.path_expiries.Goals as goal

pub loop-key-preserved : goal.loop-key-preserved
loop-key-preserved g c = grind (arith, common_steps, filter_map-append)

pub from_rows-requires : goal.from_rows-requires
from_rows-requires g c =
    let paths = (g.V.StateView.state c.args.view.now).facts.paths in
    let all = ap (filter_map (expiry_at c.args.moment paths)) (take_all c.loop-key.key-index c.as_slice-key-items.result.now c.loop-key-test.false ∙ c.as_slice-key-items.ensures.value ∙ c.in_ok-keys.ensures.expiring) in
    subst (λ (edits : List (Key × Option PathFact)). T (is_sorted key_cmp edits)) (sym (c.loop-key.invariant ∙ all)) (is_sorted-expiries c.args.moment paths c.requires)

pub returns-clause-known : goal.returns-clause-known
returns-clause-known g c =
    let paths = (g.V.StateView.state c.args.view.now).facts.paths in
    subst (λ (edits : List (Key × Option PathFact)). AllByRecursion (λ edit. is_some (find key_cmp edit.0 paths) ≡ true) edits)
    (sym (c.from_rows.ensures ∙ c.loop-key.invariant)) (known_expiries c.args.moment paths _)

pub returns-clause-left : goal.returns-clause-left
returns-clause-left g c =
    let paths = (g.V.StateView.state c.args.view.now).facts.paths in
    let all = ap (filter_map (expiry_at c.args.moment paths)) (take_all c.loop-key.key-index c.as_slice-key-items.result.now c.loop-key-test.false ∙ c.as_slice-key-items.ensures.value ∙ c.in_ok-keys.ensures.expiring) in
    ap (λ (edits : List (Key × Option PathFact)). edited key_cmp edits paths) (c.from_rows.ensures ∙ c.loop-key.invariant ∙ all)
    ∙ edited_expire c.args.moment paths c.requires
