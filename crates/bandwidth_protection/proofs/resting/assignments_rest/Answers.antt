-- Where all LSPs are at rest, and share the same, what they are promised stands.
use Rattle.std.proofs.Common.{List, Option, subst, sym, ◌∙◌}
use Rattle.std.specs.List.{AllByRecursion}
use Rattle.abstract_paths.specs.StampLaws.{none-is}
use Rattle.lsr_facts.specs.declared.key.Key.{Key}
use Rattle.lsr_facts.specs.declared.path_fact.PathFact.{PathFact}
use Rattle.lsr_facts.specs.declared.repair.Repair.{Repair}
use Rattle.lsr_facts.specs.declared.resv_fact.ResvFact.{ResvFact}
use Rattle.state_views.specs.Edits.{edited}
use Rattle.bandwidth_protection.specs.Resting.{IsAtRest}
use Rattle.bandwidth_protection.specs.RestingLaws.{all_rest}
use Rattle.bandwidth_protection.proofs.resting.assignments_rest.Goals as goal

pub returns-then-is_unpromised : goal.returns-then-is_unpromised
returns-then-is_unpromised g c said = c.is_unpromised.ensures c.if-is_unpromised.true

pub returns : goal.returns
returns g c said =
    let r = g.V.StateView.router c.args.view.now in
    let s = g.V.StateView.state c.args.view.now in
    let e = c.args.edits.now in
    let paths = subst (λ (rows : List (Key × Option PathFact)). AllByRecursion (λ row. IsAtRest s (edited e s) row.0) rows) c.as_slice.ensures.rows (c.are_at_rest.ensures c.if-not-are_at_rest.false) in
    let resvs = subst (λ (rows : List (Key × Option ResvFact)). AllByRecursion (λ row. IsAtRest s (edited e s) row.0) rows) c.as_slice-else-not-are_at_rest.ensures.rows (c.are_at_rest-else-not-are_at_rest.ensures c.if-not-are_at_rest-2.false) in
    let repairs = subst (λ (rows : List (Key × Option Repair)). AllByRecursion (λ row. IsAtRest s (edited e s) row.0) rows) c.as_slice-else-not-are_at_rest-2.ensures.rows (c.are_at_rest-else-not-are_at_rest-2.ensures c.if-not-are_at_rest-3.false) in
    all_rest r s e c.requires.resvs c.requires.assignments c.requires.kept (none-is e.bypasses (sym c.is_some.ensures ∙ c.if-is_some.false)) (c.is_same_around.ensures said) paths resvs repairs
    ∙ c.assignments_stand.ensures.stand c.if-not-assignments_stand.false
