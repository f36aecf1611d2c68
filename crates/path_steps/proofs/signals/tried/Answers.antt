-- The path that is put is one more.
use Rattle.std.proofs.Common.{◌≡◌, ◌+◌, IfSome, Option, ap, is_some, length, subst, sym, ◌∙◌}
use Rattle.std.specs.FinMap.Entries.{find}
use Rattle.lsr_facts.specs.Tunnels.{current_key}
use Rattle.lsr_facts.specs.declared.path_fact.PathFact.{PathFact}
use Rattle.lsr_facts.specs.declared.key.Key.{Key}
use Rattle.abstract_router.specs.States.{State}
use Rattle.lsr_facts.specs.Orders.{key_cmp}
use Rattle.sorted_rows.specs.EditLaws.{is_sorted-edited}
use Rattle.lsr_facts.specs.OrderLaws.{key_total}
use Rattle.state_views.specs.Edits.{edited}
use Rattle.path_steps.proofs.Trying.{has_no_path, one_path_more}
use Rattle.path_steps.proofs.signals.tried.Goals as goal

pub returns-in_ok-put_path-in-Some-clause-counted : goal.returns-in_ok-put_path-in-Some-clause-counted
returns-in_ok-put_path-in-Some-clause-counted g c =
    let r = g.V.StateView.router c.args.view.now in
    let s = g.V.StateView.state c.args.view.now in
    let so_far = edited c.args.so_far.edits s in
    let new = has_no_path r so_far.facts (c.args.number, c.args.tunnel.now) (sym c.is_passed_over.ensures ∙ c.if-is_passed_over.false) in
    let current = current_key r (c.args.number, c.args.tunnel.now) in
    let key = subst (λ (head : Option (Key × PathFact)). IfSome head (λ path. path.0 ≡ current)) c.in-Some.is c.in_ok-key.ensures.key in
    ap (λ n. n + 1) c.requires.counted
    ∙ sym (one_path_more c.in-Some.key c.in-Some.path so_far.facts.paths (is_sorted-edited key_cmp key_total c.args.so_far.edits.paths s.facts.paths c.requires.order)
    (ap (λ (k : Key). is_some (find key_cmp k so_far.facts.paths)) key ∙ new))
    ∙ ap (λ (after : State). length after.facts.paths) (sym (c.in_ok-put_path-in-Some.ensures s c.requires.order))
