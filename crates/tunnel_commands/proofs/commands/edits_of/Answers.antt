use Rattle.std.proofs.Common.{◌≡◌, ◌∙◌, IfOk, None, Result, option_to_list, ap, refl, subst, sym}
use Rattle.std.specs.declared.alloc.AllocError.{AllocError}
use Rattle.std.proofs.lemmas.Result.{IfOk-weaker}
use Rattle.lsr_facts.specs.declared.router.Router.{Router}
use Rattle.abstract_paths.specs.declared.commands.Command.{Command}
use Rattle.abstract_paths.specs.Commands.{begun_by, commanded}
use Rattle.abstract_router.specs.States.{State, with_facts, without_held}
use Rattle.state_views.specs.Edits.{edited}
use Rattle.state_views.specs.declared.edits.Edits.{Edits}
use Rattle.tunnel_commands.specs.Commanding.{commanded_state}
use Rattle.tunnel_commands.proofs.Leaving.{none_leaves}
use Rattle.tunnel_commands.proofs.commands.edits_of.Goals as goal

-- a command that has no LSP signalled leaves reservations and repairs as they are
without_signal : (r : Router) (s : State) (c found : Command) (result : Result Edits AllocError) → c ≡ found → begun_by r s.facts found ≡ None
    → IfOk result (λ edits. edited edits s ≡ with_facts (commanded r s.facts found) s)
    → IfOk result (λ edits. edited edits s ≡ commanded_state r s c)
without_signal r s c found result is none made =
    let after = with_facts (commanded r s.facts found) s in
    let same = ap (λ signalled. without_held (option_to_list signalled) after) none ∙ none_leaves after in
    subst (λ (command : Command). IfOk result (λ edits. edited edits s ≡ commanded_state r s command)) (sym is)
    (IfOk-weaker result (λ edits. edited edits s ≡ after) (λ edits. edited edits s ≡ commanded_state r s found) (λ edits is. is ∙ sym same) made)

pub returns-in-CancelChange : goal.returns-in-CancelChange
returns-in-CancelChange g c = without_signal _ _ _ _ _ c.in-CancelChange.is refl c.cancelled.ensures

pub returns-in-DropTunnel : goal.returns-in-DropTunnel
returns-in-DropTunnel g c = without_signal _ _ _ _ _ c.in-DropTunnel.is refl c.dropped.ensures

pub returns-in-AddBypass : goal.returns-in-AddBypass
returns-in-AddBypass g c = without_signal _ _ _ _ _ c.in-AddBypass.is refl c.with_bypass.ensures

pub returns-in-DropBypass : goal.returns-in-DropBypass
returns-in-DropBypass g c = without_signal _ _ _ _ _ c.in-DropBypass.is refl c.without_bypass.ensures

pub returns-in-AddRoute : goal.returns-in-AddRoute
returns-in-AddRoute g c = without_signal _ _ _ _ _ c.in-AddRoute.is refl c.with_route.ensures

pub returns-in-DropRoute : goal.returns-in-DropRoute
returns-in-DropRoute g c = without_signal _ _ _ _ _ c.in-DropRoute.is refl c.without_route.ensures
