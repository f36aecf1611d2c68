use Rattle.std.proofs.Common.{refl, subst}
use Rattle.abstract_paths.specs.declared.events.Made.{Made}
use Rattle.abstract_router.specs.Steps.{Step}
use Rattle.router_core.proofs.Making.{made_same}
use Rattle.router_core.proofs.machine.Machine.serve_event.Goals as goal

pub returns-clause-served : goal.returns-clause-served
returns-clause-served c =
    let event = c.args.event in
    let one = c.make-labels.ensures.step event c.in_ok-ready.ensures.ready in (
      refl,
      subst (λ (made : Made). Step c.args.self.now.router c.args.self.now.state made c.make-labels.new.self.state)
          (made_same event c.in_ok-ready.ready c.make-labels.result.0 c.reply-reply.result c.make-labels.result.1 (c.make-labels.ensures.labels event) (c.reply-reply.ensures event) (c.make-labels.ensures.outputs event)) one,
    )
