-- What a step of a known event answers, leads to and sends.
use Rattle.std.specs.Prelude.{◌≡◌}
use Rattle.std.proofs.Common.{ap, ◌∙◌}
use Rattle.lsr_facts.specs.declared.router.Router.{Router}
use Rattle.abstract_paths.specs.declared.events.Event.{Event}
use Rattle.abstract_paths.specs.declared.events.Made.{Made}
use Rattle.abstract_router.specs.Arrivals.{outcome}
use Rattle.abstract_router.specs.Outcomes.{Outcome}
use Rattle.abstract_router.specs.States.{State}
use Rattle.abstract_router.specs.Steps.{Step, known_after, sent_in}

module _ (r : Router) (before after : State) (made : Made) (event : Event) (o : Outcome) (x : Step r before made after) (is : made.event ≡ event) (does : outcome r before event ≡ o) where
  same : outcome r before made.event ≡ o
  same = ap (outcome r before) is ∙ does

  pub led : after ≡ known_after r before made.labels o
  led = x.changed ∙ ap (known_after r before made.labels) same

  pub answered : made.reply ≡ o.reply
  answered = x.replied ∙ ap (λ (p : Outcome). p.reply) same

  pub sends : made.outputs ≡ sent_in r before o after
  sends = x.sent ∙ ap (λ p. sent_in r before p after) same
