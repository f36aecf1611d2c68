-- A step that is made ready is the step that is made.
use Rattle.std.proofs.Common.{◌≡◌, ℕ, List, sym}
use Rattle.lsr_facts.specs.declared.key.Key.{Key}
use Rattle.lsr_facts.specs.declared.reply.Reply.{Reply}
use Rattle.abstract_paths.specs.declared.events.Event.{Event}
use Rattle.abstract_paths.specs.declared.events.Output.{Output}
use Rattle.router_core.specs.Readies.{made_of}
use Rattle.router_core.specs.declared.ready.Ready.{Ready}
use Rattle.router_core.specs.declared.ready.Ready.TheVariants as readies

pub made_same : (event : Event) (ready : Ready) (labels : List (Key × ℕ)) (reply : Reply) (outputs : List Output) → labels ≡ (made_of event ready).labels → reply ≡ (made_of event ready).reply → outputs ≡ (made_of event ready).outputs
    → made_of event ready ≡ record { event = event; labels = labels; reply = reply; outputs = outputs }
made_same event (readies.Plan plan) labels reply outputs given answered sent = λ i. record { event = event; labels = sym given i; reply = sym answered i; outputs = sym sent i }
made_same event readies.Start labels reply outputs given answered sent = λ i. record { event = event; labels = sym given i; reply = sym answered i; outputs = sym sent i }
made_same event (readies.Restart changes) labels reply outputs given answered sent = λ i. record { event = event; labels = sym given i; reply = sym answered i; outputs = sym sent i }
