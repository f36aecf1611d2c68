-- What was read is of these bytes, and of the name's own router.
use Rattle.std.proofs.Common.{ℕ, List, Result, Ok, ap, subst, sym, ◌∙◌}
use Rattle.lsr_facts.specs.declared.refusal.Refusal.{Refusal}
use Rattle.lsr_facts.specs.declared.router.Router.{Router}
use Rattle.datagrams.specs.declared.datagram.Datagram.{Datagram}
use Rattle.datagrams.specs.declared.datagram.Datagram.TheVariants as datagrams
use Rattle.interface_workers.specs.Early.{IsAlways}
use Rattle.interface_workers.proofs.early.EarlyRead.of.Goals as goal

pub invariant_of-result-2 : goal.invariant_of-result-2
invariant_of-result-2 g c =
    let read = c.in-Some-Ok-Event in
    let answer = Ok (datagrams.Event read.event) in
    subst (λ (b : List ℕ). IsAlways g.L.CoreName.config.router c.args.link b answer) (sym c.in-Ok-from_slice.ensures.items)
    (subst (λ (r : Router). IsAlways r c.args.link c.args.bytes.now answer) c.requires
    (subst (λ (a : Result Datagram Refusal). IsAlways c.args.router.now c.args.link c.args.bytes.now a) (read.field-0-is ∙ ap Ok read.field-0-0-is) read.ensures.answer))
