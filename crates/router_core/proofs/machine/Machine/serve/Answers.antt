-- A datagram is served by its bytes.
use Rattle.std.proofs.Common.{List, ℕ, subst, sym}
use Rattle.router_core.specs.Machines.{IsDatagramServed, IsInputServed}
use Rattle.router_core.specs.declared.inputs.Input.{Input}
use Rattle.router_core.proofs.machine.Machine.serve.Goals as goal

pub returns-in-Datagram-clause-served : goal.returns-in-Datagram-clause-served
returns-in-Datagram-clause-served c =
    let old = c.args.self.now in
    let after = c.serve_datagram.new.self.state in
    let answer = c.serve_datagram.result in
    subst (λ (input : Input). IsInputServed old.router old.state input after answer) (sym c.in-Datagram.is)
    (subst (λ (bytes : List ℕ). IsDatagramServed old.router old.state c.in-Datagram.link bytes after answer) c.deref.ensures.value c.serve_datagram.ensures.served)
