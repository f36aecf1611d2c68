-- The tables say of labels what the router knows, also while it is cold.
use Rattle.std.proofs.Common.{subst}
use Rattle.lsr_facts.specs.declared.router.Router.{Router}
use Rattle.abstract_router.specs.Tables.{forwarded}
use Rattle.datagrams.specs.Datagrams.{IsDatagram}
use Rattle.router_core.proofs.WhileCold.{datagram_alike}
use Rattle.router_core.proofs.machine.Machine.read.Goals as goal

pub returns : goal.returns
returns c =
    let knows = c.tables-tables.ensures in
    let tables = c.tables-tables.result.now in
    datagram_alike tables.router c.args.self.now.router tables.state c.args.self.now.state c.args.link c.args.bytes.now c.read_datagram.result
    knows.router knows.state
    (subst (λ (r : Router). IsDatagram r (forwarded tables.router tables.state) c.args.link c.args.bytes.now c.read_datagram.result) c.router.ensures c.read_datagram.ensures)
