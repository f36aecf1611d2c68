-- It came over this link, and has these bytes.
use Rattle.std.proofs.Common.{◌≡◌, ℕ, List, Ok, subst, rules}
use Rattle.datagrams.specs.declared.datagram.Datagram.TheVariants as datagrams
use Rattle.interface_workers.specs.Early.{IsAlways}
use Rattle.interface_workers.proofs.early.EarlyRead.into_event.Goals as goal

pub returns-then-eq : goal.returns-then-eq
returns-then-eq g c =
    let over : c.self.inside.link ≡ c.args.link = search rules in
    let same : c.self.inside.bytes.items ≡ c.args.bytes.now = search rules in
    subst (λ (l : ℕ). IsAlways g.L.CoreName.config.router l c.args.bytes.now (Ok (datagrams.Event c.self.inside.event))) over
    (subst (λ (b : List ℕ). IsAlways g.L.CoreName.config.router c.self.inside.link b (Ok (datagrams.Event c.self.inside.event))) same c.self.invariant)
