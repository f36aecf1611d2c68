-- What is known of a datagram before its turn.
use Rattle.std.specs.Prelude.{ℕ, List, Result}
use Rattle.label_stacks.specs.declared.entry.StackEntry.{StackEntry}
use Rattle.forwarding_table.specs.declared.forwarding.Forwarding.{Forwarding}
use Rattle.lsr_facts.specs.declared.refusal.Refusal.{Refusal}
use Rattle.lsr_facts.specs.declared.router.Router.{Router}
use Rattle.datagrams.specs.Datagrams.{IsDatagram}
use Rattle.datagrams.specs.declared.datagram.Datagram.{Datagram}

-- The datagram of these bytes that came over this link is this, whatever forwards by labels: so it is the same in whatever turn it is served.
abbrev pub IsAlways : Router → ℕ → List ℕ → Result Datagram Refusal → Type 0
IsAlways r link bytes answer = (forward : List StackEntry → Forwarding) → IsDatagram r forward link bytes answer
