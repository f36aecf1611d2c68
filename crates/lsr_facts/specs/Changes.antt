-- Make-before-break (RFC 3209, 2.5): a tunnel and the LSP that is to take the place of its current one.
use Rattle.std.specs.Prelude.{ℕ, ◌+◌, List, Option, Some, None}
use Rattle.rsvp_contents.specs.Below.bodies.declared.step.Step.{Step}
use Rattle.lsr_facts.specs.declared.tunnel.Tunnel.{Tunnel}
use Rattle.lsr_facts.specs.declared.tunnel.TunnelLsp.{TunnelLsp}

-- The change begins: the LSP of the next ID is to take the current one's place.
abbrev pub begun : List Step → List ℕ → Tunnel → Tunnel
begun route tspec tunnel = record tunnel { pending = Some (record { id = tunnel.last + 1; route = route; tspec = tspec }); last = tunnel.last + 1 }

-- The change is given up.
abbrev pub cancelled : Tunnel → Tunnel
cancelled tunnel = record tunnel { pending = None }

-- the tunnel with this LSP in its current one's place, if there is one
abbrev pub switched_to : Option TunnelLsp → Tunnel → Tunnel
switched_to None tunnel = tunnel
switched_to (Some lsp) tunnel = record tunnel { current = lsp; pending = None }

-- The change is over: the new LSP carries the traffic.
abbrev pub switched : Tunnel → Tunnel
switched tunnel = switched_to tunnel.pending tunnel
