-- The tunnel of parts that were read, with nothing more of the LSP that is to take the current one's place than its ID.
use Rattle.std.proofs.Common.{◌≡◌, ℕ, List, Option, Ok, ap, sym, ◌∙◌}
use Rattle.field_bytes.specs.Making.{Makes}
use Rattle.lsr_facts.specs.declared.tunnel.Tunnel.{Tunnel}
use Rattle.lsr_facts.specs.declared.tunnel.TunnelLsp.{TunnelLsp}
use Rattle.fact_fields.specs.declared.tunnels.TunnelIds.{TunnelIds}
use Rattle.fact_fields.specs.IdLaws.{id_again}
use Rattle.fact_fields.specs.Tunnels.{IsUntold, TunnelOf, id_of, tunnel_parts, untold_by}

-- the IDs of parts
abbrev ids_in : TunnelOf → TunnelIds
ids_in parts = parts.1.1.1.1.1

-- the traffic of parts
abbrev traffic_in : TunnelOf → List ℕ
traffic_in parts = parts.1.1.0

-- the tunnel of parts, with this LSP to take the current one's place
abbrev pub tunnel_with : TunnelOf → Option TunnelLsp → Tunnel
tunnel_with parts pending = record {
  endpoint = parts.0;
  attr = parts.1.1.1.0;
  fast_reroute = parts.1.1.1.1.0;
  current = record { id = (ids_in parts).current; route = parts.1.0; tspec = traffic_in parts };
  pending = pending;
  last = (ids_in parts).last;
  noted = (ids_in parts).noted;
}

-- the parts, with this ID for that LSP
abbrev parts_with : TunnelOf → ℕ → TunnelOf
parts_with parts id =
    let ids : TunnelIds = record { current = (ids_in parts).current; pending = id; last = (ids_in parts).last; noted = (ids_in parts).noted } in
    (parts.0, (parts.1.0, (traffic_in parts, (parts.1.1.1.0, (parts.1.1.1.1.0, ids)))))

pub made_with : (parts : TunnelOf) (pending : Option TunnelLsp) → pending ≡ untold_by (ids_in parts).pending (traffic_in parts) → Makes IsUntold tunnel_parts parts (Ok (tunnel_with parts pending))
made_with parts pending e =
    let same : id_of pending ≡ (ids_in parts).pending = ap id_of e ∙ id_again (ids_in parts).pending (traffic_in parts) in
    (ap (parts_with parts) same, e ∙ ap (λ (id : ℕ). untold_by id (traffic_in parts)) (sym same))
