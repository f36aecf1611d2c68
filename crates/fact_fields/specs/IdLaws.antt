-- Of an LSP that is to take a tunnel's current one's place a file has the ID.
use Rattle.std.specs.Prelude.{◌≡◌, ◌==◌, ◌++◌, [], ℕ, Bool, T, true, false, if◌then◌else◌, List, Some, None, refl}
use Rattle.std.specs.Net.Addr.{ipv4_octets}
use Rattle.std.proofs.Common.{ap, eqb→eq, sym, subst, ◌∙◌}
use Rattle.byteorder.specs.Endian.{big_bytes}
use Rattle.field_bytes.specs.Making.{MadeFits}
use Rattle.field_bytes.specs.OptionLaws.{option_bytes}
use Rattle.rsvp_objects.specs.Values.{fast_reroute_body}
use Rattle.lsr_facts.specs.declared.tunnel.Tunnel.{Tunnel}
use Rattle.journal_bytes.specs.Events.{attr_bytes, route_bytes}
use Rattle.fact_fields.specs.declared.tunnels.TunnelIds.{TunnelIds}
use Rattle.fact_fields.specs.Tunnels.{IsUntold, TunnelOf, id_of, noted_bytes, pending_id, tunnel_bytes, tunnel_parts, untold, untold_by}

-- the ID of an LSP of which nothing more is said
pub id_again : (id : ℕ) (tspec : List ℕ) → id_of (untold_by id tspec) ≡ id
id_again id tspec = by_case (id == 0) refl where
  lsp_id : Bool → ℕ
  lsp_id b = id_of (if b then None else Some (record { id = id; route = []; tspec = tspec }))

  by_case : (b : Bool) → (id == 0) ≡ b → id_of (untold_by id tspec) ≡ id
  by_case true e = ap lsp_id e ∙ sym (eqb→eq id 0 (subst T (sym e) tt))
  by_case false e = ap lsp_id e

-- what a file says of a tunnel is spelled as the tunnel is
pub untold_bytes : (t : Tunnel) → tunnel_bytes (untold t) ≡ tunnel_bytes t
untold_bytes t = ap (λ (id : ℕ). ipv4_octets t.endpoint ++ (route_bytes t.current.route ++ (t.current.tspec ++ (attr_bytes t.attr ++ (option_bytes fast_reroute_body t.fast_reroute
    ++ (big_bytes 2 t.current.id ++ (big_bytes 2 id ++ (big_bytes 2 t.last ++ option_bytes noted_bytes t.noted)))))))) (id_again (pending_id t) t.current.tspec)

-- its IDs, with this one for the LSP that is to take the current one's place
ids_with : Tunnel → ℕ → TunnelIds
ids_with t id = record { current = t.current.id; pending = id; last = t.last; noted = t.noted }

untold_parts : (t : Tunnel) → tunnel_parts t ≡ tunnel_parts (untold t)
unfolding ids_with
untold_parts t = ap (λ (id : ℕ). (t.endpoint, (t.current.route, (t.current.tspec, (t.attr, (t.fast_reroute, ids_with t id)))))) (sym (id_again (pending_id t) t.current.tspec))

is_untold : (t : Tunnel) → IsUntold (untold t)
is_untold t = ap (λ (id : ℕ). untold_by id t.current.tspec) (sym (id_again (pending_id t) t.current.tspec))

-- and has a spelling where the tunnel's parts have
pub untold_fits : (Fits : TunnelOf → Type 0) (t : Tunnel) → Fits (tunnel_parts t) → MadeFits IsUntold tunnel_parts Fits (untold t)
untold_fits Fits t fit = (is_untold t, subst Fits (untold_parts t) fit)
