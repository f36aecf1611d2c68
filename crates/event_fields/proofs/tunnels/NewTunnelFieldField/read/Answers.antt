-- Where its parts aren't read, or can't be made, no tunnel is spelled.
use Rattle.std.proofs.lemmas.Result.{err_from_is_err_and}
use Rattle.field_bytes.specs.Making.{not_made, parts_unread}
use Rattle.event_fields.specs.Tunnels.{AnyTunnel, tunnel_parts, tunnel_spelled}
use Rattle.journal_bytes.specs.Events.{tunnel_bytes}
use Rattle.event_fields.proofs.TunnelParts.{TunnelPartsFit, one_tunnel_parts, tunnel_part_bytes}
use Rattle.event_fields.proofs.tunnels.NewTunnelFieldField.read.Goals as goal

pub returns-in_err-parts : goal.returns-in_err-parts
returns-in_err-parts c =
    let p = err_from_is_err_and c.from_residual.result c.from_residual.ensures.1 in
    rw (p.1, p.2) (parts_unread AnyTunnel tunnel_parts tunnel_bytes TunnelPartsFit tunnel_part_bytes tunnel_spelled c.args.bytes.now _ c.in_err-parts.ensures)

pub returns-in_err-tunnel_of : goal.returns-in_err-tunnel_of
returns-in_err-tunnel_of c =
    let p = err_from_is_err_and c.from_residual-in_err-tunnel_of.result c.from_residual-in_err-tunnel_of.ensures.1 in
    rw (p.1, p.2) (not_made AnyTunnel tunnel_parts tunnel_bytes TunnelPartsFit tunnel_part_bytes tunnel_spelled one_tunnel_parts
    c.args.bytes.now c.in_ok-parts.rest.now c.in_ok-parts.parts _ c.in_ok-parts.ensures.0 c.in_ok-parts.ensures.1 c.in_err-tunnel_of.ensures)
