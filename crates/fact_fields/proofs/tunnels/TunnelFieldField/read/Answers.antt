-- Where its parts aren't read, or no tunnel is made of them, none is spelled.
use Rattle.std.proofs.Common.{refl}
use Rattle.std.proofs.lemmas.Result.{err_from_is_err_and}
use Rattle.field_bytes.specs.Making.{not_made, parts_unread}
use Rattle.fact_fields.specs.FieldLaws.{one_tunnel_parts, tunnel_part_bytes}
use Rattle.fact_fields.specs.Fitting.{TunnelPartsFit}
use Rattle.fact_fields.specs.Tunnels.{IsUntold, tunnel_bytes, tunnel_parts}
use Rattle.fact_fields.proofs.tunnels.TunnelFieldField.read.Goals as goal

pub returns-in_err-parts : goal.returns-in_err-parts
returns-in_err-parts c =
    let p = err_from_is_err_and c.from_residual.result c.from_residual.ensures.1 in
    rw (p.1, p.2) (parts_unread IsUntold tunnel_parts tunnel_bytes TunnelPartsFit tunnel_part_bytes (λ x. refl) c.args.bytes.now _ c.in_err-parts.ensures)

pub returns-in_err-tunnel_of : goal.returns-in_err-tunnel_of
returns-in_err-tunnel_of c =
    let p = err_from_is_err_and c.from_residual-in_err-tunnel_of.result c.from_residual-in_err-tunnel_of.ensures.1 in
    rw (p.1, p.2) (not_made IsUntold tunnel_parts tunnel_bytes TunnelPartsFit tunnel_part_bytes (λ x. refl) one_tunnel_parts
    c.args.bytes.now c.in_ok-parts.rest.now c.in_ok-parts.parts _ c.in_ok-parts.ensures.0 c.in_ok-parts.ensures.1 c.in_err-tunnel_of.ensures)
