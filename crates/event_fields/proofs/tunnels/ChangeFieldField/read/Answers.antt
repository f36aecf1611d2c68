-- Where its parts aren't read, or can't be made, no change is spelled.
use Rattle.std.proofs.Common.{refl}
use Rattle.std.proofs.lemmas.Result.{err_from_is_err_and}
use Rattle.field_bytes.specs.Making.{not_made, parts_unread}
use Rattle.field_bytes.specs.NumberLaws.{one_short}
use Rattle.field_bytes.specs.PairLaws.{PairFits, one_pair, pair_bytes}
use Rattle.journal_bytes.specs.Events.{change_bytes, route_bytes}
use Rattle.body_fields.specs.Traffic.{same_traffic}
use Rattle.event_fields.specs.Fitting.{IsShort, RouteFits, TrafficFits}
use Rattle.event_fields.specs.Laws.{one_route, one_traffic, short_bytes}
use Rattle.event_fields.specs.Tunnels.{AnyChange, change_parts}
use Rattle.event_fields.proofs.tunnels.ChangeFieldField.read.Goals as goal

pub returns-in_err-parts : goal.returns-in_err-parts
returns-in_err-parts c =
    let p = err_from_is_err_and c.from_residual.result c.from_residual.ensures.1 in
    rw (p.1, p.2) (parts_unread AnyChange change_parts change_bytes (PairFits IsShort (PairFits RouteFits TrafficFits)) (pair_bytes short_bytes (pair_bytes route_bytes same_traffic)) (λ x. refl) c.args.bytes.now _ c.in_err-parts.ensures)

pub returns-in_err-change_of : goal.returns-in_err-change_of
returns-in_err-change_of c =
    let p = err_from_is_err_and c.from_residual-in_err-change_of.result c.from_residual-in_err-change_of.ensures.1 in
    rw (p.1, p.2) (not_made AnyChange change_parts change_bytes (PairFits IsShort (PairFits RouteFits TrafficFits)) (pair_bytes short_bytes (pair_bytes route_bytes same_traffic)) (λ x. refl)
    (one_pair IsShort (PairFits RouteFits TrafficFits) short_bytes (pair_bytes route_bytes same_traffic) one_short (one_pair RouteFits TrafficFits route_bytes same_traffic one_route one_traffic))
    c.args.bytes.now c.in_ok-parts.rest.now c.in_ok-parts.parts _ c.in_ok-parts.ensures.0 c.in_ok-parts.ensures.1 c.in_err-change_of.ensures)
