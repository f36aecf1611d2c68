-- No bytes begin with the parts of two tunnels.
use Rattle.std.proofs.Common.{List, ℕ}
use Rattle.std.specs.Net.Addr.{ipv4_octets}
use Rattle.field_bytes.specs.NumberLaws.{one_address, one_short}
use Rattle.field_bytes.specs.OptionLaws.{OptionFits, one_option, option_bytes}
use Rattle.field_bytes.specs.PairLaws.{PairFits, one_pair, pair_bytes}
use Rattle.field_bytes.specs.Spelling.{IsOne}
use Rattle.rsvp_objects.specs.Values.{fast_reroute_body}
use Rattle.journal_bytes.specs.Events.{attr_bytes, route_bytes}
use Rattle.body_fields.specs.Traffic.{same_traffic}
use Rattle.event_fields.specs.Fitting.{AttrFits, HasOctets, IsShort, ProtectionFits, RouteFits, TrafficFits}
use Rattle.event_fields.specs.Laws.{one_attr, one_protection, one_route, one_traffic, short_bytes}
use Rattle.event_fields.specs.Tunnels.{TunnelParts}

abbrev pub TunnelPartsFit : TunnelParts → Type 0
TunnelPartsFit = PairFits IsShort (PairFits HasOctets (PairFits RouteFits (PairFits TrafficFits (PairFits AttrFits (OptionFits ProtectionFits)))))

abbrev pub tunnel_part_bytes : TunnelParts → List ℕ
tunnel_part_bytes = pair_bytes short_bytes (pair_bytes ipv4_octets (pair_bytes route_bytes (pair_bytes same_traffic (pair_bytes attr_bytes (option_bytes fast_reroute_body)))))

pub one_tunnel_parts : IsOne TunnelPartsFit tunnel_part_bytes
one_tunnel_parts =
    one_pair IsShort (PairFits HasOctets (PairFits RouteFits (PairFits TrafficFits (PairFits AttrFits (OptionFits ProtectionFits))))) short_bytes
    (pair_bytes ipv4_octets (pair_bytes route_bytes (pair_bytes same_traffic (pair_bytes attr_bytes (option_bytes fast_reroute_body))))) one_short
    (one_pair HasOctets (PairFits RouteFits (PairFits TrafficFits (PairFits AttrFits (OptionFits ProtectionFits)))) ipv4_octets
    (pair_bytes route_bytes (pair_bytes same_traffic (pair_bytes attr_bytes (option_bytes fast_reroute_body)))) one_address
    (one_pair RouteFits (PairFits TrafficFits (PairFits AttrFits (OptionFits ProtectionFits))) route_bytes
    (pair_bytes same_traffic (pair_bytes attr_bytes (option_bytes fast_reroute_body))) one_route
    (one_pair TrafficFits (PairFits AttrFits (OptionFits ProtectionFits)) same_traffic (pair_bytes attr_bytes (option_bytes fast_reroute_body)) one_traffic
    (one_pair AttrFits (OptionFits ProtectionFits) attr_bytes (option_bytes fast_reroute_body) one_attr (one_option ProtectionFits fast_reroute_body one_protection)))))
