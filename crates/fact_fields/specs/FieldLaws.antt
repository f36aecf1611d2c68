-- No bytes begin with two values of these kinds, either.
use Rattle.std.specs.Prelude.{◌≡◌, ℕ, List, refl}
use Rattle.std.specs.Net.Addr.{ipv4_octets}
use Rattle.std.specs.declared.net.ipv4_addr.Ipv4Addr.{Ipv4Addr}
use Rattle.field_bytes.specs.CaseLaws.{BothFit, IsOneCase, both_fields, both_tag, choice_bytes, no_tag, one_both, one_choice, one_only}
use Rattle.field_bytes.specs.ListLaws.{one_list}
use Rattle.field_bytes.specs.Making.{one_made}
use Rattle.field_bytes.specs.NumberLaws.{one_address, one_byte, one_long, one_short}
use Rattle.field_bytes.specs.OptionLaws.{OptionFits, one_option, option_bytes}
use Rattle.field_bytes.specs.PairLaws.{PairFits, one_pair, pair_bytes}
use Rattle.field_bytes.specs.Spelling.{IsOne, ListFits, list_bytes}
use Rattle.field_bytes.specs.declared.cases.OneOf.{OneOf}
use Rattle.rsvp_objects.specs.Values.{fast_reroute_body}
use Rattle.lsr_facts.specs.declared.key.Item.TheVariants as items
use Rattle.lsr_facts.specs.declared.key.Key.{Key}
use Rattle.lsr_facts.specs.declared.upstream.Upstream.{Upstream}
use Rattle.journal_bytes.specs.Events.{attr_bytes, route_bytes}
use Rattle.body_fields.specs.Traffic.{same_traffic}
use Rattle.event_fields.specs.Fitting.{AttrFits, HasOctets, IsByte, IsLong, IsShort, ProtectionFits, RouteFits, TrafficFits}
use Rattle.event_fields.specs.Laws.{byte_bytes, long_bytes, one_attr, one_protection, one_route, one_traffic, short_bytes}
use Rattle.fact_fields.specs.Fitting.{AssignmentFits, BypassFits, HeldFits, IdsFit, IsAny, KeyFits, NotedFits, PlainBypassFits, RefreshedFits, SentFits, TunnelFits, TunnelPartsFit, UpstreamFits}
use Rattle.fact_fields.specs.Keys.{KeyOf, key_bytes, key_parts, key_told, upstream_bytes, upstream_parts, upstream_told}
use Rattle.fact_fields.specs.Resvs.{assignment_bytes, assignment_parts, assignment_told}
use Rattle.fact_fields.specs.Sent.{IsSent, refreshed_bytes, refreshed_parts, refreshed_told, sent_bytes, sent_row_bytes, sent_rows, sent_told}
use Rattle.fact_fields.specs.Tunnels.{Held, IsPlainBypass, IsUntold, TunnelOf, bypass_bytes, bypass_parts, bypass_told, ids_bytes, ids_parts, ids_told, noted_bytes, noted_parts, noted_told, plain_bypass_bytes, plain_bypass_parts, plain_bypass_told, tunnel_bytes, tunnel_parts, tunnel_told}
use Rattle.fact_fields.specs.declared.sent.Refreshed.{Refreshed}
use Rattle.fact_fields.specs.declared.sent.Refreshed.TheVariants as kept

-- what has a spelling among the parts of a key, and their bytes
abbrev pub KeyPartsFit : KeyOf → Type 0
KeyPartsFit = PairFits HasOctets (PairFits IsShort (PairFits HasOctets (PairFits HasOctets IsShort)))

abbrev pub key_part_bytes : KeyOf → List ℕ
key_part_bytes = pair_bytes ipv4_octets (pair_bytes short_bytes (pair_bytes ipv4_octets (pair_bytes ipv4_octets short_bytes)))

pub one_key : IsOne KeyFits key_bytes
one_key = one_made IsAny key_parts key_bytes (PairFits HasOctets (PairFits IsShort (PairFits HasOctets (PairFits HasOctets IsShort))))
    (pair_bytes ipv4_octets (pair_bytes short_bytes (pair_bytes ipv4_octets (pair_bytes ipv4_octets short_bytes)))) key_told (λ k. refl)
    (one_pair HasOctets (PairFits IsShort (PairFits HasOctets (PairFits HasOctets IsShort))) ipv4_octets (pair_bytes short_bytes (pair_bytes ipv4_octets (pair_bytes ipv4_octets short_bytes))) one_address
    (one_pair IsShort (PairFits HasOctets (PairFits HasOctets IsShort)) short_bytes (pair_bytes ipv4_octets (pair_bytes ipv4_octets short_bytes)) one_short
    (one_pair HasOctets (PairFits HasOctets IsShort) ipv4_octets (pair_bytes ipv4_octets short_bytes) one_address (one_pair HasOctets IsShort ipv4_octets short_bytes one_address one_short))))

-- what has a spelling among the parts of a Resv that is kept alive, and their bytes
abbrev pub UpstreamPartsFit : Key × (Ipv4Addr × (ℕ × Ipv4Addr)) → Type 0
UpstreamPartsFit = PairFits KeyFits (PairFits HasOctets (PairFits IsShort HasOctets))

abbrev pub upstream_part_bytes : Key × (Ipv4Addr × (ℕ × Ipv4Addr)) → List ℕ
upstream_part_bytes = pair_bytes key_bytes (pair_bytes ipv4_octets (pair_bytes short_bytes ipv4_octets))

pub one_upstream : IsOne UpstreamFits upstream_bytes
one_upstream = one_made IsAny upstream_parts upstream_bytes (PairFits KeyFits (PairFits HasOctets (PairFits IsShort HasOctets))) (pair_bytes key_bytes (pair_bytes ipv4_octets (pair_bytes short_bytes ipv4_octets)))
    upstream_told (λ u. refl)
    (one_pair KeyFits (PairFits HasOctets (PairFits IsShort HasOctets)) key_bytes (pair_bytes ipv4_octets (pair_bytes short_bytes ipv4_octets)) one_key
    (one_pair HasOctets (PairFits IsShort HasOctets) ipv4_octets (pair_bytes short_bytes ipv4_octets) one_address (one_pair IsShort HasOctets short_bytes ipv4_octets one_short one_address)))

pub one_assignment : IsOne AssignmentFits assignment_bytes
one_assignment = one_made IsAny assignment_parts assignment_bytes (PairFits IsShort IsLong) (pair_bytes short_bytes long_bytes) assignment_told (λ a. refl) (one_pair IsShort IsLong short_bytes long_bytes one_short one_long)

pub one_bypass : IsOne BypassFits bypass_bytes
one_bypass = one_made IsAny bypass_parts bypass_bytes (PairFits IsShort (PairFits IsShort IsLong)) (pair_bytes short_bytes (pair_bytes short_bytes long_bytes)) bypass_told (λ b. refl)
    (one_pair IsShort (PairFits IsShort IsLong) short_bytes (pair_bytes short_bytes long_bytes) one_short (one_pair IsShort IsLong short_bytes long_bytes one_short one_long))

pub one_plain_bypass : IsOne PlainBypassFits plain_bypass_bytes
one_plain_bypass = one_made IsPlainBypass plain_bypass_parts plain_bypass_bytes (PairFits IsShort IsShort) (pair_bytes short_bytes short_bytes) plain_bypass_told (λ b. refl)
    (one_pair IsShort IsShort short_bytes short_bytes one_short one_short)

pub one_noted : IsOne NotedFits noted_bytes
one_noted = one_made IsAny noted_parts noted_bytes (PairFits HasOctets (PairFits IsByte IsShort)) (pair_bytes ipv4_octets (pair_bytes byte_bytes short_bytes)) noted_told (λ n. refl)
    (one_pair HasOctets (PairFits IsByte IsShort) ipv4_octets (pair_bytes byte_bytes short_bytes) one_address (one_pair IsByte IsShort byte_bytes short_bytes one_byte one_short))

pub one_ids : IsOne IdsFit ids_bytes
one_ids = one_made IsAny ids_parts ids_bytes (PairFits IsShort (PairFits IsShort (PairFits IsShort (OptionFits NotedFits))))
    (pair_bytes short_bytes (pair_bytes short_bytes (pair_bytes short_bytes (option_bytes noted_bytes)))) ids_told (λ i. refl)
    (one_pair IsShort (PairFits IsShort (PairFits IsShort (OptionFits NotedFits))) short_bytes (pair_bytes short_bytes (pair_bytes short_bytes (option_bytes noted_bytes))) one_short
    (one_pair IsShort (PairFits IsShort (OptionFits NotedFits)) short_bytes (pair_bytes short_bytes (option_bytes noted_bytes)) one_short
    (one_pair IsShort (OptionFits NotedFits) short_bytes (option_bytes noted_bytes) one_short (one_option NotedFits noted_bytes one_noted))))

abbrev pub held_part_bytes : Held → List ℕ
held_part_bytes = pair_bytes same_traffic (pair_bytes attr_bytes (pair_bytes (option_bytes fast_reroute_body) ids_bytes))

one_held : IsOne HeldFits held_part_bytes
one_held = one_pair TrafficFits (PairFits AttrFits (PairFits (OptionFits ProtectionFits) IdsFit)) same_traffic (pair_bytes attr_bytes (pair_bytes (option_bytes fast_reroute_body) ids_bytes)) one_traffic
    (one_pair AttrFits (PairFits (OptionFits ProtectionFits) IdsFit) attr_bytes (pair_bytes (option_bytes fast_reroute_body) ids_bytes) one_attr
    (one_pair (OptionFits ProtectionFits) IdsFit (option_bytes fast_reroute_body) ids_bytes (one_option ProtectionFits fast_reroute_body one_protection) one_ids))

abbrev pub tunnel_part_bytes : TunnelOf → List ℕ
tunnel_part_bytes = pair_bytes ipv4_octets (pair_bytes route_bytes held_part_bytes)

pub one_tunnel_parts : IsOne TunnelPartsFit tunnel_part_bytes
one_tunnel_parts = one_pair HasOctets (PairFits RouteFits HeldFits) ipv4_octets (pair_bytes route_bytes held_part_bytes) one_address
    (one_pair RouteFits HeldFits route_bytes held_part_bytes one_route one_held)

pub one_tunnel : IsOne TunnelFits tunnel_bytes
one_tunnel = one_made IsUntold tunnel_parts tunnel_bytes TunnelPartsFit tunnel_part_bytes tunnel_told (λ t. refl) one_tunnel_parts

-- ---- what is kept alive

abbrev LinkRowFits : Key × ℕ → Type 0
LinkRowFits = PairFits KeyFits IsShort

abbrev link_row_bytes : Key × ℕ → List ℕ
link_row_bytes x = pair_bytes key_bytes short_bytes x

one_link_row : IsOne LinkRowFits link_row_bytes
one_link_row = one_pair KeyFits IsShort key_bytes short_bytes one_key one_short

abbrev later_tag : OneOf (Key × ℕ) Upstream → ℕ
later_tag x = both_tag 1 no_tag no_tag x

abbrev later_fields : OneOf (Key × ℕ) Upstream → List ℕ
later_fields x = both_fields link_row_bytes upstream_bytes x

abbrev LaterFits : OneOf (Key × ℕ) Upstream → Type 0
LaterFits = BothFit 1 no_tag LinkRowFits UpstreamFits

one_later : IsOneCase LaterFits later_tag later_fields
one_later = one_both 1 LinkRowFits UpstreamFits no_tag no_tag link_row_bytes upstream_bytes (one_only LinkRowFits link_row_bytes one_link_row) (one_only UpstreamFits upstream_bytes one_upstream)

abbrev kept_tag : OneOf (Key × ℕ) (OneOf (Key × ℕ) Upstream) → ℕ
kept_tag x = both_tag 1 no_tag later_tag x

abbrev kept_fields : OneOf (Key × ℕ) (OneOf (Key × ℕ) Upstream) → List ℕ
kept_fields x = both_fields link_row_bytes later_fields x

one_kept : IsOneCase (BothFit 1 no_tag LinkRowFits LaterFits) kept_tag kept_fields
one_kept = one_both 1 LinkRowFits LaterFits no_tag later_tag link_row_bytes later_fields (one_only LinkRowFits link_row_bytes one_link_row) one_later

-- the parts of what is kept alive have a spelling
abbrev pub RefreshedPartsFit : OneOf (Key × ℕ) (OneOf (Key × ℕ) Upstream) → Type 0
RefreshedPartsFit = BothFit 1 no_tag LinkRowFits LaterFits

abbrev pub refreshed_part_bytes : OneOf (Key × ℕ) (OneOf (Key × ℕ) Upstream) → List ℕ
refreshed_part_bytes = choice_bytes 1 kept_tag kept_fields

pub refreshed_spelled : (r : Refreshed) → refreshed_bytes r ≡ refreshed_part_bytes (refreshed_parts r)
refreshed_spelled (kept.Path (items.Down key link)) = refl
refreshed_spelled (kept.Path (items.Backup key bypass)) = refl
refreshed_spelled (kept.Resv upstream) = refl

pub one_refreshed : IsOne RefreshedFits refreshed_bytes
one_refreshed = one_made IsAny refreshed_parts refreshed_bytes (BothFit 1 no_tag LinkRowFits LaterFits) (choice_bytes 1 kept_tag kept_fields) refreshed_told refreshed_spelled
    (one_choice 1 (BothFit 1 no_tag LinkRowFits LaterFits) kept_tag kept_fields one_kept)

pub one_sent : IsOne SentFits sent_bytes
one_sent = one_made IsSent sent_rows sent_bytes (ListFits (PairFits RefreshedFits IsLong)) (list_bytes sent_row_bytes) sent_told (λ s. refl)
    (one_list (PairFits RefreshedFits IsLong) sent_row_bytes (one_pair RefreshedFits IsLong refreshed_bytes long_bytes one_refreshed one_long))
