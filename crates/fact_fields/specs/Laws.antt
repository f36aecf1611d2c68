-- No bytes begin with two values of a kind.
use Rattle.std.specs.Prelude.{◌≡◌, ℕ, List, refl}
use Rattle.std.specs.Net.Addr.{ipv4_octets}
use Rattle.std.specs.declared.cmp.Ordering.{Ordering}
use Rattle.std.specs.declared.net.ipv4_addr.Ipv4Addr.{Ipv4Addr}
use Rattle.field_bytes.specs.CaseLaws.{BothFit, IsOneCase, both_fields, both_tag, choice_bytes, no_tag, one_both, one_choice, one_only}
use Rattle.field_bytes.specs.ListLaws.{one_list, one_octets}
use Rattle.field_bytes.specs.Making.{one_made}
use Rattle.field_bytes.specs.NumberLaws.{one_address, one_byte, one_flag, one_long, one_short, one_word}
use Rattle.field_bytes.specs.OptionLaws.{OptionFits, one_option, option_bytes}
use Rattle.field_bytes.specs.PairLaws.{PairFits, one_pair, pair_bytes}
use Rattle.field_bytes.specs.Spelling.{IsOne, ListFits, list_bytes, octet_bytes}
use Rattle.field_bytes.specs.declared.cases.OneOf.{OneOf}
use Rattle.rsvp_bodies.specs.declared.prefix.Prefix.{Prefix}
use Rattle.rsvp_bodies.specs.declared.trace.Trace.{Trace}
use Rattle.rsvp_bodies.specs.declared.trace.Trace.TheVariants as traces
use Rattle.rsvp_objects.specs.Values.{fast_reroute_body}
use Rattle.lsr_facts.specs.Orders.{address_cmp}
use Rattle.lsr_facts.specs.Reservations.{style_bits}
use Rattle.lsr_facts.specs.declared.path_fact.Via.{Via}
use Rattle.lsr_facts.specs.declared.path_fact.Via.TheVariants as vias
use Rattle.journal_bytes.specs.Events.{attr_bytes, prefix_bytes, route_bytes}
use Rattle.body_fields.specs.Passing.{IsOpaque, opaque_bytes, opaque_parts, opaque_told, passing_bytes, same_passing}
use Rattle.body_fields.specs.Routes.{FitsRecord, record_bytes, same_record, trace_bytes}
use Rattle.body_fields.specs.Traces.{IsKeptTrace, trace_parts, trace_told}
use Rattle.body_fields.specs.Traffic.{same_traffic}
use Rattle.event_fields.specs.Fitting.{AttrFits, HasOctets, IsByte, IsLong, IsShort, IsWord, PrefixFits, ProtectionFits, RouteFits, TrafficFits}
use Rattle.event_fields.specs.Laws.{Counts, byte_bytes, flag_bytes, long_bytes, one_attr, one_prefix, one_protection, one_route, one_traffic, short_bytes, word_bytes}
use Rattle.fact_fields.specs.Fitting.{AskedFits, EndFits, IsAny, OpaqueFits, OriginFits, OriginsFit, PassingFits, PathFits, RecordFits, RepairFits, RepairedFits, RequestFits, ResvFits, RoleFits, StyleFits, TableFits, TraceFits, ViaFits, WayFits}
use Rattle.fact_fields.specs.Origins.{origin_bytes, origin_parts, origin_row_bytes, origin_told, via_bytes, via_parts, via_told}
use Rattle.fact_fields.specs.Paths.{AskedOf, PathOf, RequestOf, WayOf, path_bytes, path_parts, path_told, request_bytes, request_parts, request_told, role_bytes, role_number, role_told, way_bytes, way_parts, way_told}
use Rattle.fact_fields.specs.Resvs.{RepairOf, Repaired, ResvOf, end_bytes, end_parts, end_told, repair_bytes, repair_parts, repair_told, resv_bytes, resv_parts, resv_told, style_bytes, style_told}
use Rattle.fact_fields.specs.Tables.{IsTable, same_rows}

-- a table of rows of a kind
pub one_table : {K V : Type 0} (cmp : K → K → Ordering) (RowFits : K × V → Type 0) (row_bytes : K × V → List ℕ) → IsOne RowFits row_bytes → IsOne (TableFits cmp RowFits) (list_bytes row_bytes)
one_table cmp RowFits row_bytes own =
    one_made (IsTable cmp) same_rows (list_bytes row_bytes) (ListFits RowFits) (list_bytes row_bytes) (λ x y _ _ e. e) (λ rows. refl) (one_list RowFits row_bytes own)

-- ---- records, and objects that are passed on

abbrev ipv4_trace_bytes : Prefix × ℕ → List ℕ
ipv4_trace_bytes x = pair_bytes prefix_bytes byte_bytes x

abbrev label_trace_bytes : ℕ × ℕ → List ℕ
label_trace_bytes x = pair_bytes byte_bytes word_bytes x

abbrev kept_tag : OneOf (ℕ × ℕ) (List ℕ) → ℕ
kept_tag x = both_tag 252 no_tag no_tag x

abbrev trace_tag : OneOf (Prefix × ℕ) (OneOf (ℕ × ℕ) (List ℕ)) → ℕ
trace_tag x = both_tag 2 no_tag kept_tag x

abbrev kept_fields : OneOf (ℕ × ℕ) (List ℕ) → List ℕ
kept_fields x = both_fields label_trace_bytes octet_bytes x

abbrev trace_fields : OneOf (Prefix × ℕ) (OneOf (ℕ × ℕ) (List ℕ)) → List ℕ
trace_fields x = both_fields ipv4_trace_bytes kept_fields x

abbrev KeptFits : OneOf (ℕ × ℕ) (List ℕ) → Type 0
KeptFits = BothFit 252 no_tag (PairFits IsByte IsWord) Counts

trace_spelled : (trace : Trace) → trace_bytes trace ≡ choice_bytes 1 trace_tag trace_fields (trace_parts trace)
trace_spelled (traces.Ipv4 prefix flags) = refl
trace_spelled (traces.Label flags label) = refl
trace_spelled (traces.Other bytes) = refl

one_kept_case : IsOneCase KeptFits kept_tag kept_fields
one_kept_case = one_both 252 (PairFits IsByte IsWord) Counts no_tag no_tag label_trace_bytes octet_bytes
    (one_only (PairFits IsByte IsWord) label_trace_bytes (one_pair IsByte IsWord byte_bytes word_bytes one_byte one_word))
    (one_only Counts octet_bytes one_octets)

one_trace_case : IsOneCase (BothFit 2 no_tag (PairFits PrefixFits IsByte) KeptFits) trace_tag trace_fields
one_trace_case = one_both 2 (PairFits PrefixFits IsByte) KeptFits no_tag kept_tag ipv4_trace_bytes kept_fields
    (one_only (PairFits PrefixFits IsByte) ipv4_trace_bytes (one_pair PrefixFits IsByte prefix_bytes byte_bytes one_prefix one_byte))
    one_kept_case

one_trace : IsOne TraceFits trace_bytes
one_trace = one_made IsKeptTrace trace_parts trace_bytes (BothFit 2 no_tag (PairFits PrefixFits IsByte) KeptFits) (choice_bytes 1 trace_tag trace_fields) trace_told trace_spelled
    (one_choice 1 (BothFit 2 no_tag (PairFits PrefixFits IsByte) KeptFits) trace_tag trace_fields one_trace_case)

pub one_record : IsOne RecordFits record_bytes
one_record = one_made FitsRecord same_record record_bytes (ListFits TraceFits) (list_bytes trace_bytes) (λ x y _ _ e. e) (λ r. refl) (one_list TraceFits trace_bytes one_trace)

one_opaque : IsOne OpaqueFits opaque_bytes
one_opaque = one_made IsOpaque opaque_parts opaque_bytes (PairFits IsByte (PairFits IsByte Counts)) (pair_bytes byte_bytes (pair_bytes byte_bytes octet_bytes)) opaque_told (λ o. refl)
    (one_pair IsByte (PairFits IsByte Counts) byte_bytes (pair_bytes byte_bytes octet_bytes) one_byte (one_pair IsByte Counts byte_bytes octet_bytes one_byte one_octets))

pub one_passing : IsOne PassingFits passing_bytes
one_passing = one_made IsAny same_passing passing_bytes (ListFits OpaqueFits) (list_bytes opaque_bytes) (λ x y _ _ e. e) (λ p. refl) (one_list OpaqueFits opaque_bytes one_opaque)

-- ---- paths

pub one_role : IsOne RoleFits role_bytes
one_role = one_made IsAny role_number role_bytes IsByte byte_bytes role_told (λ r. refl) one_byte

pub via_spelled : (via : Via) → via_bytes via ≡ pair_bytes byte_bytes short_bytes (via_parts via)
via_spelled (vias.Link number) = refl
via_spelled vias.Stack = refl

abbrev pub ViaPartsFit : ℕ × ℕ → Type 0
ViaPartsFit = PairFits IsByte IsShort

abbrev pub via_part_bytes : ℕ × ℕ → List ℕ
via_part_bytes = pair_bytes byte_bytes short_bytes

pub one_via_parts : IsOne ViaPartsFit via_part_bytes
one_via_parts = one_pair IsByte IsShort byte_bytes short_bytes one_byte one_short

pub one_via : IsOne ViaFits via_bytes
one_via = one_made IsAny via_parts via_bytes (PairFits IsByte IsShort) (pair_bytes byte_bytes short_bytes) via_told via_spelled (one_pair IsByte IsShort byte_bytes short_bytes one_byte one_short)

abbrev pub OriginPartsFit : Via × (Ipv4Addr × (ℕ × ℕ)) → Type 0
OriginPartsFit = PairFits ViaFits (PairFits HasOctets (PairFits IsWord IsLong))

abbrev pub origin_part_bytes : Via × (Ipv4Addr × (ℕ × ℕ)) → List ℕ
origin_part_bytes = pair_bytes via_bytes (pair_bytes ipv4_octets (pair_bytes word_bytes long_bytes))

pub one_origin : IsOne OriginFits origin_bytes
one_origin = one_made IsAny origin_parts origin_bytes (PairFits ViaFits (PairFits HasOctets (PairFits IsWord IsLong))) (pair_bytes via_bytes (pair_bytes ipv4_octets (pair_bytes word_bytes long_bytes)))
    origin_told (λ o. refl)
    (one_pair ViaFits (PairFits HasOctets (PairFits IsWord IsLong)) via_bytes (pair_bytes ipv4_octets (pair_bytes word_bytes long_bytes)) one_via
    (one_pair HasOctets (PairFits IsWord IsLong) ipv4_octets (pair_bytes word_bytes long_bytes) one_address (one_pair IsWord IsLong word_bytes long_bytes one_word one_long)))

pub one_origins : IsOne OriginsFit (list_bytes origin_row_bytes)
one_origins = one_table address_cmp (PairFits HasOctets OriginFits) origin_row_bytes (one_pair HasOctets OriginFits ipv4_octets origin_bytes one_address one_origin)

abbrev pub WayPartsFit : WayOf → Type 0
WayPartsFit = PairFits (OptionFits RouteFits) (PairFits (OptionFits RouteFits) (OptionFits RecordFits))

abbrev pub way_part_bytes : WayOf → List ℕ
way_part_bytes = pair_bytes (option_bytes route_bytes) (pair_bytes (option_bytes route_bytes) (option_bytes record_bytes))

pub one_way : IsOne WayFits way_bytes
one_way = one_made IsAny way_parts way_bytes (PairFits (OptionFits RouteFits) (PairFits (OptionFits RouteFits) (OptionFits RecordFits)))
    (pair_bytes (option_bytes route_bytes) (pair_bytes (option_bytes route_bytes) (option_bytes record_bytes))) way_told (λ w. refl)
    (one_pair (OptionFits RouteFits) (PairFits (OptionFits RouteFits) (OptionFits RecordFits)) (option_bytes route_bytes) (pair_bytes (option_bytes route_bytes) (option_bytes record_bytes))
    (one_option RouteFits route_bytes one_route)
    (one_pair (OptionFits RouteFits) (OptionFits RecordFits) (option_bytes route_bytes) (option_bytes record_bytes) (one_option RouteFits route_bytes one_route) (one_option RecordFits record_bytes one_record)))

abbrev pub asked_part_bytes : AskedOf → List ℕ
asked_part_bytes = pair_bytes (option_bytes attr_bytes) (pair_bytes (option_bytes fast_reroute_body) passing_bytes)

pub one_asked : IsOne AskedFits asked_part_bytes
one_asked = one_pair (OptionFits AttrFits) (PairFits (OptionFits ProtectionFits) PassingFits) (option_bytes attr_bytes) (pair_bytes (option_bytes fast_reroute_body) passing_bytes)
    (one_option AttrFits attr_bytes one_attr)
    (one_pair (OptionFits ProtectionFits) PassingFits (option_bytes fast_reroute_body) passing_bytes (one_option ProtectionFits fast_reroute_body one_protection) one_passing)

abbrev pub RequestPartsFit : RequestOf → Type 0
RequestPartsFit = PairFits IsShort (PairFits TrafficFits AskedFits)

abbrev pub request_part_bytes : RequestOf → List ℕ
request_part_bytes = pair_bytes short_bytes (pair_bytes same_traffic asked_part_bytes)

pub one_request : IsOne RequestFits request_bytes
one_request = one_made IsAny request_parts request_bytes
    (PairFits IsShort (PairFits TrafficFits (PairFits (OptionFits AttrFits) (PairFits (OptionFits ProtectionFits) PassingFits))))
    (pair_bytes short_bytes (pair_bytes same_traffic (pair_bytes (option_bytes attr_bytes) (pair_bytes (option_bytes fast_reroute_body) passing_bytes)))) request_told (λ q. refl)
    (one_pair IsShort (PairFits TrafficFits (PairFits (OptionFits AttrFits) (PairFits (OptionFits ProtectionFits) PassingFits)))
    short_bytes (pair_bytes same_traffic (pair_bytes (option_bytes attr_bytes) (pair_bytes (option_bytes fast_reroute_body) passing_bytes))) one_short
    (one_pair TrafficFits (PairFits (OptionFits AttrFits) (PairFits (OptionFits ProtectionFits) PassingFits))
    same_traffic (pair_bytes (option_bytes attr_bytes) (pair_bytes (option_bytes fast_reroute_body) passing_bytes)) one_traffic
    (one_pair (OptionFits AttrFits) (PairFits (OptionFits ProtectionFits) PassingFits) (option_bytes attr_bytes) (pair_bytes (option_bytes fast_reroute_body) passing_bytes) (one_option AttrFits attr_bytes one_attr)
    (one_pair (OptionFits ProtectionFits) PassingFits (option_bytes fast_reroute_body) passing_bytes (one_option ProtectionFits fast_reroute_body one_protection) one_passing))))

abbrev pub path_part_bytes : PathOf → List ℕ
path_part_bytes = pair_bytes role_bytes (pair_bytes (list_bytes origin_row_bytes) (pair_bytes short_bytes (pair_bytes way_bytes request_bytes)))

pub one_path : IsOne PathFits path_bytes
one_path = one_made IsAny path_parts path_bytes (PairFits RoleFits (PairFits OriginsFit (PairFits IsShort (PairFits WayFits RequestFits))))
    path_part_bytes path_told (λ p. refl)
    (one_pair RoleFits (PairFits OriginsFit (PairFits IsShort (PairFits WayFits RequestFits))) role_bytes (pair_bytes (list_bytes origin_row_bytes) (pair_bytes short_bytes (pair_bytes way_bytes request_bytes))) one_role
    (one_pair OriginsFit (PairFits IsShort (PairFits WayFits RequestFits)) (list_bytes origin_row_bytes) (pair_bytes short_bytes (pair_bytes way_bytes request_bytes)) one_origins
    (one_pair IsShort (PairFits WayFits RequestFits) short_bytes (pair_bytes way_bytes request_bytes) one_short (one_pair WayFits RequestFits way_bytes request_bytes one_way one_request))))

-- ---- reservations and repairs

pub one_style : IsOne StyleFits style_bytes
one_style = one_made IsAny style_bits style_bytes IsByte byte_bytes style_told (λ s. refl) one_byte

pub one_end : IsOne EndFits end_bytes
one_end = one_made IsAny end_parts end_bytes (PairFits (OptionFits RecordFits) (PairFits PassingFits IsLong)) (pair_bytes (option_bytes record_bytes) (pair_bytes passing_bytes long_bytes)) end_told (λ e. refl)
    (one_pair (OptionFits RecordFits) (PairFits PassingFits IsLong) (option_bytes record_bytes) (pair_bytes passing_bytes long_bytes) (one_option RecordFits record_bytes one_record)
    (one_pair PassingFits IsLong passing_bytes long_bytes one_passing one_long))

abbrev pub resv_part_bytes : ResvOf → List ℕ
resv_part_bytes = pair_bytes short_bytes (pair_bytes style_bytes (pair_bytes same_traffic (pair_bytes word_bytes end_bytes)))

pub one_resv : IsOne ResvFits resv_bytes
one_resv = one_made IsAny resv_parts resv_bytes (PairFits IsShort (PairFits StyleFits (PairFits TrafficFits (PairFits IsWord EndFits))))
    resv_part_bytes resv_told (λ v. refl)
    (one_pair IsShort (PairFits StyleFits (PairFits TrafficFits (PairFits IsWord EndFits))) short_bytes (pair_bytes style_bytes (pair_bytes same_traffic (pair_bytes word_bytes end_bytes))) one_short
    (one_pair StyleFits (PairFits TrafficFits (PairFits IsWord EndFits)) style_bytes (pair_bytes same_traffic (pair_bytes word_bytes end_bytes)) one_style
    (one_pair TrafficFits (PairFits IsWord EndFits) same_traffic (pair_bytes word_bytes end_bytes) one_traffic (one_pair IsWord EndFits word_bytes end_bytes one_word one_end))))

abbrev repaired_part_bytes : Repaired → List ℕ
repaired_part_bytes x = pair_bytes flag_bytes (pair_bytes style_bytes (pair_bytes same_traffic end_bytes)) x

one_repaired : IsOne RepairedFits repaired_part_bytes
one_repaired = one_pair IsAny (PairFits StyleFits (PairFits TrafficFits EndFits)) flag_bytes (pair_bytes style_bytes (pair_bytes same_traffic end_bytes)) one_flag
    (one_pair StyleFits (PairFits TrafficFits EndFits) style_bytes (pair_bytes same_traffic end_bytes) one_style (one_pair TrafficFits EndFits same_traffic end_bytes one_traffic one_end))

abbrev pub repair_part_bytes : RepairOf → List ℕ
repair_part_bytes = pair_bytes short_bytes (pair_bytes short_bytes (pair_bytes word_bytes repaired_part_bytes))

pub one_repair : IsOne RepairFits repair_bytes
one_repair = one_made IsAny repair_parts repair_bytes (PairFits IsShort (PairFits IsShort (PairFits IsWord RepairedFits)))
    repair_part_bytes repair_told (λ u. refl)
    (one_pair IsShort (PairFits IsShort (PairFits IsWord RepairedFits)) short_bytes (pair_bytes short_bytes (pair_bytes word_bytes repaired_part_bytes)) one_short
    (one_pair IsShort (PairFits IsWord RepairedFits) short_bytes (pair_bytes word_bytes repaired_part_bytes) one_short (one_pair IsWord RepairedFits word_bytes repaired_part_bytes one_word one_repaired)))
