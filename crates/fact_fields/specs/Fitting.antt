-- What has a spelling: numbers within their widths, lists that can be counted, tables whose keys rise.
use Rattle.std.specs.Prelude.{ℕ, Bool, List}
use Rattle.std.specs.declared.cmp.Ordering.{Ordering}
use Rattle.std.specs.declared.net.ipv4_addr.Ipv4Addr.{Ipv4Addr}
use Rattle.field_bytes.specs.CaseLaws.{BothFit, no_tag}
use Rattle.field_bytes.specs.Making.{MadeFits}
use Rattle.field_bytes.specs.OptionLaws.{OptionFits}
use Rattle.field_bytes.specs.PairLaws.{PairFits}
use Rattle.field_bytes.specs.Spelling.{IsCountable, ListFits}
use Rattle.rsvp_bodies.specs.declared.trace.Trace.{Trace}
use Rattle.rsvp_objects.specs.Raw.{Raw}
use Rattle.lsr_facts.specs.Orders.{address_cmp}
use Rattle.lsr_facts.specs.Reservations.{style_bits}
use Rattle.lsr_facts.specs.declared.assignment.Assignment.{Assignment}
use Rattle.lsr_facts.specs.declared.bypass.Bypass.{Bypass}
use Rattle.lsr_facts.specs.declared.key.Key.{Key}
use Rattle.lsr_facts.specs.declared.path_fact.Origin.{Origin}
use Rattle.lsr_facts.specs.declared.path_fact.PathFact.{PathFact}
use Rattle.lsr_facts.specs.declared.path_fact.Role.{Role}
use Rattle.lsr_facts.specs.declared.path_fact.Via.{Via}
use Rattle.lsr_facts.specs.declared.repair.Repair.{Repair}
use Rattle.lsr_facts.specs.declared.resv_fact.ResvFact.{ResvFact}
use Rattle.lsr_facts.specs.declared.resv_fact.ResvStyle.{ResvStyle}
use Rattle.lsr_facts.specs.declared.tunnel.Noted.{Noted}
use Rattle.lsr_facts.specs.declared.tunnel.Tunnel.{Tunnel}
use Rattle.lsr_facts.specs.declared.upstream.Upstream.{Upstream}
use Rattle.body_fields.specs.Passing.{IsOpaque, opaque_parts, same_passing}
use Rattle.body_fields.specs.Routes.{FitsRecord, same_record}
use Rattle.body_fields.specs.Traces.{IsKeptTrace, trace_parts}
use Rattle.event_fields.specs.Fitting.{AttrFits, HasOctets, IsByte, IsLong, IsShort, IsWord, PrefixFits, ProtectionFits, RouteFits, TrafficFits}
use Rattle.fact_fields.specs.Keys.{key_parts, upstream_parts}
use Rattle.fact_fields.specs.Origins.{origin_parts, via_parts}
use Rattle.fact_fields.specs.Paths.{AskedOf, PathOf, path_parts, request_parts, role_number, way_parts}
use Rattle.fact_fields.specs.declared.paths.PathRequest.{PathRequest}
use Rattle.fact_fields.specs.declared.paths.PathWay.{PathWay}
use Rattle.fact_fields.specs.declared.resvs.ResvEnd.{ResvEnd}
use Rattle.fact_fields.specs.declared.tunnels.TunnelIds.{TunnelIds}
use Rattle.fact_fields.specs.Resvs.{RepairOf, Repaired, ResvOf, assignment_parts, end_parts, repair_parts, resv_parts}
use Rattle.fact_fields.specs.Sent.{IsSent, refreshed_parts, sent_rows}
use Rattle.fact_fields.specs.Tables.{IsTable, same_rows}
use Rattle.fact_fields.specs.Tunnels.{Held, IsPlainBypass, IsUntold, TunnelOf, bypass_parts, ids_parts, noted_parts, plain_bypass_parts, tunnel_parts}
use Rattle.fact_fields.specs.declared.sent.Refreshed.{Refreshed}
use Rattle.fact_fields.specs.declared.sent.Sent.{Sent}

-- any value
abbrev pub IsAny : {A : Type 0} → A → Type 0
IsAny x = Unit {0}

-- a table: its keys rise, its rows can be counted, and each has a spelling
abbrev pub TableFits : {K V : Type 0} → (K → K → Ordering) → (K × V → Type 0) → List (K × V) → Type 0
TableFits cmp RowFits = MadeFits (IsTable cmp) same_rows (ListFits RowFits)

-- ---- keys

abbrev pub KeyFits : Key → Type 0
KeyFits = MadeFits IsAny key_parts (PairFits HasOctets (PairFits IsShort (PairFits HasOctets (PairFits HasOctets IsShort))))

abbrev pub UpstreamFits : Upstream → Type 0
UpstreamFits = MadeFits IsAny upstream_parts (PairFits KeyFits (PairFits HasOctets (PairFits IsShort HasOctets)))

-- ---- records, and objects that are passed on

abbrev pub TraceFits : Trace → Type 0
TraceFits = MadeFits IsKeptTrace trace_parts (BothFit 2 no_tag (PairFits PrefixFits IsByte) (BothFit 252 no_tag (PairFits IsByte IsWord) (λ (bytes : List ℕ). IsCountable bytes)))

abbrev pub RecordFits : List Trace → Type 0
RecordFits = MadeFits FitsRecord same_record (ListFits TraceFits)

abbrev pub OpaqueFits : Raw → Type 0
OpaqueFits = MadeFits IsOpaque opaque_parts (PairFits IsByte (PairFits IsByte (λ (bytes : List ℕ). IsCountable bytes)))

abbrev pub PassingFits : List Raw → Type 0
PassingFits = MadeFits IsAny same_passing (ListFits OpaqueFits)

-- ---- paths

abbrev pub ViaFits : Via → Type 0
ViaFits = MadeFits IsAny via_parts (PairFits IsByte IsShort)

abbrev pub OriginFits : Origin → Type 0
OriginFits = MadeFits IsAny origin_parts (PairFits ViaFits (PairFits HasOctets (PairFits IsWord IsLong)))

abbrev pub OriginsFit : List (Ipv4Addr × Origin) → Type 0
OriginsFit = TableFits address_cmp (PairFits HasOctets OriginFits)

abbrev pub RoleFits : Role → Type 0
RoleFits = MadeFits IsAny role_number IsByte

abbrev pub AskedFits : AskedOf → Type 0
AskedFits = PairFits (OptionFits AttrFits) (PairFits (OptionFits ProtectionFits) PassingFits)

abbrev pub RequestFits : PathRequest → Type 0
RequestFits = MadeFits IsAny request_parts (PairFits IsShort (PairFits TrafficFits AskedFits))

abbrev pub WayFits : PathWay → Type 0
WayFits = MadeFits IsAny way_parts (PairFits (OptionFits RouteFits) (PairFits (OptionFits RouteFits) (OptionFits RecordFits)))

abbrev pub PathPartsFit : PathOf → Type 0
PathPartsFit = PairFits RoleFits (PairFits OriginsFit (PairFits IsShort (PairFits WayFits RequestFits)))

abbrev pub PathFits : PathFact → Type 0
PathFits = MadeFits IsAny path_parts PathPartsFit

-- ---- reservations, repairs and promises

abbrev pub StyleFits : ResvStyle → Type 0
StyleFits = MadeFits IsAny style_bits IsByte

abbrev pub EndFits : ResvEnd → Type 0
EndFits = MadeFits IsAny end_parts (PairFits (OptionFits RecordFits) (PairFits PassingFits IsLong))

abbrev pub ResvPartsFit : ResvOf → Type 0
ResvPartsFit = PairFits IsShort (PairFits StyleFits (PairFits TrafficFits (PairFits IsWord EndFits)))

abbrev pub ResvFits : ResvFact → Type 0
ResvFits = MadeFits IsAny resv_parts ResvPartsFit

abbrev pub RepairedFits : Repaired → Type 0
RepairedFits = PairFits (λ (is_nnhop : Bool). Unit {0}) (PairFits StyleFits (PairFits TrafficFits EndFits))

abbrev pub RepairPartsFit : RepairOf → Type 0
RepairPartsFit = PairFits IsShort (PairFits IsShort (PairFits IsWord RepairedFits))

abbrev pub RepairFits : Repair → Type 0
RepairFits = MadeFits IsAny repair_parts RepairPartsFit

abbrev pub AssignmentFits : Assignment → Type 0
AssignmentFits = MadeFits IsAny assignment_parts (PairFits IsShort IsLong)

-- ---- tunnels and bypasses

abbrev pub NotedFits : Noted → Type 0
NotedFits = MadeFits IsAny noted_parts (PairFits HasOctets (PairFits IsByte IsShort))

abbrev pub IdsFit : TunnelIds → Type 0
IdsFit = MadeFits IsAny ids_parts (PairFits IsShort (PairFits IsShort (PairFits IsShort (OptionFits NotedFits))))

abbrev pub HeldFits : Held → Type 0
HeldFits = PairFits TrafficFits (PairFits AttrFits (PairFits (OptionFits ProtectionFits) IdsFit))

abbrev pub TunnelPartsFit : TunnelOf → Type 0
TunnelPartsFit = PairFits HasOctets (PairFits RouteFits HeldFits)

abbrev pub TunnelFits : Tunnel → Type 0
TunnelFits = MadeFits IsUntold tunnel_parts TunnelPartsFit

abbrev pub BypassFits : Bypass → Type 0
BypassFits = MadeFits IsAny bypass_parts (PairFits IsShort (PairFits IsShort IsLong))

abbrev pub PlainBypassFits : Bypass → Type 0
PlainBypassFits = MadeFits IsPlainBypass plain_bypass_parts (PairFits IsShort IsShort)

-- ---- what is kept alive

abbrev pub RefreshedFits : Refreshed → Type 0
RefreshedFits = MadeFits IsAny refreshed_parts (BothFit 1 no_tag (PairFits KeyFits IsShort) (BothFit 1 no_tag (PairFits KeyFits IsShort) UpstreamFits))

abbrev pub SentFits : Sent → Type 0
SentFits = MadeFits IsSent sent_rows (ListFits (PairFits RefreshedFits IsLong))
