-- The Resvs that the state wants kept alive upstream: at the neighbours, and at the heads of bypasses that end here (RFC
-- 2205, 3.1.4 and 3.7; RFC 3209, 2.2 and 4.4).
use Rattle.std.specs.Prelude.{ℕ, ◌+◌, ◌%◌, ◌/◌, ◌==◌, ◌++◌, Bool, true, false, if◌then◌else◌, List, [], ◌∷◌, filter_map, is_some, Option, Some, None}
use Rattle.std.specs.FinMap.Entries.{where_key}
use Rattle.std.specs.List.{flat_map}
use Rattle.std.specs.Option.{option_and_then, option_map, option_map_or, unwrap_or}
use Rattle.std.specs.declared.net.ipv4_addr.Ipv4Addr.{Ipv4Addr}
use Rattle.rsvp_contents.specs.declared.messages.Content.TheVariants as contents
use Rattle.rsvp_contents.specs.declared.messages.Resv.{Resv}
use Rattle.rsvp_objects.specs.Raw.{Raw}
use Rattle.rsvp_bodies.specs.declared.trace.Trace.{Trace}
use Rattle.rsvp_bodies.specs.declared.trace.Trace.TheVariants as traces
use Rattle.rsvp_bodies.specs.Traffic.{flowspec_of}
use Rattle.rsvp_bodies.specs.declared.attr.Attr.{Attr}
use Rattle.lsr_facts.specs.Orders.{key_cmp}
use Rattle.lsr_facts.specs.Origins.{number_of}
use Rattle.lsr_facts.specs.Routers.{link_at}
use Rattle.lsr_facts.specs.declared.assignment.Assignment.{Assignment}
use Rattle.lsr_facts.specs.declared.key.Key.{Key}
use Rattle.lsr_facts.specs.declared.path_fact.Origin.{Origin}
use Rattle.lsr_facts.specs.declared.path_fact.PathFact.{PathFact}
use Rattle.lsr_facts.specs.declared.path_fact.Via.{Via}
use Rattle.lsr_facts.specs.declared.path_fact.Via.TheVariants as vias
use Rattle.lsr_facts.specs.declared.router.Router.{Router}
use Rattle.lsr_facts.specs.declared.resv_fact.ResvFact.{ResvFact}
use Rattle.lsr_facts.specs.declared.resv_fact.ResvStyle.{ResvStyle}
use Rattle.lsr_facts.specs.declared.resv_fact.ResvStyle.TheVariants.{FixedFilter, SharedExplicit}
use Rattle.abstract_paths.specs.declared.events.Output.{Output}
use Rattle.abstract_paths.specs.Outcomes.{routed_by, sent_by}
use Rattle.abstract_paths.specs.Paths.{goes_on, short_only}
use Rattle.abstract_paths.specs.Places.{is_up}
use Rattle.abstract_paths.specs.Routing.{route_to}
use Rattle.lsr_facts.specs.Reservations.{style_word}
use Rattle.lsr_facts.specs.declared.upstream.Upstream.{Upstream}
use Rattle.abstract_router.specs.Lsps.{Around, Lsp, around_of, held_of, lsp_at, lsps_of}
use Rattle.abstract_router.specs.Protecting.{selected}
use Rattle.abstract_router.specs.States.{State}

-- the Path asks for its labels to be recorded (RFC 3209, 4.7.1: flag 0x02)
abbrev pub records_labels : Option Attr → Bool
records_labels attr = option_map_or (λ a. a.flags / 0x02 % 2 == 1) attr false

-- the Path asks for a reservation that its session shares (RFC 3209, 4.7.1: flag 0x04)
abbrev pub wants_sharing : Option Attr → Bool
wants_sharing attr = option_map_or (λ a. a.flags / 0x04 % 2 == 1) attr false

-- What a Resv says of an LSP: style, traffic, how this router protects the LSP, the route that the Resv took so far, and
-- what it passes on.
pub record Reserved : Type 0 where
  pub style : ResvStyle
  pub flowspec : List ℕ
  pub flags : ℕ
  pub recorded : List Trace
  pub passing : List Raw

-- Of an LSP that ends here the router itself reserves: in the style that the Path asks for, for its traffic (RFC 3209, 2.4).
abbrev pub reserved_by_end : PathFact → Reserved
reserved_by_end path = record {
  style = if wants_sharing path.attr then SharedExplicit else FixedFilter;
  flowspec = flowspec_of path.tspec;
  flags = 0;
  recorded = [];
  passing = [];
}

-- Of any other LSP, what its next hop reserved is passed on, also while the LSP is repaired.
abbrev pub reserved_by_next : ℕ → ResvFact → Reserved
reserved_by_next flags resv = record { style = resv.style; flowspec = resv.flowspec; flags = flags; recorded = unwrap_or resv.recorded []; passing = resv.passing }

-- how a bypass protects, in this router's own entry: local protection is available (0x01), in use (0x02), and protects the
-- next router too (0x08) (RFC 4090, 4.4)
abbrev pub protection_flags : Bool → Bool → ℕ
protection_flags in_use is_nnhop = 0x01 + (if in_use then 0x02 else 0) + (if is_nnhop then 0x08 else 0)

-- how an LSP is protected that is reserved: by the bypass over which it would be repaired, if there is one
abbrev pub flags_ready : Around → Key × Lsp → ResvFact → ℕ
flags_ready a lsp resv = option_map_or (λ choice. protection_flags false choice.is_nnhop) (selected a lsp.0 lsp.1.path lsp.1.assignment resv) 0

-- its bandwidth is protected too (0x04) where it is promised some of a bypass (RFC 4090, 4.4)
abbrev pub bandwidth_flag : Option Assignment → ℕ
bandwidth_flag given = if is_some given then 0x04 else 0

-- How this router protects an LSP: by the bypass over which it runs, or would run, and whether with bandwidth.
unfoldable pub own_flags : Around → Key × Lsp → ℕ
own_flags a lsp =
    option_map_or (flags_ready a lsp) lsp.1.resv (option_map_or (λ repair. protection_flags true repair.is_nnhop) lsp.1.repair 0)
    + bandwidth_flag lsp.1.assignment

-- what is said of an LSP to its origins, if it is reserved or repaired
abbrev pub reserved_for : Around → Key × Lsp → Option Reserved
reserved_for a lsp = if goes_on lsp.1.path.role then option_map (reserved_by_next (own_flags a lsp)) (held_of lsp.1) else Some (reserved_by_end lsp.1.path)

-- this router's label as a record says it: flag 0x01, since it holds on every link (RFC 3209, 4.4.1.3)
abbrev pub label_entry : ℕ → Trace
label_entry label = traces.Label 0x01 label

-- this router's id, with how it protects the LSP
abbrev pub flagged_entry : Router → ℕ → Trace
flagged_entry r flags = traces.Ipv4 (record { address = r.id; length = 32 }) flags

-- this router's own entries in it: its id, and its label where the Path asks for that
abbrev pub own_entries : Router → ℕ → PathFact → ℕ → List Trace
own_entries r flags path label = if records_labels path.attr then flagged_entry r flags ∷ label_entry label ∷ [] else flagged_entry r flags ∷ []

-- The record of a Resv, which begins with this router (RFC 3209, 4.4.3). None where the Path has no record, or where it
-- would be above this router's limit of 64 entries and 1,024 bytes: then nothing tells of it, where 4.4.3 has a ResvErr.
unfoldable pub record_upstream : Router → ℕ → PathFact → ℕ → List Trace → Option (List Trace)
record_upstream r flags path label recorded = option_and_then (λ came. short_only (own_entries r flags path label ++ recorded)) path.recorded

-- The Resv to an origin: this router is its hop, by this address, with the interface handle that the origin named; its
-- filter names the sender of the origin's Paths; the label is the router's own (RFC 2205, 3.1.4; RFC 3209, 4.1.1).
abbrev pub resv_to : Router → Key → PathFact → Ipv4Addr × Origin → Ipv4Addr → ℕ → Reserved → Resv
resv_to r key path origin address label a = record {
  session = key.session;
  hop = record { address = address; interface = origin.1.hop.interface };
  time = record { refresh_ms = r.refresh_ms };
  passing = a.passing;
  style = style_word a.style;
  descriptors = record {
    flowspec = a.flowspec;
    filter = record key.sender { sender = origin.0 };
    label = record { number = label };
    recorded = record_upstream r a.flags path label a.recorded;
  } ∷ [];
}

-- the item of an origin
abbrev pub upstream_to : Key → Ipv4Addr × Origin → Upstream
upstream_to key origin = record { key = key; sender = origin.0; link = number_of origin.1.via; hop = origin.1.hop.address }

-- what a neighbour is sent over a link: nothing where that is down
abbrev pub upstream_over : Around → Key × Lsp → ℕ → Reserved → Ipv4Addr × Origin → ℕ → Option (Upstream × Output)
upstream_over a lsp label said origin number =
    if is_up a.place.up number
    then option_map (λ link. (upstream_to lsp.0 origin, sent_by number (contents.Resv (resv_to a.place.router lsp.0 lsp.1.path origin link.address label said)))) (link_at a.place.router number)
    else None

-- what the head of a bypass is sent, in a Routed frame towards its address: nothing where no way leads there
abbrev pub upstream_back : Around → Key × Lsp → ℕ → Reserved → Ipv4Addr × Origin → Option (Upstream × Output)
upstream_back a lsp label said origin =
    option_map (λ link. (upstream_to lsp.0 origin, routed_by link origin.1.hop.address (contents.Resv (resv_to a.place.router lsp.0 lsp.1.path origin a.place.router.id label said))))
    (route_to a.place origin.1.hop.address)

-- what an origin is sent, by how its Paths come
abbrev pub upstream_via : Around → Key × Lsp → ℕ → Reserved → Ipv4Addr × Origin → Via → Option (Upstream × Output)
upstream_via a lsp label said origin (vias.Link number) = upstream_over a lsp label said origin number
upstream_via a lsp label said origin vias.Stack = upstream_back a lsp label said origin

-- what an origin is sent
abbrev pub upstream_row : Around → Key × Lsp → ℕ → Reserved → Ipv4Addr × Origin → Option (Upstream × Output)
upstream_row a lsp label said origin = upstream_via a lsp label said origin origin.1.via

-- what all origins of an LSP are sent, in the order of their senders
abbrev pub upstream_rows : Around → Key × Lsp → List (Upstream × Output)
upstream_rows a lsp =
    option_map_or (λ label. option_map_or (λ said. filter_map (upstream_row a lsp label said) lsp.1.path.origins) (reserved_for a lsp) []) lsp.1.label []

-- All Resvs that the state wants, in the order of the LSPs.
unfoldable pub upstream_of : Router → State → List (Upstream × Output)
upstream_of r s = flat_map (upstream_rows (around_of r s)) (lsps_of s)

-- those of some LSPs
unfoldable pub upstream_at : Router → State → (Key → Bool) → List (Upstream × Output)
upstream_at r s touched = flat_map (upstream_rows (around_of r s)) (where_key key_cmp touched (lsps_of s))

-- those of one LSP
abbrev pub upstream_at_key : Router → State → Key → List (Upstream × Output)
upstream_at_key r s key = option_map_or (λ lsp. upstream_rows (around_of r s) (key, lsp)) (lsp_at s key) []
