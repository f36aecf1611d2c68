-- The rules of a document in their order, and the configuration that a document says.
use Rattle.std.specs.Prelude.{◌≡◌, ℕ, ◌^◌, true, List, [], ◌∷◌, ◌++◌, map, fold, Option, Some, None}
use Rattle.std.specs.FinMap.Entries.{put}
use Rattle.std.specs.Ordering.{nat_cmp}
use Rattle.std.specs.declared.cmp.Ordering.{Ordering}
use Rattle.std.specs.declared.net.ipv4_addr.Ipv4Addr.{Ipv4Addr}
use Rattle.toml.specs.Data.{Data, table, array, Members, no_members, member, get}
use Rattle.rsvp_bodies.specs.declared.prefix.Prefix.{Prefix}
use Rattle.rsvp_bodies.specs.declared.step.Step.{Step}
use Rattle.rsvp_bodies.specs.declared.attr.Attr.{Attr}
use Rattle.lsr_facts.specs.Orders.{prefix_cmp}
use Rattle.lsr_facts.specs.declared.bypass.Bypass.{Bypass}
use Rattle.lsr_facts.specs.declared.router.Link.{Link}
use Rattle.lsr_facts.specs.declared.tunnel.Tunnel.{Tunnel}
use Rattle.lsr_config.specs.Keys.{key_name, top_keys, link_keys, route_keys, tunnel_keys, bypass_keys}
use Rattle.lsr_config.specs.Values.{SaysWhole, SaysFlag, SaysLabels, SaysEach, SaysSteps, SaysTspec, SaysName, elements}
use Rattle.lsr_config.specs.Rules.{Kind, an_address, a_socket, a_whole, a_flag, some_labels, a_prefix, some_tables, some_steps, a_rate, a_name, Has, HasOr, HasAddress, HasCapacity, HasNumber, HasPrefix, Rule, given, fitting, new_number, new_address, new_prefix, elsewhere, known_number, carried, few, known}
use Rattle.lsr_config.specs.declared.key.Key.{Key}
use Rattle.lsr_config.specs.declared.key.Key.TheVariants as key
use Rattle.lsr_config.specs.Configs.{Setup}

-- ---- the rules

-- a value that may be there
abbrev pub optional : Kind → Key → Data → List Rule
optional kind key d = fitting kind key d ∷ []

-- a value that has to be there
abbrev pub needed : Kind → Key → Data → List Rule
needed kind key d = given key d ∷ fitting kind key d ∷ []

-- what an array stands for
abbrev pub array_elements : Option Data → List Data
array_elements (Some (array ds)) = elements ds
array_elements _ = []

-- the records of a table of the document, in the order of the text
unfoldable pub records : Key → Data → List Data
records key document = array_elements (get (key_name key) document)

-- rules of each record, which come from those before it and itself
unfoldable pub each_record : (List Data → Data → List Rule) → List Data → List Data → List Rule
each_record rules before [] = []
each_record rules before (entry ∷ more) = rules before entry ++ each_record rules (before ++ entry ∷ []) more

-- The records of a table of the document, in the order of the text, and each by its rules.
unfoldable pub table_rules : Key → (List Data → Data → List Rule) → Data → List Rule
table_rules key rules document = optional some_tables key document ++ each_record rules [] (records key document)

-- the names of the keys of a table, in their order
unfoldable pub names : Members → List (List ℕ)
names no_members = []
names (member name d ms) = name ∷ names ms

-- the names of the keys of a value, where it is a table
unfoldable pub names_of : Data → List (List ℕ)
names_of (table ms) = names ms
names_of _ = []

-- the table has only keys of these
unfoldable pub known_rules : List Key → Data → List Rule
known_rules keys d = map (known keys) (names_of d)

-- groups of rules, in turn
unfoldable pub in_turn : List (List Rule) → List Rule
in_turn [] = []
in_turn (rules ∷ more) = rules ++ in_turn more

-- a link, after those before it
unfoldable pub link_rules : Data → List Data → Data → List Rule
link_rules document before link = in_turn (
    needed (a_whole 1 65535) key.Number link
    ∷ (new_number 1 before link ∷ [])
    ∷ needed an_address key.Address link
    ∷ (new_address document before link ∷ [])
    ∷ needed an_address key.Peer link
    ∷ needed an_address key.PeerRouter link
    ∷ needed (a_whole 0 (2 ^ 50)) key.Limit link
    ∷ optional a_flag key.Up link
    ∷ optional a_socket key.Listen link
    ∷ optional a_socket key.Send link
    ∷ (few key.Link 16 before ∷ [])
    ∷ [])

-- a route over one of the links, after the routes before it
unfoldable pub route_rules : List Data → List Data → Data → List Rule
route_rules links before route = in_turn (
    needed a_prefix key.Prefix route
    ∷ (new_prefix before route ∷ [])
    ∷ needed (a_whole 1 65535) key.Link route
    ∷ (known_number 1 key.Link links route ∷ [])
    ∷ (few key.Route 256 before ∷ [])
    ∷ [])

-- what the LSPs of a tunnel ask for beside their traffic (RFC 3209, 4.7)
unfoldable pub attribute_rules : Data → List Rule
attribute_rules tunnel = in_turn (
    needed (a_whole 0 7) key.Setup tunnel
    ∷ needed (a_whole 0 7) key.Hold tunnel
    ∷ needed (a_whole 0 255) key.Flags tunnel
    ∷ needed a_name key.Name tunnel
    ∷ [])

-- a tunnel that begins at the router of the document, after the tunnels before it
unfoldable pub tunnel_rules : Data → List Data → Data → List Rule
tunnel_rules document before tunnel = in_turn (
    needed (a_whole 0 65535) key.Number tunnel
    ∷ (new_number 0 before tunnel ∷ [])
    ∷ needed an_address key.Endpoint tunnel
    ∷ (elsewhere document (records key.Link document) tunnel ∷ [])
    ∷ needed some_steps key.Route tunnel
    ∷ needed a_rate key.Rate tunnel
    ∷ attribute_rules tunnel
    ∷ (few key.Tunnel 256 before ∷ [])
    ∷ [])

-- a bypass that runs in a tunnel of the document and protects one of its links, after the bypasses before it
unfoldable pub bypass_rules : Data → List Data → Data → List Rule
bypass_rules document before bypass = in_turn (
    needed (a_whole 0 65535) key.Number bypass
    ∷ (new_number 0 before bypass ∷ [])
    ∷ needed (a_whole 0 65535) key.Tunnel bypass
    ∷ (known_number 0 key.Tunnel (records key.Tunnel document) bypass ∷ [])
    ∷ needed (a_whole 1 65535) key.Link bypass
    ∷ (known_number 1 key.Link (records key.Link document) bypass ∷ [])
    ∷ optional (a_whole 0 (2 ^ 50)) key.Capacity bypass
    ∷ (carried (records key.Tunnel document) bypass ∷ [])
    ∷ (few key.Bypass 64 before ∷ [])
    ∷ [])

-- the router of a document
unfoldable pub router_rules : Data → List Rule
router_rules document = in_turn (
    needed an_address key.Router document
    ∷ optional (a_whole 1 4294967295) key.RefreshMs document
    ∷ needed some_labels key.Labels document
    ∷ optional (a_whole 0 4294967295) key.LabelRestMs document
    ∷ [])

-- each record of a table of the document has only keys of these
abbrev pub known_record_rules : Key → List Key → Data → List Rule
known_record_rules key keys document = each_record (λ before d. known_rules keys d) [] (records key document)

-- no key of the document, and then of the records of its tables, is an unknown one
unfoldable pub all_known_rules : Data → List Rule
all_known_rules document = in_turn (
    known_rules top_keys document
    ∷ known_record_rules key.Link link_keys document
    ∷ known_record_rules key.Route route_keys document
    ∷ known_record_rules key.Tunnel tunnel_keys document
    ∷ known_record_rules key.Bypass bypass_keys document
    ∷ [])

-- All rules of a document, in the order in which their faults count: the router's, the links', the routes', the tunnels',
-- the bypasses', and in the end those of unknown keys.
unfoldable pub rules_of : Data → List Rule
rules_of document = in_turn (
    router_rules document
    ∷ table_rules key.Link (link_rules document) document
    ∷ table_rules key.Route (route_rules (records key.Link document)) document
    ∷ table_rules key.Tunnel (tunnel_rules document) document
    ∷ table_rules key.Bypass (bypass_rules document) document
    ∷ all_known_rules document
    ∷ [])

-- ---- what a document says

-- the record says the link of this number
pub record SaysLink (d : Data) (row : ℕ × Link) : Type 0 where
  pub number : HasNumber 1 key.Number d row.0
  pub address : HasAddress key.Address d row.1.address
  pub peer : HasAddress key.Peer d row.1.peer
  pub peer_router : HasAddress key.PeerRouter d row.1.peer_router
  pub limit : Has key.Limit d (λ v. SaysWhole 0 (2 ^ 50) v row.1.limit)
  pub up : HasOr key.Up d (row.1.up ≡ true) (λ v. SaysFlag v row.1.up)

-- the record says the route to this prefix
pub record SaysRoute (d : Data) (row : Prefix × ℕ) : Type 0 where
  pub prefix : HasPrefix key.Prefix d row.0
  pub link : HasNumber 1 key.Link d row.1

-- the record says these attributes of a tunnel's LSPs, which name no affinities
pub record SaysAttributes (d : Data) (attr : Attr) : Type 0 where
  pub affinities : attr.affinities ≡ None
  pub setup : Has key.Setup d (λ v. SaysWhole 0 7 v attr.setup)
  pub hold : Has key.Hold d (λ v. SaysWhole 0 7 v attr.hold)
  pub flags : Has key.Flags d (λ v. SaysWhole 0 255 v attr.flags)
  pub name : Has key.Name d (λ v. SaysName v attr.name)

-- a tunnel that asks for no protection, with its first LSP
abbrev pub new_tunnel : Ipv4Addr → Attr → List Step → List ℕ → Tunnel
new_tunnel endpoint attr route tspec = record {
  endpoint = endpoint;
  attr = attr;
  fast_reroute = None;
  current = record { id = 1; route = route; tspec = tspec };
  pending = None;
  last = 1;
  noted = None;
}

-- the record says the tunnel of this number
pub record SaysTunnel (d : Data) (row : ℕ × Tunnel) : Type 0 where
  pub number : HasNumber 0 key.Number d row.0
  pub endpoint : HasAddress key.Endpoint d row.1.endpoint
  pub route : Has key.Route d (λ v. SaysSteps v row.1.current.route)
  pub tspec : Has key.Rate d (λ v. SaysTspec v row.1.current.tspec)
  pub attr : SaysAttributes d row.1.attr
  pub first : row.1 ≡ new_tunnel row.1.endpoint row.1.attr row.1.current.route row.1.current.tspec

-- the record says the bypass of this number
pub record SaysBypass (d : Data) (row : ℕ × Bypass) : Type 0 where
  pub number : HasNumber 0 key.Number d row.0
  pub tunnel : HasNumber 0 key.Tunnel d row.1.tunnel
  pub link : HasNumber 1 key.Link d row.1.link
  pub capacity : HasCapacity d row.1.capacity

-- rows, each put in its place in the order of the keys
unfoldable pub in_order : {K V : Type 0} → (K → K → Ordering) → List (K × V) → List (K × V)
in_order cmp rows = fold (λ table row. put cmp row.0 row.1 table) [] rows

-- the records say these rows, which stand in the order of their keys
abbrev pub SaysTable : {K V : Type 0} → (K → K → Ordering) → (Data → K × V → Type 0) → List Data → List (K × V) → Type 0
SaysTable {K} {V} cmp Says ds sorted = (rows : List (K × V)) × SaysEach Says ds rows × (sorted ≡ in_order cmp rows)

-- the document says this configuration
pub record Says (document : Data) (c : Setup) : Type 0 where
  pub id : HasAddress key.Router document c.router.id
  pub refresh_ms : HasOr key.RefreshMs document (c.router.refresh_ms ≡ 30000) (λ v. SaysWhole 1 4294967295 v c.router.refresh_ms)
  pub labels : Has key.Labels document (λ v. SaysLabels v c.router.labels)
  pub label_rest : HasOr key.LabelRestMs document (c.router.label_rest_ms ≡ 0) (λ v. SaysWhole 0 4294967295 v c.router.label_rest_ms)
  pub links : SaysTable nat_cmp SaysLink (records key.Link document) c.router.links
  pub routes : SaysTable prefix_cmp SaysRoute (records key.Route document) c.routes
  pub tunnels : SaysTable nat_cmp SaysTunnel (records key.Tunnel document) c.tunnels
  pub bypasses : SaysTable nat_cmp SaysBypass (records key.Bypass document) c.bypasses
