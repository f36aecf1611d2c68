-- What a router knows, in a file: part by part, one after the other.
use Rattle.std.specs.Prelude.{◌++◌, ◌∷◌, [], ℕ, Bool, List, refl}
use Rattle.byteorder.specs.Endian.{big_bytes}
use Rattle.field_bytes.specs.Making.{IsToldApart, told_by}
use Rattle.field_bytes.specs.NumberLaws.{flag_byte}
use Rattle.field_bytes.specs.Spelling.{list_bytes}
use Rattle.rsvp_bodies.specs.declared.prefix.Prefix.{Prefix}
use Rattle.lsr_facts.specs.declared.assignment.Assignment.{Assignment}
use Rattle.lsr_facts.specs.declared.bypass.Bypass.{Bypass}
use Rattle.lsr_facts.specs.declared.key.Key.{Key}
use Rattle.lsr_facts.specs.declared.path_fact.PathFact.{PathFact}
use Rattle.lsr_facts.specs.declared.repair.Repair.{Repair}
use Rattle.lsr_facts.specs.declared.resv_fact.ResvFact.{ResvFact}
use Rattle.lsr_facts.specs.declared.state.State.{State}
use Rattle.lsr_facts.specs.declared.tunnel.Tunnel.{Tunnel}
use Rattle.fact_fields.specs.Sent.{sent_by, sent_bytes}
use Rattle.fact_fields.specs.declared.sent.Sent.{Sent}
use Rattle.journal_files.specs.Entries.{label_bytes}
use Rattle.journal_files.specs.Rows.{bypass_row_bytes, path_row_bytes, repair_row_bytes, resv_row_bytes, route_row_bytes, tunnel_row_bytes, up_bytes}
use Rattle.journal_files.specs.declared.states.LabelState.{LabelState}
use Rattle.journal_files.specs.declared.states.LinkState.{LinkState}
use Rattle.journal_files.specs.declared.states.LspState.{LspState}
use Rattle.journal_files.specs.declared.states.NodeState.{NodeState}

-- ---- of itself and of its links

-- whether it is cold, its moment, and of each link whether it is up
abbrev pub link_state_bytes : LinkState → List ℕ
link_state_bytes l = flag_byte l.cold ∷ (big_bytes 8 l.moment ++ list_bytes up_bytes l.up)

abbrev pub link_state_parts : LinkState → Bool × (ℕ × List (ℕ × Bool))
link_state_parts l = (l.cold, (l.moment, l.up))

-- what is known, of these
abbrev pub links_of : Bool × (ℕ × List (ℕ × Bool)) → LinkState
links_of parts = record { cold = parts.0; moment = parts.1.0; up = parts.1.1 }

pub link_state_told : IsToldApart (λ (l : LinkState). Unit {0}) link_state_parts
link_state_told = told_by (λ (l : LinkState). Unit {0}) link_state_parts links_of (λ l. refl)

-- ---- what it was told to do

-- static routes, tunnels and bypasses
abbrev pub node_state_bytes : (Bypass → List ℕ) → NodeState → List ℕ
node_state_bytes bypass_bytes n = list_bytes route_row_bytes n.routes ++ (list_bytes tunnel_row_bytes n.tunnels ++ list_bytes (bypass_row_bytes bypass_bytes) n.bypasses)

abbrev pub NodeOf : Type 0
NodeOf = List (Prefix × ℕ) × (List (ℕ × Tunnel) × List (ℕ × Bypass))

abbrev pub node_state_parts : NodeState → NodeOf
node_state_parts n = (n.routes, (n.tunnels, n.bypasses))

-- what it was told, of these
abbrev pub node_of : NodeOf → NodeState
node_of parts = record { routes = parts.0; tunnels = parts.1.0; bypasses = parts.1.1 }

pub node_state_told : IsToldApart (λ (n : NodeState). Unit {0}) node_state_parts
node_state_told = told_by (λ (n : NodeState). Unit {0}) node_state_parts node_of (λ n. refl)

-- ---- of LSPs

-- paths, reservations, repairs and promises
abbrev pub lsp_state_bytes : (List (Key × Assignment) → List ℕ) → LspState → List ℕ
lsp_state_bytes promise_bytes l = list_bytes path_row_bytes l.paths ++ (list_bytes resv_row_bytes l.resvs ++ (list_bytes repair_row_bytes l.repairs ++ promise_bytes l.promises))

abbrev pub LspsOf : Type 0
LspsOf = List (Key × PathFact) × (List (Key × ResvFact) × (List (Key × Repair) × List (Key × Assignment)))

abbrev pub lsp_state_parts : LspState → LspsOf
lsp_state_parts l = (l.paths, (l.resvs, (l.repairs, l.promises)))

-- what is known, of these
abbrev pub lsps_of : LspsOf → LspState
lsps_of parts = record { paths = parts.0; resvs = parts.1.0; repairs = parts.1.1.0; promises = parts.1.1.1 }

pub lsp_state_told : IsToldApart (λ (l : LspState). Unit {0}) lsp_state_parts
lsp_state_told = told_by (λ (l : LspState). Unit {0}) lsp_state_parts lsps_of (λ l. refl)

-- ---- of labels, and of what is kept alive

-- labels, labels that rest, and when messages were sent last
abbrev pub label_state_bytes : (List (ℕ × ℕ) → List ℕ) → LabelState → List ℕ
label_state_bytes resting_bytes l = list_bytes label_bytes l.labels ++ (resting_bytes l.resting ++ sent_bytes l.sent)

abbrev pub LabelsOf : Type 0
LabelsOf = List (Key × ℕ) × (List (ℕ × ℕ) × Sent)

abbrev pub label_state_parts : LabelState → LabelsOf
label_state_parts l = (l.labels, (l.resting, l.sent))

-- what is known, of these
abbrev pub labels_of : LabelsOf → LabelState
labels_of parts = record { labels = parts.0; resting = parts.1.0; sent = parts.1.1 }

pub label_state_told : IsToldApart (λ (l : LabelState). Unit {0}) label_state_parts
label_state_told = told_by (λ (l : LabelState). Unit {0}) label_state_parts labels_of (λ l. refl)

-- ---- all of it

-- what a state says of each
abbrev pub link_state : State → LinkState
link_state s = record { cold = s.facts.cold; moment = s.facts.moment; up = s.facts.up }

abbrev pub node_state : State → NodeState
node_state s = record { routes = s.facts.routes; tunnels = s.facts.tunnels; bypasses = s.facts.bypasses }

abbrev pub lsp_state : State → LspState
lsp_state s = record { paths = s.facts.paths; resvs = s.resvs; repairs = s.repairs; promises = s.assignments }

abbrev pub label_state : State → LabelState
label_state s = record { labels = s.labels; resting = s.resting; sent = sent_by s.facts.sent s.sent_upstream }

-- All that a router knows: whether it is cold, its moment, of each link whether it is up, static routes, tunnels, bypasses, paths, reservations,
-- repairs, promises, labels, labels that rest, and when messages were sent last. How bypasses, promises and labels that rest are spelled is
-- the format's.
abbrev pub state_bytes : (Bypass → List ℕ) → (List (Key × Assignment) → List ℕ) → (List (ℕ × ℕ) → List ℕ) → State → List ℕ
state_bytes bypass_bytes promise_bytes resting_bytes s =
    link_state_bytes (link_state s) ++ (node_state_bytes bypass_bytes (node_state s) ++ (lsp_state_bytes promise_bytes (lsp_state s) ++ label_state_bytes resting_bytes (label_state s)))

abbrev pub StateOf : Type 0
StateOf = LinkState × (NodeState × (LspState × LabelState))

abbrev pub state_parts : State → StateOf
state_parts s = (link_state s, (node_state s, (lsp_state s, label_state s)))

-- the state of these
abbrev pub state_of : StateOf → State
state_of parts =
    let links = parts.0 in
    let node = parts.1.0 in
    let lsps = parts.1.1.0 in
    let labels = parts.1.1.1 in
    record {
      facts = record {
        cold = links.cold;
        moment = links.moment;
        up = links.up;
        routes = node.routes;
        tunnels = node.tunnels;
        bypasses = node.bypasses;
        paths = lsps.paths;
        sent = labels.sent.paths;
      };
      resvs = lsps.resvs;
      repairs = lsps.repairs;
      labels = labels.labels;
      assignments = lsps.promises;
      resting = labels.resting;
      sent_upstream = labels.sent.resvs;
    }

pub state_told : IsToldApart (λ (s : State). Unit {0}) state_parts
state_told = told_by (λ (s : State). Unit {0}) state_parts state_of (λ s. refl)
