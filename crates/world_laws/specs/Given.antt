-- Which router gave an LSP a label. All of it is said of the past: that router may have taken the label back since.
use Rattle.std.specs.Prelude.{◌≡◌, ℕ, List, [], ◌∷◌, Some, Contains}
use Rattle.std.specs.declared.net.ipv4_addr.Ipv4Addr.{Ipv4Addr}
use Rattle.rsvp_bodies.specs.declared.trace.Trace.{Trace}
use Rattle.rsvp_bodies.specs.declared.trace.Trace.TheVariants as traces
use Rattle.rsvp_objects.specs.declared.values.Session.{Session}
use Rattle.lsr_facts.specs.Routers.{own_addresses}
use Rattle.lsr_facts.specs.declared.key.Key.{Key}
use Rattle.lsr_facts.specs.declared.router.Router.{Router}
use Rattle.abstract_world.specs.Wires.{other_end, router_at}
use Rattle.abstract_world.specs.Worlds.{WorldState, routers_in}
use Rattle.abstract_world.specs.declared.joint.End.{End}
use Rattle.abstract_world.specs.declared.sent.Given.{Given}

-- An LSP as all its routers know it: its session and its LSP ID (RFC 3209, 4.6.2.1). Its sender isn't part of that, since a
-- repaired LSP has another one beyond its bypass (RFC 4090, 6.4.3).
pub record LspName : Type 0 where
  pub session : Session
  pub id : ℕ

abbrev pub name_of : Key → LspName
name_of key = record { session = key.session; id = key.sender.lsp }

-- the row for a label that the router of this place gives to the LSP
abbrev pub row_of : ℕ → LspName → ℕ → Given
row_of place lsp label = record { router = place; session = lsp.session; lsp = lsp.id; label = label }

-- it gave the label to the LSP, now or before
abbrev pub Gave : WorldState → ℕ → LspName → ℕ → Type 0
Gave w place lsp label = Contains w.given (row_of place lsp label)

-- a router did, one of whose addresses this is
pub record IsGivenFrom (w : WorldState) (address : Ipv4Addr) (lsp : LspName) (label : ℕ) : Type 0 where
  pub place : ℕ
  pub router : Router
  pub there : router_at (routers_in w.routers) place ≡ Some router
  pub own : Contains (own_addresses router) address
  pub gave : Gave w place lsp label

-- a router did, whose id this is
pub record IsGivenBy (w : WorldState) (id : Ipv4Addr) (lsp : LspName) (label : ℕ) : Type 0 where
  pub place : ℕ
  pub router : Router
  pub there : router_at (routers_in w.routers) place ≡ Some router
  pub named : router.id ≡ id
  pub gave : Gave w place lsp label

-- the router at the other end of the link did
pub record IsGivenOver (w : WorldState) (link : End) (lsp : LspName) (label : ℕ) : Type 0 where
  pub other : End
  pub leads : other_end w.joints link ≡ Some other
  pub gave : Gave w other.router lsp label

-- the label that a record has next, if it has one there, was given by the router with this id
abbrev pub IsNextGiven : WorldState → LspName → Ipv4Addr → List Trace → Type 0
IsNextGiven w lsp id (traces.Label flags label ∷ entries) = IsGivenBy w id lsp label
IsNextGiven w lsp id entries = Unit {0}

-- Each label of a record that directly follows an address was given to the LSP by the router with that id (RFC 3209, 4.4.1.3 and
-- 4.4.3).
abbrev pub AreGiven : WorldState → LspName → List Trace → Type 0
AreGiven w lsp [] = Unit {0}
AreGiven w lsp (traces.Ipv4 prefix flags ∷ entries) = IsNextGiven w lsp prefix.address entries × AreGiven w lsp entries
AreGiven w lsp (entry ∷ entries) = AreGiven w lsp entries

-- no label comes first in a record: each follows the address of its router
abbrev pub BeginsWell : List Trace → Type 0
BeginsWell (traces.Label flags label ∷ entries) = ⊥
BeginsWell entries = Unit {0}

-- what the record of an LSP says of labels is true
abbrev pub IsTrueRecord : WorldState → LspName → List Trace → Type 0
IsTrueRecord w lsp entries = BeginsWell entries × AreGiven w lsp entries
