-- What holds of paths, tunnels, bypasses, links, routes and time in every state that a router comes to.
use Rattle.std.specs.Prelude.{◌≡◌, ℕ, ◌^◌, ◌≤◌, not, Bool, true, false, List, [], ◌∷◌, length, Option, Some, None, option_map, IfSome, IsTrue, T}
use Rattle.std.specs.FinMap.Entries.{find, is_sorted}
use Rattle.std.specs.List.{AllByRecursion}
use Rattle.std.specs.Option.{option_map_or}
use Rattle.std.specs.Ordering.{is_eq}
use Rattle.std.specs.declared.net.ipv4_addr.Ipv4Addr.{Ipv4Addr}
use Rattle.rsvp_bodies.specs.declared.step.Step.{Step}
use Rattle.rsvp_bodies.specs.declared.step.Step.TheVariants.{Ipv4, Other}
use Rattle.rsvp_contents.specs.Fitting.{are_passed_on, has_adspec_last, has_one_fast_reroute}
use Rattle.rsvp_contents.specs.Limits.{is_short_route, is_short_record, is_short_passing}
use Rattle.sorted_rows.specs.Rows.{keys_of}
use Rattle.lsr_facts.specs.Bypasses.{AreBypasses}
use Rattle.lsr_facts.specs.Lifetimes.{begins_here}
use Rattle.lsr_facts.specs.Limits.{max_lsps, max_origins}
use Rattle.lsr_facts.specs.Orders.{address_cmp, key_cmp}
use Rattle.lsr_facts.specs.Routers.{AreRoutes, HasLink}
use Rattle.lsr_facts.specs.Tunnels.{AreTunnels, head_key, is_head}
use Rattle.lsr_facts.specs.declared.facts.Facts.{Facts}
use Rattle.lsr_facts.specs.declared.key.Key.{Key}
use Rattle.lsr_facts.specs.declared.path_fact.Origin.{Origin}
use Rattle.lsr_facts.specs.declared.path_fact.PathFact.{PathFact}
use Rattle.lsr_facts.specs.declared.path_fact.Role.{Role}
use Rattle.lsr_facts.specs.declared.path_fact.Role.TheVariants as roles
use Rattle.lsr_facts.specs.declared.path_fact.Via.{Via}
use Rattle.lsr_facts.specs.declared.path_fact.Via.TheVariants as vias
use Rattle.lsr_facts.specs.declared.router.Router.{Router}
use Rattle.lsr_facts.specs.declared.tunnel.Tunnel.{Tunnel}
use Rattle.lsr_facts.specs.declared.tunnel.TunnelLsp.{TunnelLsp}
use Rattle.abstract_paths.specs.Merging.{came_through, is_stack, stacks_in}

-- The Paths of an origin come over a link of the router, or through a stack of labels.
abbrev pub IsVia : Router → Via → Type 0
IsVia r (vias.Link number) = HasLink r number
IsVia r vias.Stack = Unit {0}

-- an origin at a moment: its Paths come so, and its expiry isn't below the moment (at refresh 0 they are equal)
pub record IsOrigin (r : Router) (moment : ℕ) (origin : Origin) : Type 0 where
  pub over_link : IsVia r origin.via
  pub live : moment ≤ origin.expiry

-- How many origins a path has, by its role: one that begins here has none, any other one to four.
abbrev pub IsCountAs : Role → ℕ → Type 0
IsCountAs roles.Head count = count ≡ 0
IsCountAs role count = (1 ≤ count) × (count ≤ max_origins)

-- a neighbour's Paths name the LSP's own sender, those that come through a stack another one
abbrev pub IsSenderAs : Key → Ipv4Addr × Origin → Type 0
IsSenderAs key origin = is_eq (address_cmp key.sender.sender origin.0) ≡ not (is_stack origin.1.via)

-- The origins of a path, in the order of their senders: at most three come through stacks.
pub record AreOrigins (r : Router) (moment : ℕ) (key : Key) (role : Role) (origins : List (Ipv4Addr × Origin)) : Type 0 where
  pub in_order : T (is_sorted address_cmp origins)
  pub count : IsCountAs role (length origins)
  pub senders : AllByRecursion (IsSenderAs key) origins
  pub stacks : length (stacks_in origins) ≤ 3
  pub each : AllByRecursion (λ o. IsOrigin r moment o.1) origins

-- The way of a path, by its role: one that ends here has none, another leaves by a link of the router.
abbrev pub IsWayAs : Router → Role → ℕ → Option (List Step) → Type 0
IsWayAs r roles.Tail link rest = (link ≡ 0) × (rest ≡ None)
IsWayAs r roles.Transit link rest = HasLink r link
IsWayAs r roles.Head link rest = HasLink r link

-- and that of a path that is known
abbrev pub IsWay : Router → PathFact → Type 0
IsWay r fact = IsWayAs r fact.role fact.out_link fact.rest

-- a route has a first step, and that is of type IPv4 (RFC 3209, 4.3.3.2)
abbrev pub begins_with_ipv4 : List Step → Bool
begins_with_ipv4 [] = false
begins_with_ipv4 (Ipv4 loose prefix ∷ steps) = true
begins_with_ipv4 (Other bytes ∷ steps) = false

-- what a path carries fits a message, and what is left of its route, if anything is, begins with a step of type IPv4
pub record IsWithinLimits (fact : PathFact) : Type 0 where
  pub given : IsTrue (option_map_or is_short_route fact.given true)
  pub rest : IsTrue (option_map_or is_short_route fact.rest true)
  pub begins : IsTrue (option_map_or begins_with_ipv4 fact.rest true)
  pub recorded : IsTrue (option_map_or is_short_record fact.recorded true)
  pub passing : IsTrue (is_short_passing fact.passing)
  pub passed_on : IsTrue (are_passed_on fact.passing)
  pub adspec_last : IsTrue (has_adspec_last fact.passing)
  pub one_fast_reroute : IsTrue (has_one_fast_reroute fact.fast_reroute fact.passing)

-- A path at a moment: its Tspec is as long as that of a token bucket (RFC 2210, 3.1), and it stands as said above.
pub record IsPath (r : Router) (moment : ℕ) (path : Key × PathFact) : Type 0 where
  pub origins : AreOrigins r moment path.0 path.1.role path.1.origins
  pub way : IsWay r path.1
  pub whole_tspec : length path.1.tspec ≡ 32
  pub limits : IsWithinLimits path.1

-- A message that comes through a stack is of one path at most: no two paths of one session and LSP ID have an origin of the
-- same sender whose Paths come so.
abbrev pub AreApart : List (Key × PathFact) → Type 0
AreApart paths =
    (message a b : Key) (x y : PathFact) → find key_cmp a paths ≡ Some x → find key_cmp b paths ≡ Some y → came_through message (a, x) ≡ true
    → came_through message (b, y) ≡ true → is_eq (key_cmp a b) ≡ true

-- the paths: one of each LSP, in the order of keys, at most 1,024
pub record ArePaths (r : Router) (moment : ℕ) (paths : List (Key × PathFact)) : Type 0 where
  pub apart : AreApart paths
  pub in_order : T (is_sorted key_cmp paths)
  pub few : length paths ≤ max_lsps
  pub each : AllByRecursion (IsPath r moment) paths

-- a path begins here exactly where its LSP is one of a tunnel's
abbrev pub IsHeadOf : Router → List (ℕ × Tunnel) → Key × PathFact → Type 0
IsHeadOf r tunnels path = begins_here path.1.role ≡ is_head r tunnels path.0

-- what a path is asked for: its route, and its traffic
abbrev pub asked_of : PathFact → Option (List Step) × List ℕ
asked_of path = (path.given, path.tspec)

-- a tunnel's LSP has a path, which is asked for what the LSP is
abbrev pub IsSignalled : List (Key × PathFact) → Key → TunnelLsp → Type 0
IsSignalled paths key lsp = option_map asked_of (find key_cmp key paths) ≡ Some (Some lsp.route, lsp.tspec)

-- the LSP that is to take the place of a tunnel's current one, if there is one, was signalled
abbrev pub IsPendingSignalled : Router → List (Key × PathFact) → ℕ × Tunnel → Type 0
IsPendingSignalled r paths tunnel = IfSome tunnel.1.pending (λ lsp. IsSignalled paths (head_key r tunnel.0 tunnel.1.endpoint lsp.id) lsp)

-- What holds in every state. A cold router knows no path.
pub record IsStanding (r : Router) (s : Facts) : Type 0 where
  pub moment : s.moment ≤ 2 ^ 62
  pub links : keys_of s.up ≡ keys_of r.links
  pub routes : AreRoutes r s.routes
  pub tunnels : AreTunnels r s.tunnels
  pub bypasses : AreBypasses r s.tunnels s.bypasses
  pub paths : ArePaths r s.moment s.paths
  pub heads : AllByRecursion (IsHeadOf r s.tunnels) s.paths
  pub pending : AllByRecursion (IsPendingSignalled r s.paths) s.tunnels
  pub cold : s.cold ≡ true → s.paths ≡ []
