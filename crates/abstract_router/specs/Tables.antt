-- The label table that a state stands for, and what becomes of labelled frames by it (RFC 3031, 3.10 to 3.13).
use Rattle.std.specs.Prelude.{◌≡◌, ◌⊎◌, ℕ, ◌==◌, Bool, false, true, if◌then◌else◌, List, filter_map, find, Option, Some, None}
use Rattle.std.specs.FinMap.Entries as rows
use Rattle.std.specs.Option.{option_and_then, option_map, option_or}
use Rattle.std.specs.Ordering.{nat_cmp}
use Rattle.lsr_facts.specs.Orders.{key_cmp}
use Rattle.lsr_facts.specs.Tunnels.{current_key}
use Rattle.lsr_facts.specs.declared.key.Key.{Key}
use Rattle.lsr_facts.specs.declared.path_fact.PathFact.{PathFact}
use Rattle.lsr_facts.specs.declared.router.Router.{Router}
use Rattle.lsr_facts.specs.declared.tunnel.Tunnel.{Tunnel}
use Rattle.lsr_facts.specs.declared.repair.BypassTunnel.{BypassTunnel}
use Rattle.lsr_facts.specs.declared.repair.Over.{Over}
use Rattle.lsr_facts.specs.declared.repair.Repair.{Repair}
use Rattle.lsr_facts.specs.declared.resv_fact.ResvFact.{ResvFact}
use Rattle.forwarding_table.specs.Forwarding.{forward_of}
use Rattle.forwarding_table.specs.declared.action.Action.{Action}
use Rattle.forwarding_table.specs.declared.action.Action.TheVariants.{Pop, PushHead, Swap, SwapPush}
use Rattle.forwarding_table.specs.declared.forwarding.Forwarding.{Forwarding}
use Rattle.label_stacks.specs.declared.entry.StackEntry.{StackEntry}
use Rattle.abstract_paths.specs.Paths.{goes_on}
use Rattle.abstract_paths.specs.Places.{is_up}
use Rattle.abstract_router.specs.BypassTunnels.{bypass_tunnels_of, over_at}
use Rattle.abstract_router.specs.Lsps.{Around, Lsp, around_of, lsps_of}
use Rattle.abstract_router.specs.States.{State}

-- what is done with a frame of a reserved LSP: it goes on with its next hop's label
abbrev pub swap_by : ResvFact → Action
swap_by resv = Swap resv.label resv.link

-- and with one of a repaired LSP: it goes on with the label of its bypass's end, under that of the bypass (RFC 4090, 3.2)
abbrev pub swap_through : List (ℕ × BypassTunnel) → Repair → Option Action
swap_through bypass_tunnels repair = option_map (λ over. SwapPush repair.resv.label over.label over.link) (over_at bypass_tunnels repair.bypass)

-- what is done with a frame of an LSP: it ends here, or it goes on where it is reserved or repaired
abbrev pub action_of : Around → Lsp → Option Action
action_of a lsp =
    if goes_on lsp.path.role then option_or (option_map swap_by lsp.resv) (option_and_then (swap_through a.bypass_tunnels) lsp.repair) else Some Pop

-- and under which label
abbrev pub entry_of : Around → Lsp → Option (ℕ × Action)
entry_of a lsp = option_and_then (λ label. option_map (λ action. (label, action)) (action_of a lsp)) lsp.label

-- The label table: an entry for each LSP that ends here, is reserved, or is repaired, and nothing else.
unfoldable pub table_of : Router → State → List (ℕ × Action)
table_of r s = filter_map (λ lsp. entry_of (around_of r s) lsp.1) (lsps_of s)

-- the action of a label
unfoldable pub look : Router → State → ℕ → Option Action
look r s label = option_map (λ entry. entry.1) (find (λ entry. entry.0 == label) (table_of r s))

-- what is done with the traffic of a tunnel: it leaves under the label that its current LSP's next hop reserved for it
abbrev pub push_by : ResvFact → Action
push_by resv = PushHead None resv.label resv.link

-- and where that LSP is repaired, under the label of its bypass's end, under that of the bypass
abbrev pub push_through : List (ℕ × BypassTunnel) → Repair → Option Action
push_through bypass_tunnels repair = option_map (λ over. PushHead (Some repair.resv.label) over.label over.link) (over_at bypass_tunnels repair.bypass)

-- what is done with it
abbrev pub push_of : Router → State → ℕ × Tunnel → Option Action
push_of r s tunnel =
    option_or (option_map push_by (rows.find key_cmp (current_key r tunnel) s.resvs))
    (option_and_then (push_through (bypass_tunnels_of r s)) (rows.find key_cmp (current_key r tunnel) s.repairs))

-- and for which tunnel
abbrev pub tunnel_entry : Router → State → ℕ × Tunnel → Option (ℕ × Action)
tunnel_entry r s tunnel = option_map (λ action. (tunnel.0, action)) (push_of r s tunnel)

-- The table of tunnels: an entry for each whose current LSP is reserved or repaired, and nothing else.
unfoldable pub tunnel_table_of : Router → State → List (ℕ × Action)
tunnel_table_of r s = filter_map (tunnel_entry r s) s.facts.tunnels

-- the action of a tunnel
unfoldable pub look_tunnel : Router → State → ℕ → Option Action
look_tunnel r s number = rows.find nat_cmp number (tunnel_table_of r s)

-- an LSP is reserved, over a link that is up
pub record IsOverLink (s : State) (key : Key) : Type 0 where
  pub resv : ResvFact
  pub reserved : rows.find key_cmp key s.resvs ≡ Some resv
  pub up : is_up s.facts.up resv.link ≡ true

-- an LSP is repaired, by a bypass that is up, over a link that is up
pub record IsThrough (r : Router) (s : State) (key : Key) : Type 0 where
  pub repair : Repair
  pub repaired : rows.find key_cmp key s.repairs ≡ Some repair
  pub over : Over
  pub bypass : over_at (bypass_tunnels_of r s) repair.bypass ≡ Some over
  pub up : is_up s.facts.up over.link ≡ true

-- why an action is one of a path's: it ends here and the label is popped; or it is reserved, and the label is swapped for
-- the next hop's; or it is repaired, and the label is swapped for that of its bypass's end, under the label of the bypass
abbrev pub IsActionOf : Router → State → Key → PathFact → Action → Type 0
IsActionOf r s key path action =
    ((goes_on path.role ≡ false) × (action ≡ Pop))
    ⊎ ((is : IsOverLink s key) × (action ≡ Swap is.resv.label is.resv.link))
    ⊎ ((is : IsThrough r s key) × (action ≡ SwapPush is.repair.resv.label is.over.label is.over.link))

-- An entry of the table: a path has the label, and the action is that path's.
pub record IsEntry (r : Router) (s : State) (label : ℕ) (action : Action) : Type 0 where
  pub key : Key
  pub path : PathFact
  pub known : rows.find key_cmp key s.facts.paths ≡ Some path
  pub held : rows.find key_cmp key s.labels ≡ Some label
  pub stands : IsActionOf r s key path action

-- why an action is one of a tunnel's: its current LSP is reserved, and its traffic is to leave under the label that was
-- reserved; or that LSP is repaired, and it is to leave under two labels
abbrev pub IsPushOf : Router → State → Key → Action → Type 0
IsPushOf r s key action =
    ((is : IsOverLink s key) × (action ≡ PushHead None is.resv.label is.resv.link))
    ⊎ ((is : IsThrough r s key) × (action ≡ PushHead (Some is.repair.resv.label) is.over.label is.over.link))

-- An entry of the table of tunnels: the tunnel of this number is there, and the action is that of its current LSP.
pub record IsTunnelEntry (r : Router) (s : State) (number : ℕ) (action : Action) : Type 0 where
  pub tunnel : Tunnel
  pub known : rows.find nat_cmp number s.facts.tunnels ≡ Some tunnel
  pub stands : IsPushOf r s (current_key r (number, tunnel)) action

-- What becomes of a stack of labels by that table: it is sent on, its payload is for this router, or it is dropped. It
-- is no event, and nothing that the router knows changes.
abbrev pub forwarded : Router → State → List StackEntry → Forwarding
forwarded r s stack = forward_of (look r s) stack

-- Two states forward alike: each label has the same action in both, and so has each tunnel.
abbrev pub ForwardAlike : Router → State → State → Type 0
ForwardAlike r before after =
    ((label : ℕ) → look r before label ≡ look r after label) × ((number : ℕ) → look_tunnel r before number ≡ look_tunnel r after number)

-- whether what is forwarded changes from the one to the other
abbrev pub TellsChange : Bool → Router → State → State → Type 0
TellsChange false r before after = ForwardAlike r before after
TellsChange true r before after = ¬ ForwardAlike r before after
