-- What `show lsps` and `show lsp` print: how each LSP stands, why it isn't up, and what is asked and known of it.
use Rattle.std.specs.Prelude.{ℕ, ◌*◌, ◌-◌, ◌/◌, ◌^◌, ◌==◌, ◌&&◌, ◌||◌, min, not, Bool, true, false, List, [], ◌∷◌, ◌++◌, codes, flat_map, length, Option, Some, None, is_some, Result, Ok, Err, if◌then◌else◌}
use Rattle.std.specs.FinMap.Entries.{find}
use Rattle.std.specs.Fmt.{decimal}
use Rattle.std.specs.Net.Addr.{ipv4_octets}
use Rattle.std.specs.Net.Text.{ipv4_text}
use Rattle.std.specs.Option.{option_and_then, option_map, option_map_or, option_or, unwrap_or}
use Rattle.std.specs.Ordering.{is_eq, nat_cmp}
use Rattle.std.specs.Result.{result_ok}
use Rattle.std.specs.declared.net.ipv4_addr.Ipv4Addr.{Ipv4Addr}
use Rattle.rsvp_bodies.specs.Traffic.{flowspec_rate, tspec_rate}
use Rattle.rsvp_bodies.specs.declared.attr.Attr.{Attr}
use Rattle.rsvp_bodies.specs.declared.step.Step.{Step}
use Rattle.rsvp_bodies.specs.declared.trace.Trace.{Trace}
use Rattle.rsvp_bodies.specs.declared.trace.Trace.TheVariants as traces
use Rattle.rsvp_contents.specs.Limits.{is_short_route}
use Rattle.lsr_facts.specs.Lifetimes.{begins_here}
use Rattle.lsr_facts.specs.Orders.{item_cmp, key_cmp}
use Rattle.lsr_facts.specs.Priorities.{holding_of, setup_of}
use Rattle.lsr_facts.specs.Tunnels.{current_key, pending_key}
use Rattle.lsr_facts.specs.declared.choice.Choice.{Choice}
use Rattle.lsr_facts.specs.declared.errors.RsvpError.{RsvpError}
use Rattle.lsr_facts.specs.declared.key.Item.TheVariants as items
use Rattle.lsr_facts.specs.declared.key.Key.{Key}
use Rattle.lsr_facts.specs.declared.path_fact.Origin.{Origin}
use Rattle.lsr_facts.specs.declared.path_fact.PathFact.{PathFact}
use Rattle.lsr_facts.specs.declared.path_fact.Role.{Role}
use Rattle.lsr_facts.specs.declared.path_fact.Role.TheVariants as roles
use Rattle.lsr_facts.specs.declared.path_fact.Via.{Via}
use Rattle.lsr_facts.specs.declared.path_fact.Via.TheVariants as vias
use Rattle.lsr_facts.specs.declared.repair.Repair.{Repair}
use Rattle.lsr_facts.specs.declared.resv_fact.ResvFact.{ResvFact}
use Rattle.lsr_facts.specs.declared.router.Router.{Router}
use Rattle.lsr_facts.specs.declared.state.State.{State}
use Rattle.lsr_facts.specs.declared.tunnel.Noted.{Noted}
use Rattle.lsr_facts.specs.declared.tunnel.Tunnel.{Tunnel}
use Rattle.abstract_paths.specs.Heads.{head_hop}
use Rattle.abstract_paths.specs.Places.{is_up, place_of}
use Rattle.abstract_router.specs.Lsps.{around_of}
use Rattle.abstract_router.specs.Protecting.{is_protected, selected}
use Rattle.facility_backup.specs.Carrying.{names_tunnel}
use Rattle.object_text.specs.Errors.{error_name}
use Rattle.object_text.specs.Routes.{prefix_text}
use Rattle.lsr_text.specs.Routes.{name_text, step_words}
use Rattle.lsr_text.specs.Shown.{key_text, role_word}
use Rattle.lsr_session.specs.declared.lsps.Standing.{Standing}
use Rattle.lsr_session.specs.declared.lsps.Standing.TheVariants as standings

-- ---- how an LSP stands

-- what holds its label at the next hop: its reservation, or what its repair keeps of it
abbrev pub held_at : State → Key → Option ResvFact
held_at s key = option_or (find key_cmp key s.resvs) (option_map (λ repair. repair.resv) (find key_cmp key s.repairs))

-- the rate that is reserved for it, or else asked for, in bytes per second; none where its word stands for none
abbrev pub rate_at : State → Key → PathFact → Option ℕ
rate_at s key path = option_map_or (λ resv. result_ok (flowspec_rate resv.flowspec)) (held_at s key) (result_ok (tspec_rate path.tspec))

-- it ends here
abbrev pub ends_here : Role → Bool
ends_here roles.Transit = false
ends_here roles.Tail = true
ends_here roles.Head = false

-- it is to take the place of the LSP that carries a tunnel's traffic
abbrev pub is_new_of : Router → Key → ℕ × Tunnel → Bool
is_new_of r key tunnel = option_map_or (λ pending. is_eq (key_cmp pending key)) (pending_key r tunnel) false

-- and the tunnel begins here
abbrev pub is_pending : Router → State → Key → Bool
is_pending r s key = option_map_or (λ tunnel. is_new_of r key (key.session.tunnel, tunnel)) (find nat_cmp key.session.tunnel s.facts.tunnels) false

-- how one stands that isn't repaired
abbrev pub unrepaired : Router → State → Key → PathFact → Standing
unrepaired r s key path =
    if is_pending r s key then standings.Pending
    else if is_some (find key_cmp key s.resvs) || ends_here path.role then standings.Up
    else if is_up s.facts.up path.out_link then standings.Signalling
    else standings.Down

-- How an LSP that has a path stands: repaired where it runs over a bypass; else pending where it is the new one of a tunnel that
-- is being changed; else up where it is reserved or ends here; else signalling while the link that it leaves by is up, and down.
unfoldable pub standing_of : Router → State → Key → PathFact → Standing
standing_of r s key path = option_map_or (λ repair. standings.Repaired repair.bypass) (find key_cmp key s.repairs) (unrepaired r s key path)

-- in words
abbrev pub standing_words : Standing → List ℕ
standing_words standings.Up = codes "up"
standing_words standings.Signalling = codes "signalling"
standing_words standings.Down = codes "down"
standing_words (standings.Repaired bypass) = codes "repaired over bypass " ++ decimal bypass
standing_words standings.Pending = codes "pending"

-- ---- the line of an LSP

-- bits per second, by bytes per second: eight times as many, but no more than 64 bits hold
abbrev pub bits_of : ℕ → ℕ
bits_of rate = min (rate * 8) (2 ^ 64 - 1)

-- ` rate N bit/s N bytes/s`, or ` rate none`
abbrev pub rate_words : Option ℕ → List ℕ
rate_words None = codes " rate none"
rate_words (Some rate) = codes " rate " ++ (decimal (bits_of rate) ++ (codes " bit/s " ++ (decimal rate ++ codes " bytes/s")))

-- ` name "NAME"` at the end of a line, or ` name none` where no attributes say a name
abbrev pub called_words : Option Attr → List ℕ
called_words None = codes " name none\n"
called_words (Some attr) = codes " name " ++ (name_text attr.name ++ codes "\n")

-- `lsp KEY WORD `
unfoldable pub named_words : Key → List ℕ → List ℕ
named_words key word = codes "lsp " ++ (key_text key ++ (codes " " ++ (word ++ codes " ")))

-- `lsp KEY ROLE STATE`
unfoldable pub beginning_words : Key → Role → Standing → List ℕ
beginning_words key role standing = named_words key (role_word role) ++ standing_words standing

-- `lsp KEY ROLE STATE rate N bit/s N bytes/s name "NAME"`
unfoldable pub lsp_line : Key → Role → Standing → Option ℕ → Option Attr → List ℕ
lsp_line key role standing rate attr = beginning_words key role standing ++ (rate_words rate ++ called_words attr)

-- of an LSP that has a path
unfoldable pub path_line : Router → State → Key → PathFact → List ℕ
path_line r s key path = lsp_line key path.role (standing_of r s key path) (rate_at s key path) path.attr

-- of the LSP that is to carry the traffic of a tunnel, and has no path
unfoldable pub head_line : Router → ℕ × Tunnel → List ℕ
head_line r tunnel = lsp_line (current_key r tunnel) roles.Head standings.Down (result_ok (tspec_rate tunnel.1.current.tspec)) (Some tunnel.1.attr)

-- and no line where it has one
abbrev pub pathless_line : Router → State → ℕ × Tunnel → List ℕ
pathless_line r s tunnel = if is_some (find key_cmp (current_key r tunnel) s.facts.paths) then [] else head_line r tunnel

-- `show lsps`: a line for each LSP that has a path, in the order of their keys; and for each tunnel that begins here and whose LSP
-- has none, in the order of their numbers.
abbrev pub lsps_text : Router → State → List ℕ
lsps_text r s = flat_map (λ row. path_line r s row.0 row.1) s.facts.paths ++ flat_map (pathless_line r s) s.facts.tunnels

-- ---- why an LSP isn't up

-- `why WORDS`: its Path was sent last so many seconds ago
abbrev pub sent_words : State → Option ℕ → List ℕ
sent_words s None = codes "  why no Path sent yet"
sent_words s (Some moment) = codes "  why Path sent " ++ (decimal ((s.facts.moment - moment) / 1000) ++ codes " s ago, no Resv granted yet")

-- why one that has a path isn't
abbrev pub cause_words : State → Key → PathFact → List ℕ
cause_words s key path =
    if is_up s.facts.up path.out_link then sent_words s (find item_cmp (items.Down key path.out_link) s.facts.sent)
    else codes "  why link " ++ (decimal path.out_link ++ codes " down")

-- what parts a name from what is before it, if there is a name
abbrev pub gap_before : List ℕ → List ℕ
gap_before name = if length name == 0 then [] else codes " "

-- `; last error CODE/VALUE NAME from NODE`
unfoldable pub error_words : Noted → List ℕ → List ℕ → List ℕ
error_words e gap name =
    codes "; last error " ++ (decimal e.code ++ (codes "/" ++ (decimal e.value ++ (gap ++ (name ++ (codes " from " ++ ipv4_text (ipv4_octets e.node)))))))

-- if one came, by the name that `lsr explain` has for it
abbrev pub noted_words : Option Noted → List ℕ
noted_words None = []
noted_words (Some e) = error_words e (gap_before (error_name e.code e.value)) (error_name e.code e.value)

-- the error that came last for one of the LSPs of the tunnel, where it begins here
abbrev pub noted_at : State → Key → Role → Option Noted
noted_at s key role = if begins_here role then option_and_then (λ tunnel. tunnel.noted) (find nat_cmp key.session.tunnel s.facts.tunnels) else None

-- and the last error
unfoldable pub waiting_line : State → Key → PathFact → List ℕ
waiting_line s key path = cause_words s key path ++ (noted_words (noted_at s key path.role) ++ codes "\n")

-- and no line of an LSP that is up or repaired
abbrev pub why_line : State → Key → PathFact → Standing → List ℕ
why_line s key path standings.Up = []
why_line s key path standings.Signalling = waiting_line s key path
why_line s key path standings.Down = waiting_line s key path
why_line s key path (standings.Repaired bypass) = []
why_line s key path standings.Pending = waiting_line s key path

-- the error of a next hop that can't be chosen
abbrev pub error_in : Result Choice RsvpError → Option RsvpError
error_in (Ok way) = None
error_in (Err error) = Some error

-- The error where no way leads on by a tunnel's route, which is within the limits of an explicit route.
unfoldable pub hop_error : Router → State → Tunnel → Option RsvpError
hop_error r s tunnel =
    if is_short_route tunnel.current.route then error_in (head_hop (place_of r s.facts) tunnel.current.route tunnel.endpoint) else None

-- `why no next hop by the route: CODE/VALUE NAME`
unfoldable pub no_hop_line : RsvpError → List ℕ → List ℕ
no_hop_line e name = codes "  why no next hop by the route: " ++ (decimal e.code ++ (codes "/" ++ (decimal e.value ++ (codes " " ++ (name ++ codes "\n")))))

-- why a tunnel's LSP has no path while the router runs
unfoldable pub unsignalled_why : Router → State → Tunnel → List ℕ
unsignalled_why r s tunnel = option_map_or (λ e. no_hop_line e (error_name e.code e.value)) (hop_error r s tunnel) (codes "  why not signalled yet: tried again at each clock tick\n")

-- or where it is stopped
abbrev pub pathless_why : Router → State → Tunnel → List ℕ
pathless_why r s tunnel = if s.facts.cold then codes "  why router stopped: start it\n" else unsignalled_why r s tunnel

-- ---- what is asked of it

-- `endpoint ADDRESS` and `priorities setup S hold H`, as they count
unfoldable pub asked_lines : Ipv4Addr → Option Attr → List ℕ
asked_lines endpoint attr =
    codes "  endpoint " ++ (ipv4_text (ipv4_octets endpoint) ++ (codes "\n  priorities setup " ++ (decimal (setup_of attr) ++ (codes " hold "
    ++ (decimal (holding_of attr) ++ codes "\n")))))

-- what stands where there are none
abbrev pub none_word : ℕ → List ℕ
none_word count = if count == 0 then codes " none" else []

-- the steps of the route that a Path came with; none where it came without one
abbrev pub steps_of : PathFact → List Step
steps_of path = unwrap_or path.given []

-- `route STEP..`: the route that is asked for
unfoldable pub route_line : List Step → List ℕ
route_line steps = codes "  route" ++ (none_word (length steps) ++ (flat_map step_words steps ++ codes "\n"))

-- ---- what is known of it

-- a node, or a label that it gave out, after a space
abbrev pub entry_words : Trace → List ℕ
entry_words (traces.Ipv4 prefix flags) = codes " " ++ prefix_text prefix
entry_words (traces.Label flags label) = codes " label " ++ decimal label
entry_words (traces.Other bytes) = []

-- the route that was recorded: by the Resv of one that is held, else by the Path
abbrev pub recorded_at : State → Key → PathFact → List Trace
recorded_at s key path = unwrap_or (option_map_or (λ resv. resv.recorded) (held_at s key) path.recorded) []

-- `recorded NODE label L ..`, the entry that was added last first
unfoldable pub recorded_line : List Trace → List ℕ
recorded_line entries = codes "  recorded" ++ (none_word (length entries) ++ (flat_map entry_words entries ++ codes "\n"))

-- how the Paths of an origin come: over a link, or through stacks of labels
abbrev pub way_words : Via → List ℕ
way_words (vias.Link link) = codes " link " ++ decimal link
way_words vias.Stack = codes " stack"

abbrev pub origin_words : Ipv4Addr × Origin → List ℕ
origin_words row = way_words row.1.via

-- the label that this router gave
abbrev pub given_words : Option ℕ → List ℕ
given_words None = codes "  label in none"
given_words (Some label) = codes "  label in " ++ decimal label

-- `label in L link N ..`: and the link of each origin, or `stack` where its Paths come through a bypass
unfoldable pub in_line : Option ℕ → List (Ipv4Addr × Origin) → List ℕ
in_line given origins = given_words given ++ (flat_map origin_words origins ++ codes "\n")

-- `label out L link N`, of a reservation
abbrev pub reserved_out : ResvFact → List ℕ
reserved_out resv = codes "  label out " ++ (decimal resv.label ++ (codes " link " ++ (decimal resv.link ++ codes "\n")))

-- `label out L bypass N`, of a repair
abbrev pub repaired_out : Repair → List ℕ
repaired_out repair = codes "  label out " ++ (decimal repair.resv.label ++ (codes " bypass " ++ (decimal repair.bypass ++ codes "\n")))

-- or `label out none`
abbrev pub out_line : State → Key → List ℕ
out_line s key = option_map_or reserved_out (find key_cmp key s.resvs) (option_map_or repaired_out (find key_cmp key s.repairs) (codes "  label out none\n"))

-- the number of the bypass over which one that is reserved would be repaired
abbrev pub chosen_on : Router → State → Key → PathFact → ResvFact → Option ℕ
chosen_on r s key path resv = option_map (λ choice. choice.bypass) (selected (around_of r s) key path (find key_cmp key s.assignments) resv)

unfoldable pub chosen : Router → State → Key → PathFact → Option ℕ
chosen r s key path = option_and_then (chosen_on r s key path) (find key_cmp key s.resvs)

-- the LSP begins here, and a bypass runs in its tunnel
abbrev pub is_for_bypass : State → Key → Role → Bool
is_for_bypass s key role = begins_here role && names_tunnel s.facts.bypasses key.session.tunnel

-- why one isn't protected for which no bypass is chosen
unfoldable pub unprotected : Router → State → Key → PathFact → List ℕ
unprotected r s key path =
    if ends_here path.role then codes "the LSP ends here"
    else if is_for_bypass s key path.role then codes "a bypass runs in its tunnel"
    else if not (is_protected (around_of r s) key path) then codes "flag 01 not set"
    else if is_some (find key_cmp key s.resvs) then codes "no bypass of its link can take it"
    else codes "not reserved yet"

-- `not protected: WHY`
unfoldable pub unprotected_line : List ℕ → List ℕ
unprotected_line why = codes "  not protected: " ++ (why ++ codes "\n")

-- `protected by bypass N`, or why not
unfoldable pub ready_line : Router → State → Key → PathFact → List ℕ
ready_line r s key path =
    option_map_or (λ bypass. codes "  protected by bypass " ++ (decimal bypass ++ codes "\n")) (chosen r s key path) (unprotected_line (unprotected r s key path))

-- `protected by bypass N, in use`, of a repair
abbrev pub used_line : Repair → List ℕ
used_line repair = codes "  protected by bypass " ++ (decimal repair.bypass ++ codes ", in use\n")

-- how the LSP is protected
abbrev pub protection_line : Router → State → Key → PathFact → List ℕ
protection_line r s key path = option_map_or used_line (find key_cmp key s.repairs) (ready_line r s key path)

-- ---- one LSP

-- the lines of what is asked and known of an LSP that has a path
unfoldable pub known_lines : State → Key → PathFact → List ℕ
known_lines s key path =
    asked_lines key.session.endpoint path.attr ++ (route_line (steps_of path) ++ (recorded_line (recorded_at s key path)
    ++ (in_line (find key_cmp key s.labels) path.origins ++ out_line s key)))

-- all lines of an LSP that has a path
unfoldable pub lsp_lines : Router → State → Key → PathFact → List ℕ
lsp_lines r s key path =
    path_line r s key path ++ (why_line s key path (standing_of r s key path) ++ (known_lines s key path ++ protection_line r s key path))

-- all lines of a tunnel's LSP that has none
unfoldable pub pathless_lines : Router → State → ℕ × Tunnel → List ℕ
pathless_lines r s tunnel =
    head_line r tunnel ++ (pathless_why r s tunnel.1 ++ (asked_lines tunnel.1.endpoint (Some tunnel.1.attr) ++ route_line tunnel.1.current.route))

-- if the LSP is a tunnel's
abbrev pub pathless_of : Router → State → Key → ℕ × Tunnel → List ℕ
pathless_of r s key tunnel = if is_eq (key_cmp (current_key r tunnel) key) then pathless_lines r s tunnel else []

-- and the tunnel begins here
abbrev pub pathless_at : Router → State → Key → List ℕ
pathless_at r s key = option_map_or (λ tunnel. pathless_of r s key (key.session.tunnel, tunnel)) (find nat_cmp key.session.tunnel s.facts.tunnels) []

-- `show lsp KEY`: nothing where there is neither such a path nor such a tunnel
unfoldable pub lsp_text : Router → State → Key → List ℕ
lsp_text r s key = option_map_or (lsp_lines r s key) (find key_cmp key s.facts.paths) (pathless_at r s key)

-- the LSP that is to take its place, if there is one
abbrev pub pending_text : Router → State → Option Key → List ℕ
pending_text r s None = []
pending_text r s (Some key) = lsp_text r s key

-- the LSPs of a tunnel: the one that carries its traffic once it is reserved, and then the new one
abbrev pub tunnel_text : Router → State → ℕ × Tunnel → List ℕ
tunnel_text r s tunnel = lsp_text r s (current_key r tunnel) ++ pending_text r s (pending_key r tunnel)

-- `show lsp N`: nothing where no such tunnel begins here
abbrev pub lsps_of_text : Router → State → ℕ → List ℕ
lsps_of_text r s number = option_map_or (λ tunnel. tunnel_text r s (number, tunnel)) (find nat_cmp number s.facts.tunnels) []
