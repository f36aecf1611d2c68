-- What a session answers to a request.
use Rattle.std.specs.Prelude.{◌≡◌, ◌-◌, ◌==◌, ℕ, Bool, List, ◌∷◌, ◌++◌, [], length, drop, map, flat_map, if◌then◌else◌, is_some, string_bytes, T, Result, Ok, Err}
use Rattle.std.specs.FinMap.Entries.{is_sorted}
use Rattle.std.specs.List.{count_by}
use Rattle.std.specs.Option.{option_map_or}
use Rattle.std.specs.Ordering.{nat_cmp}
use Rattle.std.specs.Str.{IsUtf8}
use Rattle.datagrams.specs.declared.datagram.Passed.{Passed}
use Rattle.datagrams.specs.declared.datagram.Passed.TheVariants as passes
use Rattle.forwarding_table.specs.declared.action.Action.{Action}
use Rattle.abstract_paths.specs.declared.events.Made.{Made}
use Rattle.abstract_paths.specs.declared.events.Event.{Event}
use Rattle.abstract_paths.specs.declared.events.Event.TheVariants as events
use Rattle.lsr_facts.specs.declared.bypass.Bypass.{Bypass}
use Rattle.lsr_facts.specs.declared.key.Key.{Key}
use Rattle.lsr_facts.specs.declared.refusal.Refusal.{Refusal}
use Rattle.lsr_facts.specs.declared.reply.Reply.{Reply}
use Rattle.lsr_facts.specs.declared.reply.Reply.TheVariants as replies
use Rattle.lsr_facts.specs.declared.router.Link.{Link}
use Rattle.lsr_facts.specs.declared.tunnel.Tunnel.{Tunnel}
use Rattle.lsr_facts.specs.Claims.{reserved_of}
use Rattle.abstract_paths.specs.Places.{is_up}
use Rattle.abstract_router.specs.BypassTunnels.{bypass_tunnels_of, over_at}
use Rattle.abstract_router.specs.Preempting.{claims_of}
use Rattle.bypass_shares.specs.Shares.{assigned_of}
use Rattle.abstract_router.specs.States.{State}
use Rattle.abstract_router.specs.Tables.{look_tunnel}
use Rattle.router_core.specs.Below.labels.Rows.{IsTableOf}
use Rattle.router_core.specs.States.{RouterState}
use Rattle.router_core.specs.Machines.{IsDatagramServed, IsEventServed}
use Rattle.router_core.specs.declared.inputs.Served.{Served}
use Rattle.router_core.specs.declared.inputs.Served.TheVariants as serves
use Rattle.lsr_text.specs.Answers.{answer_text, refusal_line, replies_text}
use Rattle.lsr_text.specs.FrameLines.{delivery_line, sent_line}
use Rattle.lsr_text.specs.Labels.{labels_text}
use Rattle.lsr_text.specs.Lsps.{path_lsp_text, resv_lsp_text}
use Rattle.lsr_text.specs.Rows.{bypass_line, head_line, link_line, resvs_text, table_text}
use Rattle.lsr_text.specs.Shown.{paths_text}
use Rattle.lsr_text.specs.Summary.{assigned_line, counts_text, reserved_line}
use Rattle.lsr_text.specs.Tunnels.{tunnels_text}
use Rattle.lsr_lines.specs.declared.lines.Request.{Request}
use Rattle.lsr_lines.specs.declared.lines.Request.TheVariants as requests
use Rattle.lsr_lines.specs.declared.lsps.LspName.{LspName}
use Rattle.lsr_lines.specs.declared.shown.Shown.{Shown}
use Rattle.lsr_lines.specs.declared.shown.Shown.TheVariants as shows
use Rattle.lsr_config.specs.Configs.{Setup, setup}
use Rattle.lsr_config.specs.declared.sockets.LinkSockets.{LinkSockets}
use Rattle.config_text.specs.Printing.{config_text}
use Rattle.lsr_session.specs.Lsps.{lsp_text, lsps_of_text, lsps_text}
use Rattle.lsr_session.specs.declared.requests.Answered.{Answered}
use Rattle.lsr_session.specs.declared.requests.Answered.TheVariants as answers
use Rattle.lsr_session.specs.declared.shown.TheConstants.{NO_TEXT}

-- a session: what its router is and knows, and the last replies, the newest at the end
pub record SessionState : Type 0 where
  pub router : RouterState
  pub recent : List Reply

-- the last 32 replies
abbrev pub latest : List Reply → List Reply
latest replies = drop (length replies - 32) replies

-- An event: it makes its step; or it is left out, and leaves the router as it was. Memory may run out only for one that
-- isn't silent, while the router runs.
pub record TakesEvent (before : RouterState) (event : Event) (answer : Result Made Refusal) (after : RouterState) : Type 0 where
  pub served : IsEventServed before.router before.state event after.state answer
  pub router : after.router ≡ before.router

-- A datagram that came over a link: the event that it is makes its step; or it is a labelled frame, and is passed on or
-- delivered; or it is left out. Only a step changes the router.
pub record TakesDatagram (before : RouterState) (link : ℕ) (datagram : List ℕ) (answer : Result Served Refusal) (after : RouterState) : Type 0 where
  pub served : IsDatagramServed before.router before.state link datagram after.state answer
  pub router : after.router ≡ before.router

-- what is answered, without what is sent
abbrev pub reply_of : Result Made Refusal → Reply
reply_of (Ok e) = e.reply
reply_of (Err refusal) = replies.Refused refusal

-- what is printed for what becomes of a labelled frame: `frame LINK HEX` where it is sent on, `deliver HEX` where its
-- payload is for this router
abbrev pub passed_text : Passed → List ℕ
passed_text (passes.Sent link frame) = sent_line link frame
passed_text (passes.Delivered payload) = delivery_line payload

-- what is printed for what comes of a datagram: the answer to the event that it is; what becomes of the labelled frame
-- that it is; or its refusal
abbrev pub served_text : Result Served Refusal → List ℕ
served_text (Ok (serves.Made made)) = answer_text (Ok made)
served_text (Ok (serves.Passed passed)) = passed_text passed
served_text (Err refusal) = refusal_line refusal

-- the last replies then: a refusal is one, and a frame that is sent on or delivered has none
abbrev pub remembered : List Reply → Result Served Refusal → List Reply
remembered recent (Ok (serves.Made made)) = latest (recent ++ made.reply ∷ [])
remembered recent (Ok (serves.Passed passed)) = recent
remembered recent (Err refusal) = latest (recent ++ replies.Refused refusal ∷ [])

-- what came of an event, as of anything that comes
abbrev pub served_of : Result Made Refusal → Result Served Refusal
served_of (Ok made) = Ok (serves.Made made)
served_of (Err refusal) = Err refusal

-- A datagram came, and is served. Its reply, if it has one, is the newest of the last ones.
pub record ServesDatagram (before : SessionState) (link : ℕ) (datagram : List ℕ) (answer : Result Served Refusal) (after : SessionState) : Type 0 where
  pub taken : TakesDatagram before.router link datagram answer after.router
  pub recent : after.recent ≡ remembered before.recent answer

-- a message came: the Hop frame that holds it is served, whose first byte is 1
abbrev pub ServesArrival : SessionState → ℕ → List ℕ → Result Served Refusal → SessionState → Type 0
ServesArrival before link message answer after = ServesDatagram before link (1 ∷ message) answer after

-- An event is served, and its reply is the newest of the last ones.
pub record ServesEvent (before : SessionState) (event : Event) (answer : Result Served Refusal) (after : SessionState) : Type 0 where
  pub made : Result Made Refusal
  pub taken : TakesEvent before.router event made after.router
  pub served : answer ≡ served_of made
  pub recent : after.recent ≡ remembered before.recent answer

-- the line of what is done with the traffic of a tunnel, if anything is
abbrev pub head_text : RouterState → ℕ × Tunnel → List ℕ
head_text r tunnel = option_map_or (head_line tunnel.0) (look_tunnel r.router r.state tunnel.0) []

-- those lines of tunnels, in the order of their numbers
abbrev pub heads_text : RouterState → List (ℕ × Tunnel) → List ℕ
heads_text r tunnels = flat_map (head_text r) tunnels

-- The label table is printed: a line for each label that has an action, in the order of the labels, and then for each
-- tunnel that begins here and has one.
pub record PrintsTable (r : RouterState) (printed : List ℕ) : Type 0 where
  pub rows : List (ℕ × Action)
  pub table : IsTableOf r.router r.state rows
  pub sorted : T (is_sorted nat_cmp rows)
  pub shown : printed ≡ table_text rows ++ heads_text r r.state.facts.tunnels

-- what is reserved of a link at each priority, 0 (best) to 7
abbrev pub sums_of : State → ℕ → List ℕ
sums_of s link = map (λ priority. reserved_of link priority (claims_of s.facts.paths s.resvs)) (0 ∷ 1 ∷ 2 ∷ 3 ∷ 4 ∷ 5 ∷ 6 ∷ 7 ∷ [])

-- the line of a link: whether it is up, its limit, and what is reserved of it
abbrev pub link_text : State → ℕ × Link → List ℕ
link_text s link = link_line link.0 (is_up s.facts.up link.0) link.1.limit (sums_of s link.0)

-- a line for each link of the router, in the order of their numbers
abbrev pub links_text : RouterState → List ℕ
links_text r = flat_map (link_text r.state) r.router.links

-- the bypass of a number is up
abbrev pub is_bypass_up : RouterState → ℕ → Bool
is_bypass_up r number = is_some (over_at (bypass_tunnels_of r.router r.state) number)

-- how many LSPs are repaired over it
abbrev pub uses_of : RouterState → ℕ → ℕ
uses_of r number = count_by (λ repair. repair.1.bypass == number) r.state.repairs

-- the line of a bypass
abbrev pub bypass_text : RouterState → ℕ × Bypass → List ℕ
bypass_text r row = bypass_line row (is_bypass_up r row.0) (uses_of r row.0) (assigned_of row.0 r.state.assignments)

-- a line for each bypass, in the order of their numbers
abbrev pub bypasses_text : RouterState → List ℕ
bypasses_text r = flat_map (bypass_text r) r.state.facts.bypasses

-- the key of an LSP that words name
abbrev pub key_of : LspName → Key
key_of lsp = record {
  session = record { endpoint = lsp.session.endpoint; tunnel = lsp.session.tunnel; extended = lsp.session.extended };
  sender = record { sender = lsp.sender.sender; lsp = lsp.sender.lsp };
}

-- the line of what is reserved of a link at all priorities, 0 (best) to 7
abbrev pub room_text : State → ℕ × Link → List ℕ
room_text s link = reserved_line link.0 (reserved_of link.0 7 (claims_of s.facts.paths s.resvs)) link.1.limit

-- the line of what is assigned of a bypass, if it has a capacity
abbrev pub share_text : State → ℕ × Bypass → List ℕ
share_text s row = if row.1.capacity == 0 then [] else assigned_line row.0 (assigned_of row.0 s.assignments) row.1.capacity

-- how much there is of everything, and then a line for each link of the router, and for each bypass that has a capacity, in
-- the order of their numbers
abbrev pub summary_text : RouterState → List ℕ
summary_text r =
    counts_text r.router r.state ++ (flat_map (room_text r.state) r.router.links ++ flat_map (share_text r.state) r.state.facts.bypasses)

-- the configuration that runs: the router's, with the static routes, tunnels and bypasses that it has now
abbrev pub running : RouterState → Setup
running r = setup r.router r.state.facts.routes r.state.facts.tunnels r.state.facts.bypasses

-- These bytes are printed where they are UTF-8, as they are where all names are; and else that there is no text.
abbrev pub IsTextOf : List ℕ → List ℕ → Type 0
IsTextOf bytes printed = (IsUtf8 bytes → printed ≡ bytes) × ((IsUtf8 bytes → ⊥) → printed ≡ NO_TEXT.now)

-- What a router shows, whose links have these socket addresses, by their numbers.
abbrev pub Shows : RouterState → List (ℕ × LinkSockets) → Shown → List ℕ → Type 0
Shows r sockets shows.Paths printed = printed ≡ paths_text r.state.facts.paths
Shows r sockets shows.Resvs printed = printed ≡ resvs_text r.state.resvs
Shows r sockets shows.Table printed = PrintsTable r printed
Shows r sockets shows.Labels printed = printed ≡ labels_text r.router r.state
Shows r sockets shows.Links printed = printed ≡ links_text r
Shows r sockets shows.Tunnels printed = printed ≡ tunnels_text r.state.facts.tunnels
Shows r sockets shows.Bypasses printed = printed ≡ bypasses_text r
Shows r sockets shows.Summary printed = printed ≡ summary_text r
Shows r sockets shows.Config printed = IsTextOf (config_text (running r) sockets) printed
Shows r sockets shows.Lsps printed = printed ≡ lsps_text r.router r.state
Shows r sockets (shows.Path lsp) printed = printed ≡ path_lsp_text r.router r.state (key_of lsp)
Shows r sockets (shows.Resv lsp) printed = printed ≡ resv_lsp_text r.state (key_of lsp)
Shows r sockets (shows.TunnelLsps number) printed = printed ≡ lsps_of_text r.router r.state number
Shows r sockets (shows.Lsp lsp) printed = printed ≡ lsp_text r.router r.state (key_of lsp)

-- something happened to the router, and this holds of what came of it; the session was asked what it knows, and this holds of the lines
abbrev pub IsServed : Answered → (Result Served Refusal → Type 0) → Type 0
IsServed (answers.Served answer) holds = holds answer
IsServed (answers.Shown text) holds = ⊥

abbrev pub IsShown : Answered → (List ℕ → Type 0) → Type 0
IsShown (answers.Served answer) holds = ⊥
IsShown (answers.Shown text) holds = holds (string_bytes text)

-- What came of a request, and what the session is then: the answer to an event, be it a command or not; what comes of a datagram, be it a
-- labelled frame or not; or what the session shows of itself as it stands.
abbrev pub IsAnswered : SessionState → Request → Answered → SessionState → Type 0
IsAnswered before (requests.Receive arrival) answered after = IsServed answered (λ answer. ServesArrival before arrival.link arrival.bytes.items answer after)
IsAnswered before (requests.Frame arrival) answered after = IsServed answered (λ answer. ServesDatagram before arrival.link arrival.bytes.items answer after)
IsAnswered before (requests.Tick moment) answered after = IsServed answered (λ answer. ServesEvent before (events.Tick moment) answer after)
IsAnswered before (requests.LinkUp link) answered after = IsServed answered (λ answer. ServesEvent before (events.LinkUp link) answer after)
IsAnswered before (requests.LinkDown link) answered after = IsServed answered (λ answer. ServesEvent before (events.LinkDown link) answer after)
IsAnswered before requests.Restart answered after = IsServed answered (λ answer. ServesEvent before events.Restart answer after)
IsAnswered before requests.Start answered after = IsServed answered (λ answer. ServesEvent before events.Start answer after)
IsAnswered before (requests.Command command) answered after = IsServed answered (λ answer. ServesEvent before (events.Command command) answer after)
IsAnswered before requests.Recent answered after = IsShown answered (λ text. text ≡ replies_text before.recent) × (after ≡ before)
IsAnswered before (requests.Show shown) answered after = IsShown answered (Shows before.router [] shown) × (after ≡ before)

-- what is printed of it
abbrev pub answered_text : Answered → List ℕ
answered_text (answers.Served answer) = served_text answer
answered_text (answers.Shown text) = string_bytes text

-- what is printed for a request, and what the session is then
abbrev pub PrintsAnswer : SessionState → Request → List ℕ → SessionState → Type 0
PrintsAnswer before request printed after = (answered : Answered) × IsAnswered before request answered after × (printed ≡ answered_text answered)
