-- What events do: messages that come, moments, links, commands, a restart and a start.
use Rattle.std.specs.Prelude.{ℕ, ◌==◌, ◌&&◌, not, Bool, true, false, if◌then◌else◌, is_none, option_to_list}
use Rattle.std.specs.FinMap.Entries.{find}
use Rattle.std.specs.List.{list_any}
use Rattle.rsvp_contents.specs.declared.message.Reading.TheVariants as readings
use Rattle.rsvp_contents.specs.declared.message.Reading.{Reading}
use Rattle.rsvp_contents.specs.declared.messages.Content.TheVariants as contents
use Rattle.rsvp_contents.specs.declared.messages.Content.{Content}
use Rattle.rsvp_contents.specs.declared.messages.Path.{Path}
use Rattle.lsr_facts.specs.Orders.{key_cmp}
use Rattle.lsr_facts.specs.Routers.{link_at}
use Rattle.lsr_facts.specs.declared.refusal.Refusal.TheVariants.{InUse, LinkDown, NoMatch, UnknownLink}
use Rattle.lsr_facts.specs.declared.reply.Reply.TheVariants as replies
use Rattle.lsr_facts.specs.declared.reply.Reply.{Reply}
use Rattle.lsr_facts.specs.declared.router.Router.{Router}
use Rattle.lsr_facts.specs.Reservations.{expire_repairs, expire_resvs}
use Rattle.abstract_paths.specs.declared.commands.Command.{Command}
use Rattle.abstract_paths.specs.declared.commands.Command.TheVariants.{DropBypass}
use Rattle.abstract_paths.specs.declared.ways.ArrivalWay.{ArrivalWay}
use Rattle.abstract_paths.specs.declared.ways.ArrivalWay.TheVariants as ways
use Rattle.abstract_paths.specs.declared.ways.Arrive.{Arrive}
use Rattle.abstract_paths.specs.declared.events.Event.TheVariants as events
use Rattle.abstract_paths.specs.declared.events.Event.{Event}
use Rattle.abstract_paths.specs.Commands.{begun_by, command}
use Rattle.abstract_paths.specs.Links.{link_change}
use Rattle.abstract_paths.specs.Merging.{stack_path_arrival, stack_path_failed, stack_tear_arrival}
use Rattle.abstract_paths.specs.Paths.{failed, key_of, path_arrival, unknown_object}
use Rattle.abstract_paths.specs.Places.{is_up}
use Rattle.abstract_paths.specs.Relays.{relay}
use Rattle.lsr_facts.specs.Lifetimes.{due_items}
use Rattle.abstract_paths.specs.Restarts.{restarted, started}
use Rattle.abstract_paths.specs.Tears.{path_err_arrival, path_tear_arrival}
use Rattle.abstract_paths.specs.Time.{tick}
use Rattle.lsr_facts.specs.Errors.{no_label}
use Rattle.label_space.specs.Rests.{resting_past}
use Rattle.abstract_router.specs.Labels.{has_free_label}
use Rattle.abstract_router.specs.Outcomes.{Outcome, of_paths, refused}
use Rattle.abstract_router.specs.Reserving.{resv_arrival, unknown_resv}
use Rattle.abstract_router.specs.Returning.{returned_err, returned_resv, returned_tear, returned_unknown}
use Rattle.abstract_router.specs.States.{State, bare, without_held}
use Rattle.abstract_router.specs.Tearing.{resv_err_arrival, resv_tear_arrival, stack_err_arrival}

-- the reply is that it was done
abbrev pub is_done : Reply → Bool
is_done replies.Done = true
is_done _ = false

-- A Path does what it does of itself; but one that would be taken, of a new LSP, is in error where no label is free
-- for it (RFC 3209, 4.2.4 and 7.3).
unfoldable pub labelled_path_arrival : Router → State → ℕ → Path → Outcome
labelled_path_arrival r s link p =
    let o = path_arrival r s.facts link p in
    if is_done o.reply && is_none (find key_cmp (key_of p) s.facts.paths) && not (has_free_label r s.labels s.resting)
    then of_paths s (failed r s.facts link p no_label)
    else of_paths s o

-- what a message does that is read whole
abbrev pub message_arrival : Router → State → ℕ → Content → Outcome
message_arrival r s link (contents.Path p) = labelled_path_arrival r s link p
message_arrival r s link (contents.Resv v) = resv_arrival r s link v
message_arrival r s link (contents.PathErr e) = of_paths s (path_err_arrival r s.facts link e)
message_arrival r s link (contents.ResvErr e) = resv_err_arrival r s link e
message_arrival r s link (contents.PathTear t) = of_paths s (path_tear_arrival s.facts link t)
message_arrival r s link (contents.ResvTear t) = resv_tear_arrival s link t

-- A Path or a Resv with an object that it doesn't know is in error (RFC 2205, 3.10). Another message is as without that.
abbrev pub unknown_arrival : Router → State → ℕ → Content → ℕ → ℕ → Outcome
unknown_arrival r s link (contents.Path p) class ctype = of_paths s (failed r s.facts link p (unknown_object class ctype))
unknown_arrival r s link (contents.Resv v) class ctype = unknown_resv r s link v class ctype
unknown_arrival r s link content class ctype = message_arrival r s link content

-- what a message does, whole or with an object that it doesn't know
abbrev pub reading_arrival : Router → State → ℕ → Reading → Outcome
reading_arrival r s link (readings.Whole content) = message_arrival r s link content
reading_arrival r s link (readings.Unknown content class ctype) = unknown_arrival r s link content class ctype

-- What a message does that came through a stack of labels: it is about an LSP that another router repairs, over a bypass
-- that ends here (RFC 4090, 7). The link doesn't count. No other type comes so.
abbrev pub stack_arrival : Router → State → Content → Outcome
stack_arrival r s (contents.Path p) = of_paths s (stack_path_arrival s.facts p)
stack_arrival r s (contents.PathTear t) = of_paths s (stack_tear_arrival s.facts t)
stack_arrival r s (contents.ResvErr e) = stack_err_arrival r s e
stack_arrival r s content = refused s NoMatch

-- and with an object that it doesn't know
abbrev pub unknown_stack_arrival : Router → State → Content → ℕ → ℕ → Outcome
unknown_stack_arrival r s (contents.Path p) class ctype = of_paths s (stack_path_failed r s.facts p (unknown_object class ctype))
unknown_stack_arrival r s content class ctype = stack_arrival r s content

-- What a message does that came in a Routed frame: it is about an LSP that this router repairs, from the end of the bypass
-- or beyond. No other type comes so.
abbrev pub routed_arrival : Router → State → Content → Outcome
routed_arrival r s (contents.Resv v) = returned_resv r s v
routed_arrival r s (contents.ResvTear t) = returned_tear r s t
routed_arrival r s (contents.PathErr e) = returned_err r s e
routed_arrival r s content = refused s NoMatch

-- and with an object that it doesn't know
abbrev pub unknown_routed_arrival : Router → State → Content → ℕ → ℕ → Outcome
unknown_routed_arrival r s (contents.Resv v) class ctype = returned_unknown r s v class ctype
unknown_routed_arrival r s content class ctype = routed_arrival r s content

-- What a message does, by the way in which it came, whole or with an object that it doesn't know.
abbrev pub arrival_by : Router → State → ArrivalWay → ℕ → Reading → Outcome
arrival_by r s ways.Hop link reading = reading_arrival r s link reading
arrival_by r s ways.Stack link (readings.Whole content) = stack_arrival r s content
arrival_by r s ways.Stack link (readings.Unknown content class ctype) = unknown_stack_arrival r s content class ctype
arrival_by r s ways.Routed link (readings.Whole content) = routed_arrival r s content
arrival_by r s ways.Routed link (readings.Unknown content class ctype) = unknown_routed_arrival r s content class ctype

-- A message that comes over no link of this router, or over one that is down, is refused.
unfoldable pub arrival : Router → State → Arrive → Outcome
arrival r s a =
    if is_none (link_at r a.link) then refused s UnknownLink
    else if not (is_up s.facts.up a.link) then refused s LinkDown
    else arrival_by r s a.way a.link a.reading

-- A moment that isn't refused counts for reservations, repairs and labels too: what has expired goes (RFC 2205, 2.3), labels
-- are free whose rest is over, and Resvs are due (RFC 2205, 3.7).
abbrev pub for_reservations : Router → State → ℕ → Outcome → Outcome
for_reservations r s n o =
    if o.is_silent then o
    else record o { after = record o.after { resvs = expire_resvs n s.resvs; repairs = expire_repairs n s.repairs; resting = resting_past n s.resting }; upstream_due = due_items r.refresh_ms s.sent_upstream n }

-- A moment comes.
unfoldable pub moment_comes : Router → State → ℕ → Outcome
moment_comes r s n = for_reservations r s n (of_paths s (tick r s.facts n))

-- the command would drop a bypass that an LSP runs over
abbrev pub takes_used_bypass : State → Command → Bool
takes_used_bypass s (DropBypass number) = list_any (λ repair. repair.1.bypass == number) s.repairs
takes_used_bypass s c = false

-- What a command does that paths, tunnels, bypasses and routes admit. Of the LSP that it has signalled neither reservation
-- nor repair is known: what a path of another role had under its key is lost.
abbrev pub commanded_by : Router → State → Command → Outcome → Outcome
commanded_by r s c o =
    if takes_used_bypass s c then refused s InUse else record o { after = without_held (option_to_list (begun_by r s.facts c)) o.after }

-- A command.
unfoldable pub command_comes : Router → State → Command → Outcome
command_comes r s c =
    let o = of_paths s (command r s.facts c) in
    if o.is_silent then o else commanded_by r s c o

-- A restart: what messages set up is lost, reservations, repairs, promises and labels too, and no label rests.
abbrev pub lost : State → Outcome
lost s =
    let o = restarted s.facts in
    record (of_paths s o) { after = bare o.after }

-- What an event does of itself.
abbrev pub outcome : Router → State → Event → Outcome
outcome r s (events.Arrive a) = arrival r s a
outcome r s (events.Relay m) = of_paths s (relay r s.facts m)
outcome r s (events.Tick n) = moment_comes r s n
outcome r s (events.LinkUp number) = of_paths s (link_change r s.facts number true)
outcome r s (events.LinkDown number) = of_paths s (link_change r s.facts number false)
outcome r s (events.Command c) = command_comes r s c
outcome r s events.Restart = lost s
outcome r s events.Start = of_paths s (started s.facts)
