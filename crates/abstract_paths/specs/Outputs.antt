-- What is sent between what was wanted and what is, for items of any kind.
use Rattle.std.specs.Prelude.{ℕ, ◌&&◌, ◌==◌, not, nat_eq, Bool, false, if◌then◌else◌, List, filter, filter_map, length, map, Option, Some, None, is_none}
use Rattle.std.specs.Cmp.Lexicographic.{pointwise}
use Rattle.std.specs.FinMap.Entries.{find}
use Rattle.std.specs.List.{list_any}
use Rattle.std.specs.Option.{option_map, option_map_or}
use Rattle.std.specs.Ordering.{eq_by_cmp}
use Rattle.std.specs.declared.cmp.Ordering.{Ordering}
use Rattle.rsvp_contents.specs.declared.messages.Content.{Content}
use Rattle.rsvp_contents.specs.declared.messages.Content.TheVariants as contents
use Rattle.abstract_paths.specs.Frames.{frame_bytes}
use Rattle.abstract_paths.specs.Frame.{Frame}
use Rattle.abstract_paths.specs.Frame.TheVariants as frames
use Rattle.abstract_paths.specs.Payload.TheVariants as payloads
use Rattle.abstract_paths.specs.declared.events.Output.{Output}
use Rattle.abstract_paths.specs.Outcomes.{sent_by}
use Rattle.abstract_paths.specs.Places.{is_up}

-- the message that ends what a message set up: a PathTear for a Path (RFC 2205, 3.1.5), and a ResvTear for a Resv that
-- names an LSP (RFC 2205, 3.1.6)
abbrev pub tear_of : Content → Option Content
tear_of (contents.Path p) = Some (contents.PathTear (record { session = p.session; hop = p.hop; sender = p.sender }))
tear_of (contents.Resv v) =
    if length v.descriptors == 0 then None
    else Some (contents.ResvTear (record { session = v.session; hop = v.hop; style = v.style; filters = map (λ d. d.filter) v.descriptors }))
tear_of _ = None

-- The tear of what was sent in a frame over a link: it goes the same way, under the same labels, or to the same router.
-- What others sent is none of this router's.
abbrev pub tear_by : ℕ → Frame → Option Output
tear_by link (frames.Hop content) = option_map (sent_by link) (tear_of content)
tear_by link (frames.Labelled stack (payloads.Message content)) =
    option_map (λ tear. record { link = link; frame = frames.Labelled stack (payloads.Message tear) }) (tear_of content)
tear_by link (frames.Labelled stack payload) = None
tear_by link (frames.Routed to limit content) =
    option_map (λ tear. record { link = link; frame = frames.Routed to limit tear }) (tear_of content)
tear_by link (frames.Relayed to limit message) = None

-- the frames are the same, byte for byte
abbrev pub is_same_frame : Frame → Frame → Bool
is_same_frame a b = pointwise nat_eq (frame_bytes a) (frame_bytes b)

-- The item was wanted, and is no more: it is torn down over the link that it went over, where that is up
-- (RFC 2205, 2.4). Items are of any kind that has an order.
abbrev pub tear_for : {I : Type 0} → List (ℕ × Bool) → Option Output → I × Output → Option Output
tear_for up now was = if is_none now && is_up up was.1.link then tear_by was.1.link was.1.frame else None

-- the item is one of those that are due
abbrev pub is_due : {I : Type 0} → (I → I → Ordering) → List I → I → Bool
is_due cmp due item = list_any (eq_by_cmp cmp item) due

-- an item rests where it isn't due, and was wanted before with the same frame
abbrev pub rests : {I : Type 0} → (I → I → Ordering) → List I → Option Output → I × Output → Bool
rests cmp due was wants = not (is_due cmp due wants.0) && option_map_or (λ o. is_same_frame wants.1.frame o.frame) was false

-- an item is sent at once where it is new or changed (RFC 2205, 2.3), and where it is due
abbrev pub send_for : {I : Type 0} → (I → I → Ordering) → List I → Option Output → I × Output → Option Output
send_for cmp due was wants = if rests cmp due was wants then None else Some wants.1

-- what comes of each row, by what the other rows have under its key
abbrev pub between : {K C O : Type 0} → (K → K → Ordering) → (Option C → K × C → Option O) → List (K × C) → List (K × C) → List O
between cmp f rows others = filter_map (λ row. f (find cmp row.0 others) row) rows

-- the errors that go out: those whose link is up
abbrev pub errors_out : List (ℕ × Bool) → List Output → List Output
errors_out up errors = filter (λ output. is_up up output.link) errors
