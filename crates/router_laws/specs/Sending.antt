-- What the laws on what a step sends speak of.
use Rattle.std.specs.Prelude.{◌||◌, ℕ, not, Bool, true, false, List, filter, filter_map, map, Option, Some, None, is_none}
use Rattle.std.specs.FinMap.Entries.{find, where_key}
use Rattle.std.specs.Option.{option_map_or}
use Rattle.std.specs.declared.cmp.Ordering.{Ordering}
use Rattle.rsvp_contents.specs.declared.messages.Content.{Content}
use Rattle.rsvp_contents.specs.declared.messages.Content.TheVariants as contents
use Rattle.lsr_facts.specs.Lifetimes.{has_waited}
use Rattle.abstract_paths.specs.Frame.{Frame}
use Rattle.abstract_paths.specs.Frame.TheVariants as frames
use Rattle.abstract_paths.specs.Payload.TheVariants as payloads
use Rattle.abstract_paths.specs.declared.events.Output.{Output}
use Rattle.abstract_paths.specs.Outputs.{is_same_frame, tear_by}
use Rattle.abstract_paths.specs.Places.{is_up}

-- What is wanted now is new, or changed: nothing was wanted in its place before, or another frame (RFC 2205, 2.3).
abbrev pub is_news : Option Output → Output → Bool
is_news was now = not (option_map_or (λ o. is_same_frame now.frame o.frame) was false)

-- what this router says itself in a frame: nothing where it passes on what others sent
abbrev pub content_of : Frame → Option Content
content_of (frames.Hop content) = Some content
content_of (frames.Labelled stack (payloads.Message content)) = Some content
content_of (frames.Labelled stack payload) = None
content_of (frames.Routed to limit content) = Some content
content_of (frames.Relayed to limit message) = None

abbrev pub says : (Content → Bool) → Output → Bool
says test output = option_map_or test (content_of output.frame) false

-- a tear of a path or of a reservation (RFC 2205, 3.1.5 and 3.1.6)
abbrev pub is_tear : Content → Bool
is_tear (contents.PathTear t) = true
is_tear (contents.ResvTear t) = true
is_tear content = false

-- an error of a path (RFC 2205, 3.1.7)
abbrev pub is_path_err : Content → Bool
is_path_err (contents.PathErr e) = true
is_path_err content = false

-- a message that makes or renews state at a neighbour (RFC 2205, 3.1.3 and 3.1.4)
abbrev pub is_state : Content → Bool
is_state (contents.Path p) = true
is_state (contents.Resv v) = true
is_state content = false

-- What was wanted and is wanted no more, over links that are up. Items are of any kind that has an order.
abbrev pub wanted_no_more : {I : Type 0} → (I → I → Ordering) → List (ℕ × Bool) → List (I × Output) → List (I × Output) → List Output
wanted_no_more cmp up was is = filter (λ o. is_up up o.link) (map (λ row. row.1) (where_key cmp (λ item. is_none (find cmp item is)) was))

-- the tears of messages that were sent
abbrev pub tears_of : List Output → List Output
tears_of sent = filter_map (λ o. tear_by o.link o.frame) sent

-- what is wanted and is news
abbrev pub news_in : {I : Type 0} → (I → I → Ordering) → List (I × Output) → List (I × Output) → List Output
news_in cmp was is = map (λ row. row.1) (filter (λ row. is_news (find cmp row.0 was) row.1) is)

-- it was sent last a refresh period ago or longer, at a moment (RFC 2205, 3.7)
abbrev pub is_overdue : {I : Type 0} → (I → I → Ordering) → ℕ → List (I × ℕ) → ℕ → I → Bool
is_overdue cmp refresh_ms sent moment item = option_map_or (λ at. has_waited refresh_ms at moment) (find cmp item sent) false

-- what is wanted at a moment and is news, or due
abbrev pub due_in : {I : Type 0} → (I → I → Ordering) → ℕ → List (I × ℕ) → ℕ → List (I × Output) → List (I × Output) → List Output
due_in cmp refresh_ms sent moment was is = map (λ row. row.1) (filter (λ row. is_news (find cmp row.0 was) row.1 || is_overdue cmp refresh_ms sent moment row.0) is)
