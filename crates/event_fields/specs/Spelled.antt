-- Which bytes spell an event. A message may be spelled otherwise than this router writes it: what it is read as counts.
use Rattle.std.specs.Prelude.{◌≡◌, ◌++◌, ◌∷◌, ℕ, List, Option, Some, None, Result, Ok, Err}
use Rattle.byteorder.specs.Endian.{big_bytes}
use Rattle.rsvp_contents.specs.Picking.{content_in}
use Rattle.rsvp_contents.specs.Spelling.{SpellsReading}
use Rattle.rsvp_contents.specs.declared.dropped.Dropped.{Dropped}
use Rattle.rsvp_contents.specs.declared.dropped.Dropped.TheVariants as drops
use Rattle.rsvp_contents.specs.declared.messages.Content.{Content}
use Rattle.rsvp_contents.specs.declared.message.Reading.{Reading}
use Rattle.rsvp_contents.specs.declared.message.Reading.TheVariants as readings
use Rattle.abstract_paths.specs.Events.{IsEvent}
use Rattle.abstract_paths.specs.declared.events.Event.{Event}
use Rattle.abstract_paths.specs.declared.events.Event.TheVariants as events
use Rattle.abstract_paths.specs.declared.ways.Arrive.{Arrive}
use Rattle.abstract_paths.specs.declared.ways.Relay.{Relay}
use Rattle.journal_bytes.specs.Events.{counted_bytes, event_bytes, unknown_bytes, way_number}
use Rattle.field_bytes.specs.declared.fault.ReadFault.{ReadFault}
use Rattle.field_bytes.specs.declared.fault.ReadFault.TheVariants as faults
use Rattle.event_fields.specs.declared.unread.UnreadArrive.{UnreadArrive}
use Rattle.event_fields.specs.declared.unread.UnreadRelay.{UnreadRelay}
use Rattle.event_fields.specs.declared.unread.UnreadEvent.{UnreadEvent}
use Rattle.event_fields.specs.declared.unread.UnreadEvent.TheVariants as unread

-- The bytes spell a message for this router: its link, its way, bytes that are read as its message, and the object that its type doesn't know.
pub record SpellsArrive (bytes : List ℕ) (a : Arrive) : Type 0 where
  pub message : List ℕ
  pub spelled : SpellsReading message (readings.Whole (content_in a.reading))
  pub parts : bytes ≡ 1 ∷ (big_bytes 2 a.link ++ (way_number a.way ∷ (counted_bytes message ++ unknown_bytes a.reading)))

-- the bytes are those of the event, its message spelled in any way
abbrev pub AreOfEvent : List ℕ → Event → Type 0
AreOfEvent bytes (events.Arrive a) = SpellsArrive bytes a
AreOfEvent bytes (events.Relay r) = bytes ≡ event_bytes (events.Relay r)
AreOfEvent bytes (events.Tick moment) = bytes ≡ event_bytes (events.Tick moment)
AreOfEvent bytes (events.LinkUp link) = bytes ≡ event_bytes (events.LinkUp link)
AreOfEvent bytes (events.LinkDown link) = bytes ≡ event_bytes (events.LinkDown link)
AreOfEvent bytes (events.Command c) = bytes ≡ event_bytes (events.Command c)
AreOfEvent bytes events.Restart = bytes ≡ event_bytes events.Restart
AreOfEvent bytes events.Start = bytes ≡ event_bytes events.Start

-- The bytes spell the event. It is one that can be: its numbers are within their widths.
pub record SpellsEvent (bytes : List ℕ) (event : Event) : Type 0 where
  pub possible : IsEvent event
  pub spelled : AreOfEvent bytes event

-- The event that the bytes spell; or Format exactly where they spell none. Out of memory can come in place of any answer.
abbrev pub ReadsEvent : List ℕ → Result Event ReadFault → Type 0
ReadsEvent bytes (Ok event) = SpellsEvent bytes event
ReadsEvent bytes (Err faults.Format) = (event : Event) → SpellsEvent bytes event → ⊥
ReadsEvent bytes (Err faults.Memory) = Unit {0}

-- ---- events as their fields tell them

-- the class and the C-Type of the object that the message's type doesn't know
abbrev pub unknown_of : Reading → Option (ℕ × ℕ)
unknown_of (readings.Whole content) = None
unknown_of (readings.Unknown content class ctype) = Some (class, ctype)

-- what a message was read as, with such an object or without
abbrev pub reading_of : Content → Option (ℕ × ℕ) → Reading
reading_of content None = readings.Whole content
reading_of content (Some kind) = readings.Unknown content kind.0 kind.1

-- the fields of a message for this router are those of what it was read as
pub record IsArriveRead (u : UnreadArrive) (a : Arrive) : Type 0 where
  pub link : u.link ≡ a.link
  pub way : u.way ≡ a.way
  pub message : SpellsReading u.message (readings.Whole (content_in a.reading))
  pub unknown : u.unknown ≡ unknown_of a.reading

-- and so those of a message for another router
pub record IsRelayRead (u : UnreadRelay) (r : Relay) : Type 0 where
  pub link : u.link ≡ r.link
  pub to : u.to ≡ r.to
  pub limit : u.limit ≡ r.limit
  pub message : u.message ≡ r.message

-- the fields are those of the event
abbrev pub IsReadAs : UnreadEvent → Event → Type 0
IsReadAs (unread.Arrive u) (events.Arrive a) = IsArriveRead u a
IsReadAs (unread.Relay u) (events.Relay r) = IsRelayRead u r
IsReadAs (unread.Tick n) (events.Tick moment) = n ≡ moment
IsReadAs (unread.LinkUp n) (events.LinkUp link) = n ≡ link
IsReadAs (unread.LinkDown n) (events.LinkDown link) = n ≡ link
IsReadAs unread.Restart events.Restart = Unit {0}
IsReadAs unread.Start events.Start = Unit {0}
IsReadAs (unread.Command d) (events.Command c) = d ≡ c
IsReadAs _ _ = ⊥

-- The event of these fields; or Format exactly where no event that can be has them.
abbrev pub IsReadBy : UnreadEvent → Result Event ReadFault → Type 0
IsReadBy u (Ok event) = IsEvent event × IsReadAs u event
IsReadBy u (Err faults.Format) = (event : Event) → IsEvent event → IsReadAs u event → ⊥
IsReadBy u (Err faults.Memory) = Unit {0}

-- The message that the bytes spell whole; or Format exactly where they spell none.
abbrev pub ReadsWhole : List ℕ → Result Content ReadFault → Type 0
ReadsWhole bytes (Ok content) = SpellsReading bytes (readings.Whole content)
ReadsWhole bytes (Err faults.Format) = (content : Content) → SpellsReading bytes (readings.Whole content) → ⊥
ReadsWhole bytes (Err faults.Memory) = Unit {0}

-- why bytes that aren't read as a message spell none: out of memory, or they are no message
abbrev pub fault_of : Dropped → ReadFault
fault_of drops.NoMemory = faults.Memory
fault_of _ = faults.Format
