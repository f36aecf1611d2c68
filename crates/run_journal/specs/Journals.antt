-- A router under its lock, with the journal of what it did since its base.
use Rattle.std.specs.Prelude.{◌≡◌, ◌<◌, ◌≤◌, ◌^◌, ◌&&◌, ◌||◌, not, nat_le, ℕ, Bool, false, true, if◌then◌else◌, List, [], ◌∷◌, ◌++◌, All, Option, Some, None, Result, Ok, Err, length}
use Rattle.rsvp_bodies.specs.declared.prefix.Prefix.{Prefix}
use Rattle.lsr_facts.specs.declared.bypass.Bypass.{Bypass}
use Rattle.lsr_facts.specs.declared.tunnel.Tunnel.{Tunnel}
use Rattle.lsr_facts.specs.Routers.{IsRouter}
use Rattle.lsr_facts.specs.declared.refusal.Refusal.{Refusal}
use Rattle.lsr_facts.specs.declared.refusal.Refusal.TheVariants.{HopLimit, IsCold, JournalFull, NoMemory, WrongPort}
use Rattle.lsr_facts.specs.declared.router.Router.{Router}
use Rattle.abstract_paths.specs.declared.events.Event.{Event}
use Rattle.abstract_paths.specs.declared.events.Event.TheVariants as events
use Rattle.abstract_paths.specs.Relays.{exceeds_hop_limit}
use Rattle.abstract_router.specs.Soundness.{IsSound}
use Rattle.abstract_router.specs.States.{State}
use Rattle.abstract_router.specs.Steps.{opening}
use Rattle.abstract_router.specs.Tables.{TellsChange, look, look_tunnel}
use Rattle.lookup_plane.specs.Changes as planes
use Rattle.lookup_plane.specs.Changes.{Changes, IsChangeOf}
use Rattle.lookup_plane.specs.declared.change.TableChange.{TableChange}
use Rattle.journal_bytes.specs.Entries.{IsEntryOf}
use Rattle.journal_bytes.specs.Events.{IsWrittenAgain, event_bytes}
use Rattle.router_core.specs.States.{RouterState}
use Rattle.router_core.specs.Readies.{IsReady, after_ready, made_of}
use Rattle.router_core.specs.declared.ready.Ready.{Ready}
use Rattle.run_journal.specs.Entries.{AreRecorded, Knew, Recorded}
use Rattle.run_journal.specs.Marks.{Counts, IsWithin, counted, counted_all, is_known, receipt_of}
use Rattle.run_journal.specs.declared.entry.CountedEntry.{CountedEntry}
use Rattle.run_journal.specs.declared.mark.Mark.{Mark}
use Rattle.run_journal.specs.declared.receipt.Receipt.{Receipt}

-- What is under the lock: the router, what it knew as it was opened, what it knew and what the numbers were at the base, the entries
-- since, what it knows and what the numbers are now, the changes of its label table that readers are shown, and the name of that table
-- among all that are published.
pub record Journal : Type 0 where
  pub router : Router
  pub opening : State
  pub base : State
  pub from : Counts
  pub entries : List CountedEntry
  pub state : State
  pub counts : Counts
  pub shown : List TableChange
  pub table : ℕ

-- What is under the lock by its parts: the router and what it knows, what it knew as it was opened, what it knew and what the numbers
-- were at the base, the entries since, what the numbers are now, and the plane.
abbrev pub journal_of : RouterState → State → State → Counts → List CountedEntry → Counts → Changes → Journal
journal_of s opening base from entries counts plane = record {
  router = s.router;
  opening = opening;
  base = base;
  from = from;
  entries = entries;
  state = s.state;
  counts = counts;
  shown = plane.published;
  table = plane.table;
}

-- the router, and what it knows now
abbrev pub router_in : Journal → RouterState
router_in j = record { router = j.router; state = j.state }

-- it is what the router knows as it is opened: the static routes, tunnels and bypasses of its configuration, and nothing else
abbrev pub IsOpening : Router → State → Type 0
IsOpening r s = (routes : List (Prefix × ℕ)) × (tunnels : List (ℕ × Tunnel)) × (bypasses : List (ℕ × Bypass)) × (s ≡ opening r routes tunnels bypasses)

-- After these changes of an empty label table each label has the action that the router's state gives it, and so has each tunnel.
pub record LeadToTable (r : Router) (s : State) (changes : List TableChange) : Type 0 where
  pub labels : (label : ℕ) → planes.look changes label ≡ look r s label
  pub tunnels : (number : ℕ) → planes.look_tunnel changes number ≡ look_tunnel r s number

-- what readers are shown more: one change, where the table changes
abbrev pub IsShownMore : Bool → List TableChange → List TableChange → Type 0
IsShownMore true before after = (change : TableChange) × (after ≡ before ++ change ∷ [])
IsShownMore false before after = after ≡ before

-- Readers are shown what entries change, one after the other: one change more for each entry that changes what is forwarded, and after
-- each entry the changes lead to the table of what the router knows then.
abbrev pub AreShown : Router → State → List TableChange → List CountedEntry → State → List TableChange → Type 0
AreShown r before shown [] after all = (after ≡ before) × (all ≡ shown)
AreShown r before shown (e ∷ more) after all =
    (between : State) × (next : List TableChange) × Recorded r before e between × IsShownMore e.changes_table shown next × LeadToTable r between next
    × AreShown r between next more after all

-- All that was done since the router was opened: entries led from what it knew then to the base, where readers were shown what those
-- had changed, and the entries since lead from there to what it knows and what readers are shown now.
abbrev pub IsHistory : Journal → Type 0
IsHistory j =
    (earlier : List CountedEntry) × (shown : List TableChange) × AreShown j.router j.opening [] earlier j.base shown
    × AreShown j.router j.base shown j.entries j.state j.shown

-- After these changes the label table was that of what the router knew once, since it was opened with this.
abbrev pub IsTableOnce : Router → State → List TableChange → Type 0
IsTableOnce r opening changes = (s : State) × Knew r opening s × LeadToTable r s changes

-- What holds at any moment: the entries record a run from the base to what the router knows now, both are sound, the numbers
-- are those at the base and what the entries add, and there are at most 4,096 entries, and 2^62 since the router was opened.
-- Where no entry was made before them, the base is the router as it was opened. The changes that readers are shown are as many as
-- entries changed what is forwarded, one for each of these in their order, and lead to the router's label table.
pub record IsKept (j : Journal) : Type 0 where
  pub is_router : IsRouter j.router
  pub opened : IsOpening j.router j.opening
  pub begun : j.from.number ≡ 0 → j.base ≡ j.opening
  pub history : IsHistory j
  pub run : AreRecorded j.router j.base j.entries j.state
  pub sound_base : IsSound j.router j.base
  pub sound : IsSound j.router j.state
  pub counts : j.counts ≡ counted_all j.from j.entries
  pub few : length j.entries ≤ 4096
  pub low : j.counts.number ≤ 2 ^ 62
  pub published : j.counts.published ≤ j.counts.number
  pub within : All (IsWithin j.counts) j.counts.marks
  pub shown : length j.shown ≡ j.counts.published
  pub table : LeadToTable j.router j.state j.shown

-- it is a start
abbrev pub is_start : Event → Bool
is_start events.Start = true
is_start event = false

-- Why an event is refused before it is looked at: the mark isn't that of its port; the router is cold, and it is no start;
-- the journal is full.
abbrev pub early_refusal : Journal → Mark → Event → Option Refusal
early_refusal j m event =
    if not (is_known j.counts m) then Some WrongPort
    else if j.state.facts.cold && not (is_start event) then Some IsCold
    else if nat_le 4096 (length j.entries) || nat_le (2 ^ 62) j.counts.number then Some JournalFull
    else None

-- Why an event is refused that isn't refused so: it is a message for another router whose limit ran out; or memory ran out.
abbrev pub IsRefusedLate : Journal → Event → Refusal → Type 0
IsRefusedLate j event HopLimit = exceeds_hop_limit j.router j.state.facts event ≡ true
IsRefusedLate j event NoMemory = Unit {0}
IsRefusedLate j event refusal = ⊥

-- Why an event is refused: the first of these.
abbrev pub IsRefused : Option Refusal → Journal → Event → Refusal → Type 0
IsRefused (Some why) j event refusal = refusal ≡ why
IsRefused None j event refusal = IsRefusedLate j event refusal

-- The entry is that of a port's event and of its step that is made ready: whatever the router knows for which it was made
-- ready, it tells whether what is forwarded changes then. What it has of a message that came is read as the same message.
pub record IsEntryFor (port : ℕ) (event : Event) (ready : Ready) (e : CountedEntry) : Type 0 where
  pub port_is : e.entry.port ≡ port
  pub entry : IsEntryOf (made_of event ready) e.entry
  pub again : IsWrittenAgain event
  pub told : (s : RouterState) → IsReady s event ready → TellsChange e.changes_table s.router s.state (after_ready ready s.state)

-- The change is that of a step that is made ready: whatever the router knows for which it was made ready, and whatever changes lead to its
-- label table, with this one they lead to the table after the step. It is one of the router's labels.
pub record IsChangeFor (ready : Ready) (change : TableChange) : Type 0 where
  pub leads : (s : RouterState) (event : Event) (changes : List TableChange) → IsReady s event ready → LeadToTable s.router s.state changes
      → LeadToTable s.router (after_ready ready s.state) (changes ++ change ∷ [])
  pub labels : (s : RouterState) (event : Event) → IsReady s event ready → IsSound s.router s.state → IsChangeOf s.router.labels.first s.router.labels.last change

-- it is announced: nothing where the label table doesn't change, else the one change of the step
abbrev pub IsAnnounced : Bool → Ready → Changes → Changes → Type 0
IsAnnounced false ready old new = new ≡ old
IsAnnounced true ready old new = (change : TableChange) × IsChangeFor ready change × (new ≡ record old { pending = old.pending ++ change ∷ [] })

-- the plane is that of the router's labels, and nothing is announced that isn't shown
pub record IsPlaneOf (r : Router) (p : Changes) : Type 0 where
  pub first : p.first_label ≡ r.labels.first
  pub last : p.last_label ≡ r.labels.last
  pub settled : p.pending ≡ []

-- An entry of an event is put to the others: it records a step of this event itself, and not of one with the same bytes; the numbers go
-- on by it, and readers are shown what it changes.
pub record IsEntered (old : Journal) (event : Event) (entry : CountedEntry) (new : Journal) : Type 0 where
  pub recorded : Recorded old.router old.state entry new.state
  pub event_is : recorded.made.event ≡ event
  pub entries : new.entries ≡ old.entries ++ entry ∷ []
  pub counts : new.counts ≡ counted old.counts entry
  pub shown : IsShownMore entry.changes_table old.shown new.shown
  pub router : new.router ≡ old.router
  pub opening : new.opening ≡ old.opening
  pub base : new.base ≡ old.base
  pub from : new.from ≡ old.from

-- An event of a port is applied: an entry of it is put to the others, and the receipt is that entry's.
pub record IsApplied (old : Journal) (port : ℕ) (event : Event) (receipt : Receipt) (new : Journal) : Type 0 where
  pub entry : CountedEntry
  pub port_is : entry.entry.port ≡ port
  pub event_is : entry.entry.event ≡ event_bytes event
  pub receipt_is : receipt ≡ receipt_of old.counts entry
  pub entered : IsEntered old event entry new

-- What an event at a port is answered: it is applied where nothing refuses it before it is looked at; else it is refused, and
-- nothing changed.
abbrev pub IsAnswered : Journal → Mark → Event → Result Receipt Refusal → Journal → Type 0
IsAnswered old m event (Ok receipt) new = (early_refusal old m event ≡ None) × IsApplied old m.port event receipt new
IsAnswered old m event (Err refusal) new = (new ≡ old) × IsRefused (early_refusal old m event) old event refusal

-- What an event at a port is answered, where of a receipt its mark alone is given.
abbrev pub IsMarked : Journal → Mark → Event → Result Mark Refusal → Journal → Type 0
IsMarked old m event (Ok after) new = (receipt : Receipt) × (after ≡ receipt.mark) × IsAnswered old m event (Ok receipt) new
IsMarked old m event (Err refusal) new = IsAnswered old m event (Err refusal) new

-- A stretch of the journal: what the router knew and what the numbers were before it, its entries, and what the router knew
-- after it.
pub record Stretch : Type 0 where
  pub router : Router
  pub base : State
  pub from : Counts
  pub entries : List CountedEntry
  pub end : State

-- Its entries record a run from its base to its end, and both are sound. Where no entry was made before them, the base is the
-- router as it was opened.
pub record IsSegment (s : Stretch) : Type 0 where
  pub begun : s.from.number ≡ 0 → IsOpening s.router s.base
  pub run : AreRecorded s.router s.base s.entries s.end
  pub sound_base : IsSound s.router s.base
  pub sound_end : IsSound s.router s.end

-- what is under the lock as a stretch that ends now
abbrev pub stretch_of : Journal → Stretch
stretch_of j = record { router = j.router; base = j.base; from = j.from; entries = j.entries; end = j.state }

-- and what is left then: what the router knows now is the new base
abbrev pub rotated : Journal → Journal
rotated j = record j { base = j.state; from = j.counts; entries = [] }

-- the journal of a router that is opened, with these numbers, whose label table has this name
abbrev pub opened_journal : RouterState → Counts → ℕ → Journal
opened_journal s n table = record {
  router = s.router;
  opening = s.state;
  base = s.state;
  from = n;
  entries = [];
  state = s.state;
  counts = n;
  shown = [];
  table = table;
}
