-- A worker's turns: what came, what became of it, and what was sent.
use Rattle.std.specs.Prelude.{◌≡◌, ◌≢◌, ◌+◌, ◌-◌, ◌^◌, ◌≤◌, ◌++◌, ℕ, min, List, [], ◌∷◌, Ok, Err, length}
use Rattle.lsr_config.specs.Configs.{Setup}
use Rattle.lsr_facts.specs.declared.refusal.Refusal.TheVariants.{JournalFull, NoMemory}
use Rattle.lsr_facts.specs.declared.router.Router.{Router}
use Rattle.abstract_paths.specs.declared.events.Event.{Event}
use Rattle.forwarding_table.specs.Forwarding.{forward_of}
use Rattle.link_frames.specs.Frames.{frame_bytes, kind_of}
use Rattle.lookup_plane.specs.Changes.{StartsWith, look}
use Rattle.lookup_plane.specs.declared.change.TableChange.{TableChange}
use Rattle.datagrams.specs.Datagrams.{IsDatagram}
use Rattle.datagrams.specs.declared.datagram.Datagram.TheVariants as datagrams
use Rattle.datagrams.specs.declared.datagram.Passed.{Passed}
use Rattle.datagrams.specs.declared.datagram.Passed.TheVariants as passes
use Rattle.journal_bytes.specs.Events.{event_bytes}
use Rattle.journal_bytes.specs.declared.entry.WrittenFrame.{WrittenFrame}
use Rattle.shared_core.specs.Below.journal.Journals.{Stretch}
use Rattle.shared_core.specs.Below.journal.declared.mark.Mark.{Mark}
use Rattle.shared_core.specs.Below.journal.declared.receipt.Receipt.{Receipt}
use Rattle.interface_workers.specs.Chains.{IsLeft, WorkGoesOn}
use Rattle.worker_tallies.specs.Tallies.{counted, handled_for, no_tally, with_lost}
use Rattle.interface_workers.specs.Wires.{AreGiven, AreSent, Arrival, Sending, WireHistory, after, datagrams_in, faults_in, lost_in}
use Rattle.interface_workers.specs.Wires.Arrival.{Came, Fault, Silence}
use Rattle.worker_tallies.specs.declared.handled.Handled.{Handled}
use Rattle.worker_tallies.specs.declared.handled.Handled.TheVariants as handles
use Rattle.worker_tallies.specs.declared.handled.Tally.{Tally}
use Rattle.interface_workers.specs.declared.worker.Taken.{Taken}
use Rattle.interface_workers.specs.declared.worker.Taken.TheVariants as takes
use Rattle.interface_workers.specs.declared.worker.Work.{Work}

-- What a turn took is what the wire answered: nothing came; the wire failed; what the datagram is that came over this link, by its own bytes
-- and by the changes that the reader sees; or it is a labelled frame, and the reader wasn't shown the label table.
abbrev pub IsTaken : Router → List TableChange → ℕ → Arrival → Taken → Type 0
IsTaken r seen link Silence taken = taken ≡ takes.Nothing
IsTaken r seen link Fault taken = taken ≡ takes.WireFailed
IsTaken r seen link (Came bytes) (takes.Came answer) = IsDatagram r (forward_of (look seen)) link bytes answer
IsTaken r seen link (Came bytes) takes.NotShown = kind_of bytes ≡ 2
IsTaken r seen link (Came bytes) taken = ⊥

-- it is no labelled frame: nothing came, the wire failed, or what came is of another kind
abbrev pub IsUnlabelled : Arrival → Type 0
IsUnlabelled Silence = Unit {0}
IsUnlabelled Fault = Unit {0}
IsUnlabelled (Came bytes) = kind_of bytes ≢ 2

-- the receipt is of this event
abbrev pub IsOfEvent : Event → Receipt → Type 0
IsOfEvent event receipt = receipt.event ≡ event_bytes event

-- An event of a port of this mark is served: it is fed, its receipt is kept after the others, and its frames are sent; or the core of this
-- configuration refuses it, and nothing is sent.
abbrev pub IsEventServed : Setup → Mark → Event → Handled → List Receipt → List Receipt → List WrittenFrame → List Sending → Type 0
IsEventServed c m event handles.Fed before now frames sendings =
    (receipt : Receipt) × (now ≡ before ++ receipt ∷ []) × IsOfEvent event receipt × (frames ≡ receipt.outputs)
IsEventServed c m event (handles.Dropped refusal) before now frames sendings =
    (handles.Dropped refusal ≡ handled_for refusal) × (now ≡ before) × (frames ≡ []) × IsLeft c m event refusal
IsEventServed c m event (handles.Refused refusal) before now frames sendings =
    (handles.Refused refusal ≡ handled_for refusal) × (now ≡ before) × (frames ≡ []) × IsLeft c m event refusal
IsEventServed c m event handled before now frames sendings = ⊥

-- An event is refused as full only where it was fed again after the journal's entries were taken: there is a segment more.
abbrev pub IsFullAgain : Handled → List Stretch → List Stretch → Type 0
IsFullAgain handled before now = handled ≡ handles.Refused JournalFull → length now ≡ length before + 1

-- so is one that came
abbrev pub IsFullAgainFor : Taken → Handled → List Stretch → List Stretch → Type 0
IsFullAgainFor taken handled before now = (event : Event) → taken ≡ takes.Came (Ok (datagrams.Event event)) → IsFullAgain handled before now

-- What goes on by its labels is sent as it leaves, where there is memory for its bytes: it is forwarded exactly where the wire carried it. A
-- payload that has arrived goes no further.
abbrev pub IsPassedOn : Passed → Handled → List WrittenFrame → List Sending → Type 0
IsPassedOn (passes.Delivered content) handled frames sendings = (handled ≡ handles.Delivered) × (frames ≡ [])
IsPassedOn (passes.Sent link frame) handles.Forwarded frames sendings =
    (frames ≡ (record { link = link; bytes = frame_bytes frame }) ∷ []) × (length sendings ≡ 1) × (lost_in sendings ≡ 0)
IsPassedOn (passes.Sent link frame) handles.NotCarried frames sendings =
    (frames ≡ (record { link = link; bytes = frame_bytes frame }) ∷ []) × (length sendings ≡ lost_in sendings)
IsPassedOn (passes.Sent link frame) (handles.Refused refusal) frames sendings = (refusal ≡ NoMemory) × (frames ≡ [])
IsPassedOn (passes.Sent link frame) handled frames sendings = ⊥

-- What a port of this mark took is served: what became of it, which receipts there are now, and which frames were sent for it, with which
-- success.
abbrev pub IsServed : Setup → Mark → Taken → Handled → List Receipt → List Receipt → List WrittenFrame → List Sending → Type 0
IsServed c m takes.Nothing handled before now frames sendings = (handled ≡ handles.Nothing) × (now ≡ before) × (frames ≡ [])
IsServed c m takes.WireFailed handled before now frames sendings = (handled ≡ handles.WireFailed) × (now ≡ before) × (frames ≡ [])
IsServed c m takes.NotShown handled before now frames sendings = (handled ≡ handles.NotShown) × (now ≡ before) × (frames ≡ [])
IsServed c m (takes.Came (Ok (datagrams.Event event))) handled before now frames sendings = IsEventServed c m event handled before now frames sendings
IsServed c m (takes.Came (Ok (datagrams.Passed passed))) handled before now frames sendings = (now ≡ before) × IsPassedOn passed handled frames sendings
IsServed c m (takes.Came (Err refusal)) handled before now frames sendings = (handled ≡ handled_for refusal) × (now ≡ before) × (frames ≡ [])

-- Such frames were sent, with such success, and nothing else happened on the wire.
pub record HasSent (Is : List WrittenFrame → List Sending → Type 0) (before now : WireHistory) : Type 0 where
  pub frames : List WrittenFrame
  pub sendings : List Sending
  pub is : Is frames sendings
  pub sent : AreSent frames sendings before now

-- Where a worker stands: its work, its port's mark, the changes of the label table that its reader has seen, and what happened on its wire.
pub record Standing : Type 0 where
  pub work : Work
  pub mark : Mark
  pub seen : List TableChange
  pub history : WireHistory

-- A turn of a worker of the core of this configuration: the wire was asked for a frame, once; what it gave was served, and counted by what
-- became of it; and nothing else happened on the wire. The reader has seen more of the label table only where that was a labelled frame.
pub record IsTurn (c : Setup) (link : ℕ) (before now : Standing) : Type 0 where
  pub arrival : Arrival
  pub taken : Taken
  pub handled : Handled
  pub frames : List WrittenFrame
  pub sendings : List Sending
  pub took : IsTaken c.router now.seen link arrival taken
  pub served : IsServed c before.mark taken handled before.work.receipts.items now.work.receipts.items frames sendings
  pub given : AreGiven frames sendings now.history.failed
  pub history : now.history ≡ after before.history (arrival ∷ []) sendings
  pub tally : now.work.tally ≡ counted (with_lost before.work.tally (lost_in sendings)) handled
  pub turns : now.work.turns ≡ before.work.turns + 1
  pub goes_on : WorkGoesOn before.work before.mark now.work now.mark
  pub full : IsFullAgainFor taken handled before.work.segments.items now.work.segments.items
  pub seen : StartsWith now.seen before.seen
  pub unlabelled : IsUnlabelled arrival → now.seen ≡ before.seen

-- So many turns were made from here, one after the other, all over this link.
pub data AreTurns (c : Setup) (link : ℕ) (start : Standing) : ℕ → Standing → Type 0 where
  at_first : AreTurns c link start 0 start
  one_more : (turns all : ℕ) (before now : Standing) → AreTurns c link start turns before → IsTurn c link before now → all ≡ turns + 1 → AreTurns c link start all now

-- no work yet
pub record IsNoWork (work : Work) : Type 0 where
  pub receipts : work.receipts.items ≡ []
  pub segments : work.segments.items ≡ []
  pub tally : work.tally ≡ no_tally
  pub turns : work.turns ≡ 0

-- All that a worker did are so many turns: it began with no work.
pub record IsRunOf (c : Setup) (link turns : ℕ) (mark : Mark) (seen : List TableChange) (history : WireHistory) (now : Standing) : Type 0 where
  pub work : Work
  pub begun : IsNoWork work
  pub made : AreTurns c link (record { work = work; mark = mark; seen = seen; history = history }) turns now

-- The tally and the number of turns tell what happened on the wire: it was asked for a frame once in each turn; so many datagrams came, and
-- so often it failed; and of the frames that it was given, so many are lost.
pub record IsTallyOf (t : Tally) (turns : ℕ) (start now : WireHistory) : Type 0 where
  pub arrivals : List Arrival
  pub sendings : List Sending
  pub history : now ≡ after start arrivals sendings
  pub asked : turns ≡ length arrivals
  pub datagrams : t.datagrams ≡ datagrams_in arrivals
  pub faults : t.faults ≡ min (faults_in arrivals) (2 ^ 64 - 1)
  pub lost : t.lost ≡ min (lost_in sendings) (2 ^ 64 - 1)

-- No more frames are lost, and no more asks failed, than the wire's count of failures rose.
abbrev pub AreAmongFailures : Tally → WireHistory → WireHistory → Type 0
AreAmongFailures t start now = t.lost + t.faults + start.failed ≤ now.failed
