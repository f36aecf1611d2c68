-- What a session prints whose router's journal is kept, and how the journal goes on.
use Rattle.std.specs.Prelude.{◌≡◌, ◌-◌, ◌≤◌, ◌⊎◌, ℕ, max, Bool, false, true, List, [], ◌∷◌, ◌++◌, length, slice_get, Option, Some, None, Result, Ok, Err}
use Rattle.std.specs.Option.{option_map_or}
use Rattle.lsr_facts.specs.declared.refusal.Refusal.{Refusal}
use Rattle.lsr_facts.specs.declared.refusal.Refusal.TheVariants.{JournalFull, NoMemory}
use Rattle.lsr_facts.specs.declared.reply.Reply.{Reply}
use Rattle.lsr_facts.specs.declared.reply.Reply.TheVariants as replies
use Rattle.lsr_facts.specs.declared.router.Router.{Router}
use Rattle.abstract_paths.specs.declared.events.Event.{Event}
use Rattle.abstract_paths.specs.declared.events.Event.TheVariants as events
use Rattle.abstract_paths.specs.declared.events.Made.{Made}
use Rattle.forwarding_table.specs.Forwarding.{forward_of}
use Rattle.forwarding_table.specs.declared.forwarding.Forwarding.{Forwarding}
use Rattle.label_stacks.specs.declared.entry.StackEntry.{StackEntry}
use Rattle.link_frames.specs.Frames.{kind_of}
use Rattle.lookup_plane.specs.Changes.{Reader, StartsWith, look, new_reader}
use Rattle.datagrams.specs.Datagrams.{IsDatagram}
use Rattle.datagrams.specs.declared.datagram.Datagram.{Datagram}
use Rattle.datagrams.specs.declared.datagram.Datagram.TheVariants as kinds
use Rattle.lsr_config.specs.Configs.{Setup}
use Rattle.lsr_lines.specs.declared.lines.Request.{Request}
use Rattle.lsr_lines.specs.declared.lines.Request.TheVariants as requests
use Rattle.lsr_session.specs.Requests.{latest, passed_text, reply_of}
use Rattle.lsr_session.specs.States.{opened}
use Rattle.lsr_text.specs.Answers.{answer_text, refusal_line, replies_text}
use Rattle.run_journal.specs.Journals.{IsAnswered, Journal, opened_journal}
use Rattle.run_journal.specs.Marks.{first_counts, first_mark}
use Rattle.run_journal.specs.declared.mark.Mark.{Mark}
use Rattle.run_journal.specs.declared.receipt.Receipt.{Receipt}

-- A session: its router's journal, the mark of its one port, its reader of the label table, and the last replies, the newest at the end.
pub record RecordedState : Type 0 where
  pub journal : Journal
  pub mark : Mark
  pub reader : Reader
  pub recent : List Reply

-- ---- events

-- What is answered to an event: the step that the journal's new entry records; or a refusal.
abbrev pub step_of : (old : Journal) (m : Mark) (event : Event) (answer : Result Receipt Refusal) (new : Journal) → IsAnswered old m event answer new → Result Made Refusal
step_of old m event (Ok receipt) new answered = Ok answered.1.entered.recorded.made
step_of old m event (Err refusal) new answered = Err refusal

-- the port's mark after an answer: that of the receipt
abbrev pub marked : Mark → Result Receipt Refusal → Mark
marked m (Ok receipt) = receipt.mark
marked m (Err refusal) = m

-- the reader after an answer: it has learnt how many changes of the label table there are
abbrev pub learnt : Reader → Result Receipt Refusal → Reader
learnt reader (Ok receipt) = record reader { at_least = max reader.at_least receipt.mark.published }
learnt reader (Err refusal) = reader

-- An event is applied to the journal, at the session's port. What is answered is printed, as by a session whose journal isn't kept, and its
-- reply is the newest of the last ones.
pub record PrintsEvent (before : RecordedState) (event : Event) (printed : List ℕ) (after : RecordedState) : Type 0 where
  pub answer : Result Receipt Refusal
  pub answered : IsAnswered before.journal before.mark event answer after.journal
  pub shown : printed ≡ answer_text (step_of before.journal before.mark event answer after.journal answered)
  pub recent : after.recent ≡ latest (before.recent ++ reply_of (step_of before.journal before.mark event answer after.journal answered) ∷ [])
  pub mark : after.mark ≡ marked before.mark answer
  pub reader : after.reader ≡ learnt before.reader answer

-- ---- datagrams

-- What a datagram is that came over a link: what it is whatever forwards by labels; or what it is by the label table that the reader sees, which
-- is no less than it has learnt of, all its labels by one list of changes; or it is a labelled frame for which the reader isn't shown the table,
-- and is refused as where memory ran out. The reader sees no less than before.
pub record IsRead (r : Router) (before : Reader) (link : ℕ) (bytes : List ℕ) (answer : Result Datagram Refusal) (after : Reader) : Type 0 where
  pub later : StartsWith after.seen before.seen
  pub learnt : after.at_least ≡ before.at_least
  pub datagram : ((forward : List StackEntry → Forwarding) → IsDatagram r forward link bytes answer)
      ⊎ ((before.at_least ≤ length after.seen) × IsDatagram r (forward_of (look after.seen)) link bytes answer)
      ⊎ ((kind_of bytes ≡ 2) × (answer ≡ Err NoMemory))

-- What is printed for what a datagram is: of an event its answer; what becomes of a labelled frame; or the refusal, which is the newest reply.
-- Only an event goes into the journal.
abbrev pub PrintsRead : RecordedState → Result Datagram Refusal → List ℕ → RecordedState → Type 0
PrintsRead before (Ok (kinds.Event event)) printed after = PrintsEvent before event printed after
PrintsRead before (Ok (kinds.Passed passed)) printed after = (printed ≡ passed_text passed) × (after ≡ before)
PrintsRead before (Err refusal) printed after =
    (printed ≡ refusal_line refusal) × (after ≡ record before { recent = latest (before.recent ++ replies.Refused refusal ∷ []) })

-- what is printed for a datagram that came over a link
abbrev pub PrintsDatagram : RecordedState → ℕ → List ℕ → List ℕ → RecordedState → Type 0
PrintsDatagram before link bytes printed after =
    (reader : Reader) × (what : Result Datagram Refusal) × IsRead before.journal.router before.reader link bytes what reader
    × PrintsRead (record before { reader = reader }) what printed after

-- ---- requests

-- What is printed for a request that is served, and what the session is then. Of what is shown it is the last replies alone.
abbrev pub PrintsRequest : RecordedState → Request → List ℕ → RecordedState → Type 0
PrintsRequest before (requests.Receive arrival) printed after = PrintsDatagram before arrival.link (1 ∷ arrival.bytes.items) printed after
PrintsRequest before (requests.Frame arrival) printed after = PrintsDatagram before arrival.link arrival.bytes.items printed after
PrintsRequest before (requests.Tick moment) printed after = PrintsEvent before (events.Tick moment) printed after
PrintsRequest before (requests.LinkUp link) printed after = PrintsEvent before (events.LinkUp link) printed after
PrintsRequest before (requests.LinkDown link) printed after = PrintsEvent before (events.LinkDown link) printed after
PrintsRequest before requests.Restart printed after = PrintsEvent before events.Restart printed after
PrintsRequest before requests.Start printed after = PrintsEvent before events.Start printed after
PrintsRequest before (requests.Command command) printed after = PrintsEvent before (events.Command command) printed after
PrintsRequest before requests.Recent printed after = (printed ≡ replies_text before.recent) × (after ≡ before)
PrintsRequest before (requests.Show shown) printed after = ⊥

-- a request that what the router knows is shown
abbrev pub ShowsRouter : Request → Type 0
ShowsRouter (requests.Receive arrival) = ⊥
ShowsRouter (requests.Frame arrival) = ⊥
ShowsRouter (requests.Tick moment) = ⊥
ShowsRouter (requests.LinkUp link) = ⊥
ShowsRouter (requests.LinkDown link) = ⊥
ShowsRouter requests.Restart = ⊥
ShowsRouter requests.Start = ⊥
ShowsRouter (requests.Command command) = ⊥
ShowsRouter requests.Recent = ⊥
ShowsRouter (requests.Show shown) = Unit {0}

-- What a session prints for a request, and what it is then. It doesn't show what the router knows: then nothing is printed or changed.
abbrev pub Records : RecordedState → Request → Option (List ℕ) → RecordedState → Type 0
Records before request (Some printed) after = PrintsRequest before request printed after
Records before request None after = ShowsRouter request × (after ≡ before)

-- an event was refused since the journal is full
abbrev pub is_full_reply : Reply → Bool
is_full_reply (replies.Refused JournalFull) = true
is_full_reply reply = false

-- The newest reply is that the journal is full: the session is over.
abbrev pub is_over : RecordedState → Bool
is_over s = option_map_or is_full_reply (slice_get s.recent (length s.recent - 1)) false

-- a session that begins: the router as it is opened, with one port, and a reader of its label table, which has this name
abbrev pub begun : Setup → ℕ → RecordedState
begun config table = record {
  journal = opened_journal (opened config) (first_counts 1) table;
  mark = first_mark 1;
  reader = new_reader table;
  recent = [];
}
