-- What a console answers to a line.
use Rattle.std.specs.Prelude.{◌≡◌, ℕ, List, [], ◌∷◌, ◌++◌, Bool, false, true, Option, Some, None, Result, Ok, Err, codes, flat_map, string_bytes}
use Rattle.abstract_paths.specs.declared.events.Event.{Event}
use Rattle.abstract_router.specs.States.{State}
use Rattle.interface_workers.specs.Chains.{IsLeft, IsWorkOf}
use Rattle.shared_core.specs.Names.{IsKnown, IsReceiptOf}
use Rattle.worker_tallies.specs.declared.handled.Handled.{Handled}
use Rattle.worker_tallies.specs.declared.handled.Handled.TheVariants as handles
use Rattle.worker_tallies.specs.declared.handled.Tally.{Tally}
use Rattle.interface_workers.specs.declared.worker.Work.{Work}
use Rattle.journal_bytes.specs.Events.{event_bytes}
use Rattle.journal_bytes.specs.declared.entry.WrittenFrame.{WrittenFrame}
use Rattle.lsr_config.specs.Configs.{Setup}
use Rattle.lsr_config.specs.declared.sockets.LinkSockets.{LinkSockets}
use Rattle.lsr_facts.specs.declared.refusal.Refusal.{Refusal}
use Rattle.lsr_facts.specs.declared.reply.Reply.{Reply}
use Rattle.lsr_facts.specs.declared.reply.Reply.TheVariants as replies
use Rattle.lsr_lines.specs.declared.lines.Request.{Request}
use Rattle.lsr_lines.specs.declared.lines.Request.TheVariants as requests
use Rattle.lsr_lines.specs.declared.shown.Shown.{Shown}
use Rattle.lsr_session.specs.Requests.{Shows, latest}
use Rattle.lsr_text.specs.Answers.{refusal_line, replies_text, reply_line}
use Rattle.lsr_text.specs.FrameLines.{written_line}
use Rattle.run_journal.specs.declared.mark.Mark.{Mark}
use Rattle.run_journal.specs.declared.receipt.Receipt.{Receipt}
use Rattle.lsr_console.specs.Counters.{counters_text}
use Rattle.lsr_console.specs.Said.{Says, event_of}
use Rattle.lsr_console.specs.Told.{bad_line_text, elsewhere_text}
use Rattle.lsr_console.specs.declared.answering.Lack.{Lack}
use Rattle.lsr_console.specs.declared.answering.Lack.TheVariants as lacks
use Rattle.lsr_console.specs.declared.answering.TheConstants.{QUITS}
use Rattle.lsr_console.specs.declared.forms.TheConstants.{FROM_CLOCK, FROM_LINKS, HELP}
use Rattle.lsr_console.specs.declared.manner.Manner.{Manner}
use Rattle.lsr_console.specs.declared.said.Said.{Said}
use Rattle.lsr_console.specs.declared.said.Said.TheVariants as saids

-- An operator: the work of his port, and the last replies to him, the newest at the end.
pub record OperatorState : Type 0 where
  pub work : Work
  pub recent : List Reply

-- ---- events

-- why an event wasn't fed of which this became
abbrev pub refusal_of : Handled → Option Refusal
refusal_of (handles.Dropped refusal) = Some refusal
refusal_of (handles.Refused refusal) = Some refusal
refusal_of handled = None

-- An event is fed: there is one receipt more, of this event, and it is of the router of this configuration where those before it are.
pub record IsFedAs (c : Setup) (event : Event) (before after : Work) (receipt : Receipt) : Type 0 where
  pub newest : after.receipts.items ≡ before.receipts.items ++ receipt ∷ []
  pub of_event : receipt.event ≡ event_bytes event
  pub own : IsWorkOf c before → IsReceiptOf c receipt

-- An event of a port is refused, by the core of the router of this configuration, and leaves no receipt.
pub record IsRefusedFor (c : Setup) (event : Event) (before after : Work) (refusal : Refusal) : Type 0 where
  pub receipts : after.receipts.items ≡ before.receipts.items
  pub mark : Mark
  pub reason : IsLeft c mark event refusal

-- an event is fed, or refused
abbrev pub IsAnswered : Setup → Event → Work → Work → Result Receipt Refusal → Type 0
IsAnswered c event before after (Ok receipt) = IsFedAs c event before after receipt
IsAnswered c event before after (Err refusal) = IsRefusedFor c event before after refusal

-- the line of a frame that was sent
abbrev pub frame_line : WrittenFrame → List ℕ
frame_line frame = written_line frame.link frame.bytes

-- the lines of frames that were sent, in order, where they are asked for
abbrev pub sent_text : Bool → List WrittenFrame → List ℕ
sent_text false frames = []
sent_text true frames = flat_map frame_line frames

-- the reply of a receipt, and after it what was sent, where that is asked for
abbrev pub receipt_text : Bool → Receipt → List ℕ
receipt_text echo receipt = reply_line receipt.reply ++ sent_text echo receipt.outputs

-- what is printed of an answer
abbrev pub answer_text : Bool → Result Receipt Refusal → List ℕ
answer_text echo (Ok receipt) = receipt_text echo receipt
answer_text echo (Err refusal) = refusal_line refusal

-- its reply
abbrev pub reply_of : Result Receipt Refusal → Reply
reply_of (Ok receipt) = receipt.reply
reply_of (Err refusal) = replies.Refused refusal

-- What is answered to an event: it is fed or refused, that is printed, and its reply is the newest of the last ones.
pub record AnswersEvent (c : Setup) (echo : Bool) (event : Event) (before : OperatorState) (text : List ℕ) (after : OperatorState) : Type 0 where
  pub answer : Result Receipt Refusal
  pub answered : IsAnswered c event before.work after.work answer
  pub shown : text ≡ answer_text echo answer
  pub recent : after.recent ≡ latest (before.recent ++ reply_of answer ∷ [])

-- ---- requests

-- The router of this configuration, whose links have these socket addresses, shows this, as it knew things once.
pub record ShowsKnown (c : Setup) (sockets : List (ℕ × LinkSockets)) (shown : Shown) (text : List ℕ) : Type 0 where
  pub state : State
  pub known : IsKnown c state
  pub shows : Shows (record { router = c.router; state = state }) sockets shown text

-- What is answered to a request of the line of this number for which no event is fed: messages, frames and moments aren't taken from an
-- operator; what the router knows; or the last replies to him. Nothing to a request for which one is.
abbrev pub AnswersAsked : Setup → Manner → ℕ → List ℕ → List Reply → Request → List ℕ → Type 0
AnswersAsked c manner number line recent (requests.Receive arrival) text = text ≡ elsewhere_text number line FROM_LINKS.now
AnswersAsked c manner number line recent (requests.Frame arrival) text = text ≡ elsewhere_text number line FROM_LINKS.now
AnswersAsked c manner number line recent (requests.Tick moment) text = text ≡ elsewhere_text number line FROM_CLOCK.now
AnswersAsked c manner number line recent (requests.Show shown) text = ShowsKnown c manner.sockets shown text
AnswersAsked c manner number line recent requests.Recent text = text ≡ replies_text recent
AnswersAsked c manner number line recent request text = text ≡ []

-- an event is answered where there is one, and else the request as it stands
abbrev pub AnswersBy : Option Event → Setup → Manner → ℕ → List ℕ → OperatorState → Request → List ℕ → OperatorState → Type 0
AnswersBy (Some event) c manner number line before request text after = AnswersEvent c manner.echo event before text after
AnswersBy None c manner number line before request text after = AnswersAsked c manner number line before.recent request text × (after ≡ before)

-- what is answered to a request of the line of this number
abbrev pub AnswersRequest : Setup → Manner → ℕ → List ℕ → OperatorState → Request → List ℕ → OperatorState → Type 0
AnswersRequest c manner number line before request text after = AnswersBy (event_of request) c manner number line before request text after

-- ---- lines

-- What is answered to a line of this number that says this, while the ports counted so much: nothing to a remark; the lines of a console to
-- `help`; that the run ends to `quit`; how much each port did to `show counters`; what a request is answered; or that the line asks for
-- nothing, and which form it should have.
abbrev pub AnswersSaid : Setup → Manner → List Tally → ℕ → List ℕ → OperatorState → Said → List ℕ → OperatorState → Type 0
AnswersSaid c manner counts number line before saids.Remark text after = (text ≡ []) × (after ≡ before)
AnswersSaid c manner counts number line before saids.Help text after = (text ≡ HELP.now) × (after ≡ before)
AnswersSaid c manner counts number line before saids.Quit text after = (text ≡ QUITS.now) × (after ≡ before)
AnswersSaid c manner counts number line before saids.Counters text after = (text ≡ counters_text manner.sockets counts ++ string_bytes manner.unwritten) × (after ≡ before)
AnswersSaid c manner counts number line before (saids.Asks request) text after = AnswersRequest c manner number line before request text after
AnswersSaid c manner counts number line before saids.Nothing text after = (text ≡ bad_line_text number line) × (after ≡ before)

-- What is answered to the line of this number, while the ports counted so much.
pub record AnswersLine (c : Setup) (manner : Manner) (counts : List Tally) (number : ℕ) (line : List ℕ) (before : OperatorState) (text : List ℕ) (after : OperatorState) : Type 0 where
  pub said : Said
  pub says : Says line said
  pub answers : AnswersSaid c manner counts number line before said text after

-- Memory ran out: nothing was done; or it was answered, and there is no memory for the text. `answers` says which text is the answer's, and
-- what the operator has then.
abbrev pub Lacks : (List ℕ → OperatorState → Type 0) → OperatorState → Lack → OperatorState → Type 0
Lacks answers before lacks.Undone after = after ≡ before
Lacks answers before lacks.Untold after = (text : List ℕ) × answers text after

-- what is told of it
abbrev pub lack_text : Lack → List ℕ
lack_text lacks.Undone = codes "memory\n  nothing was done: write the line again\n"
lack_text lacks.Untold = codes "memory\n  it was answered: show recent has the reply\n"
