-- Receipts of one port, each after the other, and a worker's work.
use Rattle.std.specs.Prelude.{◌≡◌, ◌+◌, ◌-◌, ◌^◌, ◌<◌, ◌≤◌, ◌⊎◌, ℕ, All, List, [], ◌∷◌, Result, Ok, Err, length, vec_capacity}
use Rattle.lsr_config.specs.Configs.{Setup}
use Rattle.lsr_facts.specs.declared.refusal.Refusal.{Refusal}
use Rattle.lsr_facts.specs.declared.refusal.Refusal.TheVariants.{JournalFull, NoMemory}
use Rattle.abstract_paths.specs.declared.events.Event.{Event}
use Rattle.journal_bytes.specs.Events.{event_bytes}
use Rattle.shared_core.specs.Below.journal.Journals.{Stretch}
use Rattle.shared_core.specs.Below.journal.Marks.{Follows}
use Rattle.shared_core.specs.Below.journal.declared.mark.Mark.{Mark}
use Rattle.shared_core.specs.Below.journal.declared.receipt.Receipt.{Receipt}
use Rattle.shared_core.specs.Names.{IsReceiptOf, IsSegmentOf}
use Rattle.shared_core.specs.Answered.{IsRefusedBy}
use Rattle.worker_tallies.specs.Tallies.{IsSum}
use Rattle.worker_tallies.specs.declared.handled.Handled.{Handled}
use Rattle.worker_tallies.specs.declared.handled.Handled.TheVariants.{Fed}
use Rattle.interface_workers.specs.declared.worker.Work.{Work}

-- The receipts follow on the first mark, each on the one before, and the last mark is that of the last of them.
abbrev pub IsChain : Mark → List Receipt → Mark → Type 0
IsChain first [] last = last ≡ first
IsChain first (receipt ∷ receipts) last = Follows first receipt × IsChain receipt.mark receipts last

-- an event is fed once: the receipt is of it, and the port has the receipt's mark; or it is refused, by the core's journal as it stood then, and
-- the port has the mark that it had
abbrev pub IsFedOnce : Setup → Mark → Event → Result Receipt Refusal → Mark → Type 0
IsFedOnce c before event (Ok receipt) after = Follows before receipt × (receipt.event ≡ event_bytes event) × (after ≡ receipt.mark)
IsFedOnce c before event (Err refusal) after = (after ≡ before) × IsRefusedBy c before event refusal

-- an event of a port of this mark isn't fed, for this reason: the core's journal as it stood then refuses it so; or it was full, and memory ran out
-- as its entries were to be taken
abbrev pub IsLeft : Setup → Mark → Event → Refusal → Type 0
IsLeft c m event refusal = IsRefusedBy c m event refusal ⊎ (IsRefusedBy c m event JournalFull × (refusal ≡ NoMemory))

-- an event is fed, and once more where the journal was full
abbrev pub IsFed : Setup → Mark → Event → Result Receipt Refusal → Mark → Type 0
IsFed c before event (Ok receipt) after = Follows before receipt × (receipt.event ≡ event_bytes event) × (after ≡ receipt.mark)
IsFed c before event (Err refusal) after = (after ≡ before) × IsLeft c before event refusal

-- the work's tally adds up: each datagram is counted as one of four kinds, and there is a receipt for each that was fed
abbrev pub AddsUp : Work → Type 0
AddsUp work = IsSum work.tally (length work.receipts.items)

-- There is room for one receipt and one segment more, the tally adds up, and one datagram more can be counted.
pub record HasRoom (work : Work) : Type 0 where
  pub receipts : length work.receipts.items < vec_capacity work.receipts
  pub segments : length work.segments.items < vec_capacity work.segments
  pub adds_up : AddsUp work
  pub datagrams : work.tally.datagrams < 2 ^ 64 - 1

-- Work goes on as the port's mark does: receipts that were a chain up to the mark are one up to the new mark, with at most one receipt
-- and one segment more, in the same room.
pub record WorkGoesOn (before : Work) (mark : Mark) (after : Work) (new_mark : Mark) : Type 0 where
  pub chain : (first : Mark) → IsChain first before.receipts.items mark → IsChain first after.receipts.items new_mark
  pub receipts : length after.receipts.items ≤ length before.receipts.items + 1
  pub segments : length after.segments.items ≤ length before.segments.items + 1
  pub receipts_room : vec_capacity after.receipts ≡ vec_capacity before.receipts
  pub segments_room : vec_capacity after.segments ≡ vec_capacity before.segments

-- The segments of a worker are as many more as its core has handed out more to its port: before there were these, when so many were handed
-- out, and now there are these.
abbrev pub AreHandedOut : ℕ → List Stretch → ℕ → List Stretch → Type 0
AreHandedOut taken before now_taken now = now_taken + length before ≡ taken + length now

-- There is a receipt more where an event was fed, and none more where anything else was done.
abbrev pub HasReceiptFor : Handled → Work → Work → Type 0
HasReceiptFor Fed before after = length after.receipts.items ≡ length before.receipts.items + 1
HasReceiptFor handled before after = after.receipts ≡ before.receipts

-- Its receipts and its segments are those of the router of this configuration.
pub record IsWorkOf (c : Setup) (work : Work) : Type 0 where
  pub receipts : All (IsReceiptOf c) work.receipts.items
  pub segments : All (IsSegmentOf c) work.segments.items

-- Work whose receipts and segments were those of this router goes on so.
abbrev pub StaysWorkOf : Setup → Work → Work → Type 0
StaysWorkOf c before after = IsWorkOf c before → IsWorkOf c after
