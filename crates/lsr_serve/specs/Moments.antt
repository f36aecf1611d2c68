-- What a clock feeds.
use Rattle.std.specs.Prelude.{◌≡◌, ◌+◌, ◌*◌, ◌++◌, ◌∷◌, ℕ, List, []}
use Rattle.abstract_paths.specs.declared.events.Event.TheVariants as events
use Rattle.interface_workers.specs.Below.journal.declared.receipt.Receipt.{Receipt}
use Rattle.interface_workers.specs.Turns.{IsOfEvent}
use Rattle.interface_workers.specs.declared.worker.Work.{Work}
use Rattle.lsr_serve.specs.Reports.{count_of}
use Rattle.lsr_serve.specs.declared.run.PortCount.{PortCount}
use Rattle.lsr_serve.specs.declared.run.RunReport.{RunReport}
use Rattle.lsr_serve.specs.declared.run.TheConstants.{TICK_MS}

-- The receipts are of the first so many moments of a clock: 100 milliseconds after its start, 200, and so on, each at most once, in their order.
pub data AreOfMoments : ℕ → List Receipt → Type 0 where
  at_first : AreOfMoments 0 []
  one_refused : (n all : ℕ) (receipts : List Receipt) → AreOfMoments n receipts → all ≡ n + 1 → AreOfMoments all receipts
  one_more : (n all : ℕ) (before now : List Receipt) (receipt : Receipt) → AreOfMoments n before → all ≡ n + 1 → now ≡ before ++ receipt ∷ []
      → IsOfEvent (events.Tick (all * TICK_MS)) receipt → AreOfMoments all now

-- The last port is the clock's. It fed so many moments, one after the other, and its receipts stand after those of the others.
pub record HasClock (turns : ℕ) (report : RunReport) : Type 0 where
  pub ports : List PortCount
  pub receipts : List Receipt
  pub clock : Work
  pub counted : report.ports.items ≡ ports ++ count_of clock ∷ []
  pub put : report.receipts.items ≡ receipts ++ clock.receipts.items
  pub moments : AreOfMoments turns clock.receipts.items
  pub events : clock.tally.datagrams ≡ turns
