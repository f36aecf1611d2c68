-- Moments that were fed, and one more.
use Rattle.std.proofs.Common.{◌≡◌, ◌+◌, ◌*◌, ◌⊎◌, ◌++◌, ◌∷◌, ℕ, List, [], inl, inr, ap, refl, subst, sym, ◌∙◌}
use Rattle.abstract_paths.specs.declared.events.Event.TheVariants as events
use Rattle.interface_workers.specs.Below.journal.declared.receipt.Receipt.{Receipt}
use Rattle.interface_workers.specs.Turns.{IsOfEvent}
use Rattle.interface_workers.specs.declared.worker.Work.{Work}
use Rattle.lsr_serve.specs.Moments.{AreOfMoments, HasClock}
use Rattle.lsr_serve.specs.Moments.AreOfMoments.{at_first, one_more, one_refused}
use Rattle.lsr_serve.specs.Reports.{IsPutTo}
use Rattle.lsr_serve.specs.declared.run.RunReport.{RunReport}
use Rattle.lsr_serve.specs.declared.run.TheConstants.{TICK_MS}

-- no moment yet
pub no_moments : (receipts : List Receipt) → receipts ≡ [] → AreOfMoments 0 receipts
no_moments receipts none = subst (AreOfMoments 0) (sym none) at_first

-- one moment more is fed, or refused
pub moment_more : (n all moment : ℕ) (before now : List Receipt) → all ≡ n + 1 → moment ≡ all * TICK_MS → ((receipt : Receipt) × (now ≡ before ++ receipt ∷ []) × IsOfEvent (events.Tick moment) receipt) ⊎ (now ≡ before)
    → AreOfMoments n before → AreOfMoments all now
moment_more n all moment before now next at (inl (receipt, more, own)) are =
    one_more n all before now receipt are next more (subst (λ (t : ℕ). IsOfEvent (events.Tick t) receipt) at own)
moment_more n all moment before now next at (inr same) are = one_refused n all now (subst (AreOfMoments n) (sym same) are) next

-- the clock's work is put to the others' last
pub clock_put : (turns : ℕ) (before now : RunReport) (work : Work) → IsPutTo before work now → AreOfMoments turns work.receipts.items → work.tally.datagrams ≡ turns → HasClock turns now
clock_put turns before now work put moments events = record {
  ports = before.ports.items;
  receipts = before.receipts.items;
  clock = work;
  counted = put.ports;
  put = put.receipts;
  moments = moments;
  events = events;
}

-- a segment more changes neither counts nor receipts
pub clock_stays : (turns : ℕ) (before now : RunReport) → now.ports ≡ before.ports → now.receipts ≡ before.receipts → HasClock turns before → HasClock turns now
clock_stays turns before now ports receipts has = record {
  ports = has.ports;
  receipts = has.receipts;
  clock = has.clock;
  counted = ap (λ all. all.items) ports ∙ has.counted;
  put = ap (λ all. all.items) receipts ∙ has.put;
  moments = has.moments;
  events = has.events;
}
