-- What is under a core's lock is of the router of its name.
use Rattle.std.proofs.Common.{◌≡◌, ℕ, Result, Ok, Err, subst, sym, ◌∙◌}
use Rattle.std.specs.Prelude.{IfOk}
use Rattle.lsr_config.specs.Configs.{Setup}
use Rattle.lsr_facts.specs.declared.refusal.Refusal.{Refusal}
use Rattle.lsr_facts.specs.declared.router.Router.{Router}
use Rattle.abstract_paths.specs.declared.events.Event.{Event}
use Rattle.abstract_router.specs.Soundness.{IsSound}
use Rattle.abstract_router.specs.States.{State}
use Rattle.run_journal.specs.Entries.{Knew, Recorded}
use Rattle.run_journal.specs.Journals.{IsAnswered, IsApplied, IsKept, Journal, stretch_of}
use Rattle.run_journal.specs.declared.mark.Mark.{Mark}
use Rattle.run_journal.specs.declared.receipt.Receipt.{Receipt}
use Rattle.run_journal.proofs.Keeping.{kept_segment}
use Rattle.shared_core.specs.Answered.{IsAnsweredBy}
use Rattle.shared_core.specs.Names.{IsKnown, IsReceiptOf, IsSegmentOf, opened}

-- what a router knew that was opened so, by the configuration
knew_of : (c : Setup) (r : Router) (first s : State) → r ≡ c.router → first ≡ (opened c).state → Knew r first s → Knew c.router (opened c).state s
knew_of c r first s router opening knew = subst (λ (t : State). Knew c.router t s) opening (subst (λ (x : Router). Knew x first s) router knew)

-- what is known now
pub known_now : (c : Setup) (j : Journal) → j.router ≡ c.router → j.opening ≡ (opened c).state → Knew j.router j.opening j.state → IsKept j → IsKnown c j.state
known_now c j router opening knew is = record {
  knew = knew_of c j.router j.opening j.state router opening knew;
  sound = subst (λ (r : Router). IsSound r j.state) router is.sound;
}

-- and a copy of it
pub copy_known : {E : Type 0} (c : Setup) (s : State) (result : Result State E) → IfOk result (λ state. state ≡ s) → IsKnown c s → IfOk result (IsKnown c)
copy_known c s (Ok state) is known = subst (IsKnown c) (sym is) known
copy_known c s (Err e) is known = tt

-- the stretch since the base
pub stretch_own : (c : Setup) (j : Journal) → j.router ≡ c.router → j.opening ≡ (opened c).state → Knew j.router j.opening j.base → IsKept j → IsSegmentOf c (stretch_of j)
stretch_own c j router opening knew is = record {
  segment = kept_segment j is;
  router = router;
  begun = λ none. is.begun none ∙ opening;
  base = record {
    knew = knew_of c j.router j.opening j.base router opening knew;
    sound = subst (λ (r : Router). IsSound r j.base) router is.sound_base;
  };
}

-- the receipt of an event that is applied
pub applied_own : (c : Setup) (old : Journal) (port : ℕ) (event : Event) (receipt : Receipt) (new : Journal) → old.router ≡ c.router → IsKnown c old.state → IsApplied old port event receipt new → IsReceiptOf c receipt
applied_own c old port event receipt new router known is = record {
  counts = old.counts;
  entry = is.entry;
  before = old.state;
  after = new.state;
  known = known;
  recorded = subst (λ (r : Router). Recorded r old.state is.entry new.state) router is.entered.recorded;
  told = is.receipt_is;
}

-- what the journal under the lock answers is what the core answers
pub answered_by : (c : Setup) (old : Journal) (m : Mark) (event : Event) (answer : Result Receipt Refusal) (new : Journal) → old.router ≡ c.router → old.opening ≡ (opened c).state → IsKept old → IsAnswered old m event answer new
    → IsAnsweredBy c m event answer
answered_by c old m event answer new router opening kept is = record {
  before = old;
  after = new;
  own = record { kept = kept; router = router; opening = opening };
  answered = is;
}
