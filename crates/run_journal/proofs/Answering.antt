-- An event that isn't refused before it is looked at.
use Rattle.std.proofs.Common.{◌≡◌, ◌<◌, ◌^◌, ◌&&◌, ◌||◌, not, nat_le, Bool, true, false, Option, Some, None, if◌then◌else◌, length, arith, refl}
use Rattle.std.proofs.lemmas.Bool.{leb-false}
use Rattle.lsr_facts.specs.declared.refusal.Refusal.{Refusal}
use Rattle.lsr_facts.specs.declared.refusal.Refusal.TheVariants.{HopLimit, IsCold, JournalFull, NoMemory, WrongPort}
use Rattle.abstract_paths.specs.declared.events.Event.{Event}
use Rattle.abstract_paths.specs.declared.events.Event.TheVariants as events
use Rattle.abstract_router.specs.Steps.{IsNoStep}
use Rattle.router_core.specs.Machines.{IsEventLeft}
use Rattle.run_journal.specs.Journals.{IsRefusedLate, Journal, early_refusal, is_start}
use Rattle.run_journal.specs.Marks.{is_known}
use Rattle.run_journal.specs.declared.mark.Mark.{Mark}

-- the mark is its port's, a start alone comes to a cold router, and there is room for an entry
pub record IsTaken (j : Journal) (m : Mark) (event : Event) : Type 0 where
  pub known : is_known j.counts m ≡ true
  pub awake : (j.state.facts.cold && not (is_start event)) ≡ false
  pub room : length j.entries < 4096
  pub low : j.counts.number < 2 ^ 62

-- the tests of a refusal, one after the other
passes : (known cold full : Bool) → (if not known then Some WrongPort else if cold then Some IsCold else if full then Some JournalFull else None) ≡ None → (known ≡ true) × (cold ≡ false) × (full ≡ false)
passes false cold full is = absurd (cc)
passes true true full is = absurd (cc)
passes true false true is = absurd (cc)
passes true false false is = (refl, refl, refl)

neither : (a b : Bool) → (a || b) ≡ false → (a ≡ false) × (b ≡ false)
neither true b is = absurd (cc)
neither false b is = (refl, is)

pub is_taken : (j : Journal) (m : Mark) (event : Event) → early_refusal j m event ≡ None → IsTaken j m event
is_taken j m event none =
    let tests = passes (is_known j.counts m) (j.state.facts.cold && not (is_start event)) (nat_le 4096 (length j.entries) || nat_le (2 ^ 62) j.counts.number) none in
    let full = neither (nat_le 4096 (length j.entries)) (nat_le (2 ^ 62) j.counts.number) tests.2 in
    record {
      known = tests.0;
      awake = tests.1;
      room = leb-false 4096 (length j.entries) full.0;
      low = leb-false (2 ^ 62) j.counts.number full.1;
    }

is_started : (event : Event) → is_start event ≡ true → event ≡ events.Start
is_started events.Start is = refl
is_started event is = absurd (cc)

warm : (cold start : Bool) → (cold && not start) ≡ false → cold ≡ true → start ≡ true
warm true true awake cold = refl
warm true false awake cold = absurd (cc)
warm false start awake cold = absurd (cc)

-- where its step isn't made ready then, its limit ran out, or there is no memory
pub left_late : (j : Journal) (event : Event) (refusal : Refusal) → (j.state.facts.cold && not (is_start event)) ≡ false → IsEventLeft j.router j.state event refusal → IsRefusedLate j event refusal
left_late j event NoMemory awake out = tt
left_late j event HopLimit awake out = out.1
left_late j event IsCold awake out = absurd (out.1 (is_started event (warm j.state.facts.cold (is_start event) awake out.0)))
left_late j event refusal awake out = absurd out
