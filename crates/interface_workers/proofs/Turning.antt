-- Turns that were made, and one more.
use Rattle.std.proofs.Common.{◌≡◌, ◌+◌, ◌-◌, ◌^◌, ◌≤◌, ◌<◌, ◌∷◌, ◌++◌, ℕ, List, [], min, length, sum_by, vec_capacity, ap, arith, refl, sym, subst, append_assoc, length-append, zero-add, ◌∙◌}
use Rattle.std.proofs.lemmas.List.Sums.{sum_by-append}
use Rattle.lsr_config.specs.Configs.{Setup}
use Rattle.lookup_plane.specs.declared.change.TableChange.{TableChange}
use Rattle.shared_core.specs.Below.journal.declared.mark.Mark.{Mark}
use Rattle.interface_workers.specs.Chains.{AddsUp, HasRoom, IsChain}
use Rattle.shared_core.specs.Below.journal.declared.receipt.Receipt.{Receipt}
use Rattle.worker_tallies.specs.Tallies.{IsSum, counted, faults_as, receipts_as, taken_as, with_lost}
use Rattle.interface_workers.specs.Turns.{AreAmongFailures, AreTurns, IsNoWork, IsRunOf, IsTallyOf, IsTurn, Standing}
use Rattle.interface_workers.specs.Turns.AreTurns.{at_first, one_more}
use Rattle.interface_workers.specs.Wires.{Arrival, Sending, WireHistory, after, datagram_of, fault_of, faults_in, loss_of, lost_in}
use Rattle.worker_tallies.specs.declared.handled.Handled.{Handled}
use Rattle.worker_tallies.specs.declared.handled.Handled.TheVariants.{Nothing, WireFailed, Fed, Dropped, Refused, Forwarded, Delivered, NotShown, NotCarried}
use Rattle.worker_tallies.specs.declared.handled.Tally.{Tally}
use Rattle.lookup_plane.specs.Changes.{StartsWith}
use Rattle.lookup_plane.specs.ChangesLaws.{starts_same}
use Rattle.interface_workers.proofs.TakenKinds.{arrival_kind, served_kind}
use Rattle.interface_workers.proofs.Sendings.{after_none, after_twice}

-- a tally that adds up does so with one more that is counted
pub counted_sum : (t : Tally) (handled : Handled) (lost before now : ℕ) → IsSum t before → now ≡ before + receipts_as handled → IsSum (counted (with_lost t lost) handled) now
counted_sum t Nothing lost before now sum more = record { datagrams = sum.datagrams; fed = omega (arith, sum.fed, more) }
counted_sum t WireFailed lost before now sum more = record { datagrams = sum.datagrams; fed = omega (arith, sum.fed, more) }
counted_sum t Fed lost before now sum more = record { datagrams = omega (arith, sum.datagrams); fed = omega (arith, sum.fed, more) }
counted_sum t (Dropped refusal) lost before now sum more = record { datagrams = omega (arith, sum.datagrams); fed = omega (arith, sum.fed, more) }
counted_sum t (Refused refusal) lost before now sum more = record { datagrams = omega (arith, sum.datagrams); fed = omega (arith, sum.fed, more) }
counted_sum t Forwarded lost before now sum more = record { datagrams = omega (arith, sum.datagrams); fed = omega (arith, sum.fed, more) }
counted_sum t Delivered lost before now sum more = record { datagrams = omega (arith, sum.datagrams); fed = omega (arith, sum.fed, more) }
counted_sum t NotShown lost before now sum more = record { datagrams = omega (arith, sum.datagrams); fed = omega (arith, sum.fed, more) }
counted_sum t NotCarried lost before now sum more = record { datagrams = omega (arith, sum.datagrams); fed = omega (arith, sum.fed, more) }

-- a sum up to a limit, and more
min_more : (n k top : ℕ) → min (min n top + k) top ≡ min (n + k) top
min_more n k top = omega arith

min_same : (n top : ℕ) → min n top ≡ min (n + 0) top
min_same n top = omega arith

-- what is counted is a datagram or an event, or not
pub counted_datagrams : (t : Tally) (handled : Handled) (lost : ℕ) → (counted (with_lost t lost) handled).datagrams ≡ t.datagrams + taken_as handled
counted_datagrams t Nothing lost = omega arith
counted_datagrams t WireFailed lost = omega arith
counted_datagrams t Fed lost = refl
counted_datagrams t (Dropped refusal) lost = refl
counted_datagrams t (Refused refusal) lost = refl
counted_datagrams t Forwarded lost = refl
counted_datagrams t Delivered lost = refl
counted_datagrams t NotShown lost = refl
counted_datagrams t NotCarried lost = refl

-- or a fault
counted_faults : (t : Tally) (handled : Handled) (lost faults : ℕ) → t.faults ≡ min faults (2 ^ 64 - 1) → (counted (with_lost t lost) handled).faults ≡ min (faults + faults_as handled) (2 ^ 64 - 1)
counted_faults t Nothing lost faults is = is ∙ min_same faults (2 ^ 64 - 1)
counted_faults t WireFailed lost faults is = ap (λ (n : ℕ). min (n + 1) (2 ^ 64 - 1)) is ∙ min_more faults 1 (2 ^ 64 - 1)
counted_faults t Fed lost faults is = is ∙ min_same faults (2 ^ 64 - 1)
counted_faults t (Dropped refusal) lost faults is = is ∙ min_same faults (2 ^ 64 - 1)
counted_faults t (Refused refusal) lost faults is = is ∙ min_same faults (2 ^ 64 - 1)
counted_faults t Forwarded lost faults is = is ∙ min_same faults (2 ^ 64 - 1)
counted_faults t Delivered lost faults is = is ∙ min_same faults (2 ^ 64 - 1)
counted_faults t NotShown lost faults is = is ∙ min_same faults (2 ^ 64 - 1)
counted_faults t NotCarried lost faults is = is ∙ min_same faults (2 ^ 64 - 1)

-- and the frames that are lost
pub counted_lost : (t : Tally) (handled : Handled) (lost : ℕ) → (counted (with_lost t lost) handled).lost ≡ min (t.lost + lost) (2 ^ 64 - 1)
counted_lost t Nothing lost = refl
counted_lost t WireFailed lost = refl
counted_lost t Fed lost = refl
counted_lost t (Dropped refusal) lost = refl
counted_lost t (Refused refusal) lost = refl
counted_lost t Forwarded lost = refl
counted_lost t Delivered lost = refl
counted_lost t NotShown lost = refl
counted_lost t NotCarried lost = refl

-- one more of a list is counted
sum_push : {X : Type 0} (f : X → ℕ) (xs : List X) (x : X) → sum_by f (xs ++ x ∷ []) ≡ sum_by f xs + f x
sum_push f xs x = sum_by-append f xs (x ∷ []) ∙ ap (λ (n : ℕ). sum_by f xs + n) (zero-add (f x))

-- a tally that tells what happened on the wire does so with one more turn
tally_more : (t : Tally) (turns : ℕ) (start h now : WireHistory) (arrival : Arrival) (sendings : List Sending) (handled : Handled) → IsTallyOf t turns start h → now ≡ after h (arrival ∷ []) sendings
    → taken_as handled ≡ datagram_of arrival → faults_as handled ≡ fault_of arrival → IsTallyOf (counted (with_lost t (lost_in sendings)) handled) (turns + 1) start now
tally_more t turns start h now arrival sendings handled is history taken faults = record {
  arrivals = is.arrivals ++ arrival ∷ [];
  sendings = is.sendings ++ sendings;
  history = history ∙ ap (λ (x : WireHistory). after x (arrival ∷ []) sendings) is.history ∙ after_twice start is.arrivals (arrival ∷ []) is.sendings sendings;
  asked = omega (arith, is.asked, length-append is.arrivals (arrival ∷ []));
  datagrams = counted_datagrams t handled (lost_in sendings) ∙ omega (arith, is.datagrams, taken, sum_push datagram_of is.arrivals arrival);
  faults = counted_faults t handled (lost_in sendings) (faults_in is.arrivals) is.faults
      ∙ ap (λ (n : ℕ). min n (2 ^ 64 - 1)) (ap (λ (k : ℕ). faults_in is.arrivals + k) faults ∙ sym (sum_push fault_of is.arrivals arrival));
  lost = counted_lost t handled (lost_in sendings) ∙ ap (λ (n : ℕ). min (n + lost_in sendings) (2 ^ 64 - 1)) is.lost ∙ min_more (lost_in is.sendings) (lost_in sendings) (2 ^ 64 - 1)
      ∙ ap (λ (n : ℕ). min n (2 ^ 64 - 1)) (sym (sum_by-append loss_of is.sendings sendings));
}

-- what is taken is at most one datagram
one_taken : (handled : Handled) → taken_as handled ≤ 1
one_taken Nothing = omega arith
one_taken WireFailed = omega arith
one_taken Fed = omega arith
one_taken (Dropped refusal) = omega arith
one_taken (Refused refusal) = omega arith
one_taken Forwarded = omega arith
one_taken Delivered = omega arith
one_taken NotShown = omega arith
one_taken NotCarried = omega arith

-- changes that begin with those that begin with these
starts_after : (now before start : List TableChange) → StartsWith now before → StartsWith before start → StartsWith now start
starts_after now before start later earlier =
    (earlier.0 ++ later.0, later.1 ∙ ap (λ (all : List TableChange). all ++ later.0) earlier.1 ∙ append_assoc start earlier.0 later.0)

-- So many turns were made, beginning with this mark, these changes seen and this history: the receipts are a chain from the mark, the tally
-- adds up and tells what happened on the wire, and each turn took at most one datagram and one segment.
pub record HasTurned (turns : ℕ) (mark : Mark) (seen : List TableChange) (h : WireHistory) (now : Standing) : Type 0 where
  pub chain : IsChain mark now.work.receipts.items now.mark
  pub adds_up : AddsUp now.work
  pub tally : IsTallyOf now.work.tally now.work.turns h now.history
  pub made : now.work.turns ≡ turns
  pub few : now.work.tally.datagrams ≤ turns
  pub segments : length now.work.segments.items ≤ turns
  pub later : StartsWith now.seen seen

-- before the first turn
none_turned : (start : Standing) → IsNoWork start.work → HasTurned 0 start.mark start.seen start.history start
none_turned start begun = record {
  chain = subst (λ (rs : List Receipt). IsChain start.mark rs start.mark) (sym begun.receipts) refl;
  adds_up = subst (λ (t : Tally). IsSum t (length start.work.receipts.items)) (sym begun.tally) (record { datagrams = refl; fed = sym (ap length begun.receipts) });
  tally = subst (λ (t : Tally). IsTallyOf t start.work.turns start.history start.history) (sym begun.tally) (record {
    arrivals = [];
    sendings = [];
    history = sym (after_none start.history);
    asked = begun.turns;
    datagrams = refl;
    faults = refl;
    lost = refl;
  });
  made = begun.turns;
  few = omega (arith, ap (λ (t : Tally). t.datagrams) begun.tally);
  segments = omega (arith, ap length begun.segments);
  later = starts_same start.seen;
}

-- and after one more
turn_more : (c : Setup) (link turns : ℕ) (mark : Mark) (seen : List TableChange) (h : WireHistory) (before now : Standing) → HasTurned turns mark seen h before → IsTurn c link before now → HasTurned (turns + 1) mark seen h now
turn_more c link turns mark seen h before now had turn =
    let arrived = arrival_kind c.router now.seen link turn.arrival turn.taken turn.took in
    let kind = served_kind c before.mark turn.taken turn.handled before.work.receipts.items now.work.receipts.items turn.frames turn.sendings turn.served in
    let tally : IsTallyOf now.work.tally (before.work.turns + 1) h now.history =
    subst (λ (t : Tally). IsTallyOf t (before.work.turns + 1) h now.history) (sym turn.tally)
    (tally_more before.work.tally before.work.turns h before.history now.history turn.arrival turn.sendings turn.handled had.tally turn.history
    (kind.taken ∙ arrived.0) (kind.faults ∙ arrived.1)) in
    record {
      chain = turn.goes_on.chain mark had.chain;
      adds_up = subst (λ (t : Tally). IsSum t (length now.work.receipts.items)) (sym turn.tally)
          (counted_sum before.work.tally turn.handled (lost_in turn.sendings) (length before.work.receipts.items) (length now.work.receipts.items) had.adds_up kind.receipts);
      tally = subst (λ (n : ℕ). IsTallyOf now.work.tally n h now.history) (sym turn.turns) tally;
      made = omega (arith, turn.turns, had.made);
      few = omega (arith, ap (λ (t : Tally). t.datagrams) turn.tally, counted_datagrams before.work.tally turn.handled (lost_in turn.sendings), one_taken turn.handled, had.few);
      segments = omega (arith, turn.goes_on.segments, had.segments);
      later = starts_after now.seen before.seen seen turn.seen had.later;
    }

-- what so many turns have done
turned : (c : Setup) (link : ℕ) (start : Standing) (turns : ℕ) (now : Standing) → IsNoWork start.work → AreTurns c link start turns now → HasTurned turns start.mark start.seen start.history now
turned c link start turns now begun at_first = none_turned start begun
turned c link start turns now begun (one_more earlier all before after made turn one) =
    subst (λ (n : ℕ). HasTurned n start.mark start.seen start.history after) (sym one)
    (turn_more c link earlier start.mark start.seen start.history before after (turned c link start earlier before begun made) turn)

pub run_turned : (c : Setup) (link turns : ℕ) (mark : Mark) (seen : List TableChange) (h : WireHistory) (now : Standing) → IsRunOf c link turns mark seen h now → HasTurned turns mark seen h now
run_turned c link turns mark seen h now run = turned c link (record { work = run.work; mark = mark; seen = seen; history = h }) turns now run.begun run.made

-- a run that begins
pub run_none : (c : Setup) (link : ℕ) (now : Standing) → IsNoWork now.work → IsRunOf c link 0 now.mark now.seen now.history now
run_none c link now begun = record { work = now.work; begun = begun; made = at_first }

-- and goes on
pub run_more : (c : Setup) (link turns : ℕ) (mark : Mark) (seen : List TableChange) (h : WireHistory) (before now : Standing) → IsRunOf c link turns mark seen h before → IsTurn c link before now
    → IsRunOf c link (turns + 1) mark seen h now
run_more c link turns mark seen h before now run turn = record { work = run.work; begun = run.begun; made = one_more turns (turns + 1) before now run.made turn refl }

-- the work says how many turns were made
pub run_whole : (c : Setup) (link turns : ℕ) (mark : Mark) (seen : List TableChange) (h : WireHistory) (now : Standing) → IsRunOf c link turns mark seen h now → IsRunOf c link now.work.turns mark seen h now
run_whole c link turns mark seen h now run = subst (λ (n : ℕ). IsRunOf c link n mark seen h now) (sym (run_turned c link turns mark seen h now run).made) run

-- what is counted is among the wire's failures
min_low : (n top : ℕ) → min n top ≤ n
min_low n top = omega arith

pub among_failures : (t : Tally) (turns : ℕ) (start now : WireHistory) → IsTallyOf t turns start now → AreAmongFailures t start now
among_failures t turns start now is =
    omega (arith, is.lost, is.faults, ap (λ (x : WireHistory). x.failed) is.history, min_low (lost_in is.sendings) (2 ^ 64 - 1), min_low (faults_in is.arrivals) (2 ^ 64 - 1))

-- there are no more receipts than turns
few_receipts : (turns : ℕ) (mark : Mark) (seen : List TableChange) (h : WireHistory) (now : Standing) → HasTurned turns mark seen h now → length now.work.receipts.items ≤ turns
few_receipts turns mark seen h now had = omega (arith, had.adds_up.datagrams, had.adds_up.fed, had.few)

-- nor more segments
pub few_of : (turns most : ℕ) (mark : Mark) (seen : List TableChange) (h : WireHistory) (now : Standing) → HasTurned turns mark seen h now → turns ≤ most
    → (length now.work.receipts.items ≤ most) × (length now.work.segments.items ≤ most)
few_of turns most mark seen h now had low = (omega (arith, few_receipts turns mark seen h now had, low), omega (arith, had.segments, low))

-- there is room for one turn more
pub turn_room : (turns room : ℕ) (mark : Mark) (seen : List TableChange) (h : WireHistory) (now : Standing) → HasTurned turns mark seen h now → turns < room → room < 2 ^ 32 → room ≤ vec_capacity now.work.receipts
    → room ≤ vec_capacity now.work.segments → HasRoom now.work
turn_room turns room mark seen h now had low narrow receipts segments = record {
  receipts = omega (arith, few_receipts turns mark seen h now had, low, receipts);
  segments = omega (arith, had.segments, low, segments);
  adds_up = had.adds_up;
  datagrams = omega (arith, had.few, low, narrow);
}
