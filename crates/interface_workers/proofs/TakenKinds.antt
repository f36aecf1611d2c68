-- What was taken is of the kind of what the wire answered, and is counted as such.
use Rattle.std.proofs.Common.{◌≡◌, ◌+◌, ◌⊎◌, ◌++◌, ◌∷◌, ◌&&◌, inl, inr, ℕ, Bool, true, false, cond, List, [], Ok, Err, length, ap, arith, refl, sym, subst, length-append, ◌∙◌}
use Rattle.std.specs.Prelude.{nat_le}
use Rattle.lsr_config.specs.Configs.{Setup}
use Rattle.lsr_facts.specs.Refusals.{number_of}
use Rattle.lsr_facts.specs.declared.refusal.Refusal.{Refusal}
use Rattle.lsr_facts.specs.declared.refusal.Refusal.TheVariants.{JournalFull}
use Rattle.lsr_facts.specs.declared.router.Router.{Router}
use Rattle.abstract_paths.specs.declared.events.Event.{Event}
use Rattle.lookup_plane.specs.declared.change.TableChange.{TableChange}
use Rattle.datagrams.specs.declared.datagram.Datagram.TheVariants as datagrams
use Rattle.datagrams.specs.declared.datagram.Passed.{Passed}
use Rattle.datagrams.specs.declared.datagram.Passed.TheVariants as passes
use Rattle.journal_bytes.specs.declared.entry.WrittenFrame.{WrittenFrame}
use Rattle.shared_core.specs.Below.journal.Journals.{Stretch}
use Rattle.shared_core.specs.Below.journal.declared.mark.Mark.{Mark}
use Rattle.shared_core.specs.Below.journal.declared.receipt.Receipt.{Receipt}
use Rattle.interface_workers.specs.Chains.{IsLeft}
use Rattle.worker_tallies.specs.Tallies.{faults_as, handled_for, receipts_as, taken_as}
use Rattle.interface_workers.specs.Turns.{HasSent, IsEventServed, IsFullAgain, IsOfEvent, IsPassedOn, IsServed, IsTaken}
use Rattle.interface_workers.specs.Wires.{Arrival, Sending, WireHistory, datagram_of, fault_of}
use Rattle.interface_workers.specs.Wires.Arrival.{Came, Fault, Silence}
use Rattle.worker_tallies.specs.declared.handled.Handled.{Handled}
use Rattle.worker_tallies.specs.declared.handled.Handled.TheVariants as handles
use Rattle.interface_workers.specs.declared.worker.Taken.{Taken}
use Rattle.interface_workers.specs.declared.worker.Taken.TheVariants as takes
use Rattle.interface_workers.proofs.Sendings.{none_sent}

-- one, where a datagram was taken
abbrev pub came_as : Taken → ℕ
came_as takes.Nothing = 0
came_as takes.WireFailed = 0
came_as takes.NotShown = 1
came_as (takes.Came answer) = 1

-- one, where the wire failed
abbrev pub failed_as : Taken → ℕ
failed_as takes.Nothing = 0
failed_as takes.WireFailed = 1
failed_as takes.NotShown = 0
failed_as (takes.Came answer) = 0

-- What is counted so is of this kind, and leaves a receipt where it was fed.
pub record IsKind (came failed : ℕ) (handled : Handled) (before now : List Receipt) : Type 0 where
  pub taken : taken_as handled ≡ came
  pub faults : faults_as handled ≡ failed
  pub receipts : length now ≡ length before + receipts_as handled

-- what was taken is of the kind of what the wire answered
pub arrival_kind : (r : Router) (seen : List TableChange) (link : ℕ) (arrival : Arrival) (taken : Taken) → IsTaken r seen link arrival taken → (came_as taken ≡ datagram_of arrival) × (failed_as taken ≡ fault_of arrival)
arrival_kind r seen link Silence taken is = (ap came_as is, ap failed_as is)
arrival_kind r seen link Fault taken is = (ap came_as is, ap failed_as is)
arrival_kind r seen link (Came bytes) (takes.Came answer) is = (refl, refl)
arrival_kind r seen link (Came bytes) takes.NotShown is = (refl, refl)
arrival_kind r seen link (Came bytes) takes.Nothing is = absurd is
arrival_kind r seen link (Came bytes) takes.WireFailed is = absurd is

-- of a kind that leaves no receipt
plain_kind : (came failed : ℕ) (handled other : Handled) (before now : List Receipt) → handled ≡ other → now ≡ before → taken_as other ≡ came → faults_as other ≡ failed → receipts_as other ≡ 0 → IsKind came failed handled before now
plain_kind came failed handled other before now is same taken faults receipts = record {
  taken = ap taken_as is ∙ taken;
  faults = ap faults_as is ∙ faults;
  receipts = omega (arith, ap length same, ap receipts_as is, receipts);
}

-- what is refused is a datagram or an event, and leaves no receipt
refused_kind : (b : Bool) (refusal : Refusal) (handled : Handled) (before now : List Receipt) → handled ≡ cond b (handles.Refused refusal) (handles.Dropped refusal) → now ≡ before → IsKind 1 0 handled before now
refused_kind true refusal handled before now is same = plain_kind 1 0 handled (handles.Refused refusal) before now is same refl refl refl
refused_kind false refusal handled before now is same = plain_kind 1 0 handled (handles.Dropped refusal) before now is same refl refl refl

-- so is an event
pub event_kind : (c : Setup) (m : Mark) (event : Event) (handled : Handled) (before now : List Receipt) (frames : List WrittenFrame) (sendings : List Sending) → IsEventServed c m event handled before now frames sendings → IsKind 1 0 handled before now
event_kind c m event handles.Fed before now frames sendings is = record {
  taken = refl;
  faults = refl;
  receipts = ap length is.1 ∙ length-append before (is.0 ∷ []);
}
event_kind c m event (handles.Dropped refusal) before now frames sendings is = plain_kind 1 0 (handles.Dropped refusal) (handles.Dropped refusal) before now refl is.1 refl refl refl
event_kind c m event (handles.Refused refusal) before now frames sendings is = plain_kind 1 0 (handles.Refused refusal) (handles.Refused refusal) before now refl is.1 refl refl refl
event_kind c m event handles.Nothing before now frames sendings is = absurd is
event_kind c m event handles.WireFailed before now frames sendings is = absurd is
event_kind c m event handles.Forwarded before now frames sendings is = absurd is
event_kind c m event handles.Delivered before now frames sendings is = absurd is
event_kind c m event handles.NotShown before now frames sendings is = absurd is
event_kind c m event handles.NotCarried before now frames sendings is = absurd is

-- and what goes on by its labels, or has arrived
passed_kind : (passed : Passed) (handled : Handled) (before now : List Receipt) (frames : List WrittenFrame) (sendings : List Sending) → now ≡ before → IsPassedOn passed handled frames sendings → IsKind 1 0 handled before now
passed_kind (passes.Delivered content) handled before now frames sendings same is = plain_kind 1 0 handled handles.Delivered before now is.0 same refl refl refl
passed_kind (passes.Sent link frame) handles.Forwarded before now frames sendings same is = plain_kind 1 0 handles.Forwarded handles.Forwarded before now refl same refl refl refl
passed_kind (passes.Sent link frame) handles.NotCarried before now frames sendings same is = plain_kind 1 0 handles.NotCarried handles.NotCarried before now refl same refl refl refl
passed_kind (passes.Sent link frame) (handles.Refused refusal) before now frames sendings same is = plain_kind 1 0 (handles.Refused refusal) (handles.Refused refusal) before now refl same refl refl refl
passed_kind (passes.Sent link frame) (handles.Dropped refusal) before now frames sendings same is = absurd is
passed_kind (passes.Sent link frame) handles.Fed before now frames sendings same is = absurd is
passed_kind (passes.Sent link frame) handles.Nothing before now frames sendings same is = absurd is
passed_kind (passes.Sent link frame) handles.WireFailed before now frames sendings same is = absurd is
passed_kind (passes.Sent link frame) handles.Delivered before now frames sendings same is = absurd is
passed_kind (passes.Sent link frame) handles.NotShown before now frames sendings same is = absurd is

-- what is served is of the kind of what was taken
pub served_kind : (c : Setup) (m : Mark) (taken : Taken) (handled : Handled) (before now : List Receipt) (frames : List WrittenFrame) (sendings : List Sending) → IsServed c m taken handled before now frames sendings
    → IsKind (came_as taken) (failed_as taken) handled before now
served_kind c m takes.Nothing handled before now frames sendings is = plain_kind 0 0 handled handles.Nothing before now is.0 is.1 refl refl refl
served_kind c m takes.WireFailed handled before now frames sendings is = plain_kind 0 1 handled handles.WireFailed before now is.0 is.1 refl refl refl
served_kind c m takes.NotShown handled before now frames sendings is = plain_kind 1 0 handled handles.NotShown before now is.0 is.1 refl refl refl
served_kind c m (takes.Came (Ok (datagrams.Event event))) handled before now frames sendings is = event_kind c m event handled before now frames sendings is
served_kind c m (takes.Came (Ok (datagrams.Passed passed))) handled before now frames sendings is = passed_kind passed handled before now frames sendings is.0 is.1
served_kind c m (takes.Came (Err refusal)) handled before now frames sendings is =
    refused_kind (nat_le 40 (number_of refusal) && nat_le (number_of refusal) 43) refusal handled before now is.0 is.1

-- an event that is refused is served so
pub refused_event : (c : Setup) (m : Mark) (b : Bool) (event : Event) (refusal : Refusal) (handled : Handled) (before now : List Receipt) (frames : List WrittenFrame) (sendings : List Sending)
    → handled_for refusal ≡ cond b (handles.Refused refusal) (handles.Dropped refusal) → handled ≡ handled_for refusal → now ≡ before → frames ≡ [] → IsLeft c m event refusal
    → IsEventServed c m event handled before now frames sendings
refused_event c m true event refusal handled before now frames sendings cases is same none may =
    subst (λ (h : Handled). IsEventServed c m event h before now frames sendings) (sym (is ∙ cases)) (sym cases, same, none, may)
refused_event c m false event refusal handled before now frames sendings cases is same none may =
    subst (λ (h : Handled). IsEventServed c m event h before now frames sendings) (sym (is ∙ cases)) (sym cases, same, none, may)

-- nothing is sent for an event that is refused
pub event_refused : (c : Setup) (m : Mark) (event : Event) (refusal : Refusal) (handled : Handled) (before : List Receipt) (h : WireHistory) → handled ≡ handled_for refusal → IsLeft c m event refusal
    → HasSent (IsEventServed c m event handled before before) h h
event_refused c m event refusal handled before h is may = record {
  frames = [];
  sendings = [];
  is = refused_event c m (nat_le 40 (number_of refusal) && nat_le (number_of refusal) 43) event refusal handled before before [] [] refl is refl refl may;
  sent = none_sent h h refl;
}

-- what is refused, as it is counted
abbrev refusal_in : Handled → Refusal
refusal_in (handles.Dropped refusal) = refusal
refusal_in (handles.Refused refusal) = refusal
refusal_in handled = JournalFull

-- what is counted as refused so was refused so
refused_as : (b : Bool) (refusal : Refusal) → cond b (handles.Refused refusal) (handles.Dropped refusal) ≡ handles.Refused JournalFull → refusal ≡ JournalFull
refused_as true refusal is = ap refusal_in is
refused_as false refusal is = ap refusal_in is

-- an event that is refused as full was so again
pub full_again : (refusal : Refusal) (handled : Handled) (before now : List Stretch) → handled ≡ handled_for refusal → (refusal ≡ JournalFull → length now ≡ length before + 1) → IsFullAgain handled before now
full_again refusal handled before now is again full =
    again (refused_as (nat_le 40 (number_of refusal) && nat_le (number_of refusal) 43) refusal (sym is ∙ full))

-- an event that is served has a receipt, after the others, or leaves them as they are
pub fed_or_left : (c : Setup) (m : Mark) (event : Event) (handled : Handled) (before now : List Receipt) (frames : List WrittenFrame) (sendings : List Sending) → IsEventServed c m event handled before now frames sendings
    → ((receipt : Receipt) × (now ≡ before ++ receipt ∷ []) × IsOfEvent event receipt) ⊎ (now ≡ before)
fed_or_left c m event handles.Fed before now frames sendings (receipt, more, own, sent) = inl (receipt, more, own)
fed_or_left c m event (handles.Dropped refusal) before now frames sendings is = inr is.1
fed_or_left c m event (handles.Refused refusal) before now frames sendings is = inr is.1
fed_or_left c m event handles.Nothing before now frames sendings is = absurd is
fed_or_left c m event handles.WireFailed before now frames sendings is = absurd is
fed_or_left c m event handles.Forwarded before now frames sendings is = absurd is
fed_or_left c m event handles.Delivered before now frames sendings is = absurd is
fed_or_left c m event handles.NotShown before now frames sendings is = absurd is
fed_or_left c m event handles.NotCarried before now frames sendings is = absurd is
