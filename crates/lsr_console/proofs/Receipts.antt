-- The newest receipt, and what became of an event.
use Rattle.std.proofs.Common.{◌≡◌, ◌≤◌, ◌-◌, ◌++◌, ◌∷◌, All, List, [], ℕ, Some, ap, arith, length, refl, subst, sym}
use Rattle.std.proofs.lemmas.List.{length-append}
use Rattle.std.specs.Option.{MatchOption}
use Rattle.std.specs.Prelude.{slice_get, slice_index_or}
use Rattle.abstract_paths.specs.declared.events.Event.{Event}
use Rattle.journal_bytes.specs.declared.entry.WrittenFrame.{WrittenFrame}
use Rattle.lsr_config.specs.Configs.{Setup}
use Rattle.run_journal.specs.declared.mark.Mark.{Mark}
use Rattle.run_journal.specs.declared.receipt.Receipt.{Receipt}
use Rattle.interface_workers.specs.Chains.{StaysWorkOf}
use Rattle.shared_core.specs.Names.{IsReceiptOf}
use Rattle.interface_workers.specs.Turns.{IsEventServed}
use Rattle.interface_workers.specs.Wires.{Sending}
use Rattle.worker_tallies.specs.declared.handled.Handled.{Handled}
use Rattle.worker_tallies.specs.declared.handled.Handled.TheVariants as handles
use Rattle.interface_workers.specs.declared.worker.Work.{Work}
use Rattle.lsr_console.specs.Answers.{IsFedAs, IsRefusedFor, refusal_of}

-- one stands where it was put
put_at : (before : List Receipt) (r : Receipt) → slice_get (before ++ r ∷ []) (length before) ≡ Some r
put_at [] r = refl
put_at (x ∷ xs) r = put_at xs r

read_at : (before : List Receipt) (r d : Receipt) → slice_index_or (before ++ r ∷ []) (length before) d ≡ r
read_at [] r d = refl
read_at (x ∷ xs) r d = read_at xs r d

-- how many there are with it
count : (all before : List Receipt) (r : Receipt) → all ≡ before ++ r ∷ [] → length all - 1 ≡ length before
count all before r is = omega (arith, ap (λ (l : List Receipt). length l) is, length-append before (r ∷ []))

pub some : (all before : List Receipt) (r : Receipt) → all ≡ before ++ r ∷ [] → 1 ≤ length all
some all before r is = omega (arith, ap (λ (l : List Receipt). length l) is, length-append before (r ∷ []))

-- the last of receipts to which one was put is that one
newest_is : (all before : List Receipt) (r : Receipt) → all ≡ before ++ r ∷ [] → slice_get all (length all - 1) ≡ Some r
newest_is all before r is =
    subst (λ (l : List Receipt). slice_get l (length all - 1) ≡ Some r) (sym is)
    (subst (λ (i : ℕ). slice_get (before ++ r ∷ []) i ≡ Some r) (sym (count all before r is)) (put_at before r))

-- what holds of all holds of it
of_newest : (P : Receipt → Type 0) (all before : List Receipt) (r : Receipt) → all ≡ before ++ r ∷ [] → All P all → P r
of_newest P all before r is each =
    let put : All P (before ++ r ∷ []) = subst (λ (l : List Receipt). All P l) is each in
    subst P (read_at before r r) (put (length before) r (omega (arith, length-append before (r ∷ []))))

-- the newest receipt is that of the event that was fed
pub newest_fed : (c : Setup) (event : Event) (before after : Work) (r q : Receipt) → IsFedAs c event before after r → slice_get after.receipts.items (length after.receipts.items - 1) ≡ Some q → IsFedAs c event before after q
newest_fed c event before after r q fed newest =
    let same : r ≡ q = cc (newest_is after.receipts.items before.receipts.items r fed.newest, newest) in
    subst (λ (x : Receipt). IsFedAs c event before after x) same fed

-- an event that was served was fed or refused
pub event_answered : (c : Setup) (m : Mark) (event : Event) (handled : Handled) (before after : Work) (frames : List WrittenFrame) (sendings : List Sending) → IsEventServed c m event handled before.receipts.items after.receipts.items frames sendings → StaysWorkOf c before after
    → MatchOption (refusal_of handled) ((receipt : Receipt) × IsFedAs c event before after receipt) (IsRefusedFor c event before after)
event_answered c m event handles.Fed before after frames sendings (r, newest, is, sent) stays =
    (r, record { newest = newest; of_event = is; own = λ own. of_newest (IsReceiptOf c) after.receipts.items before.receipts.items r newest (stays own).receipts })
event_answered c m event (handles.Dropped refusal) before after frames sendings (kind, same, none, reason) stays = record { receipts = same; mark = m; reason = reason }
event_answered c m event (handles.Refused refusal) before after frames sendings (kind, same, none, reason) stays = record { receipts = same; mark = m; reason = reason }
event_answered c m event handles.Nothing before after frames sendings served stays = absurd served
event_answered c m event handles.WireFailed before after frames sendings served stays = absurd served
event_answered c m event handles.Forwarded before after frames sendings served stays = absurd served
event_answered c m event handles.Delivered before after frames sendings served stays = absurd served
event_answered c m event handles.NotShown before after frames sendings served stays = absurd served
event_answered c m event handles.NotCarried before after frames sendings served stays = absurd served
