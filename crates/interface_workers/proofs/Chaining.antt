-- Receipts of one port, and one more.
use Rattle.std.proofs.Common.{◌≡◌, ◌+◌, ◌≤◌, ◌++◌, ◌∷◌, List, [], Result, Ok, Err, inl, inr, ap, arith, length, length-append, refl, subst, sym, vec_capacity}
use Rattle.lsr_config.specs.Configs.{Setup}
use Rattle.lsr_facts.specs.declared.refusal.Refusal.{Refusal}
use Rattle.lsr_facts.specs.declared.refusal.Refusal.TheVariants.{JournalFull, NoMemory}
use Rattle.abstract_paths.specs.declared.events.Event.{Event}
use Rattle.shared_core.specs.Answered.{IsRefusedBy}
use Rattle.shared_core.specs.Below.journal.Marks.{Follows}
use Rattle.shared_core.specs.Below.journal.declared.mark.Mark.{Mark}
use Rattle.shared_core.specs.Below.journal.declared.receipt.Receipt.{Receipt}
use Rattle.interface_workers.specs.Chains.{IsChain, IsFed, IsFedOnce, WorkGoesOn}
use Rattle.interface_workers.specs.declared.worker.Work.{Work}

-- a receipt that follows on the last mark goes on with the chain
pub chain_push : (receipts : List Receipt) (first last : Mark) (receipt : Receipt) → IsChain first receipts last → Follows last receipt → IsChain first (receipts ++ receipt ∷ []) receipt.mark
chain_push [] first last receipt is follows = (subst (λ (m : Mark). Follows m receipt) is follows, refl)
chain_push (one ∷ receipts) first last receipt is follows = (is.0, chain_push receipts one.mark last receipt is.1 follows)

-- work with a receipt more that follows on the last mark goes on
pub receipt_more : (before after : Work) (last next : Mark) (receipt : Receipt) → after.receipts.items ≡ before.receipts.items ++ receipt ∷ [] → Follows last receipt → next ≡ receipt.mark
    → length after.segments.items ≤ length before.segments.items + 1 → vec_capacity after.receipts ≡ vec_capacity before.receipts → vec_capacity after.segments ≡ vec_capacity before.segments
    → WorkGoesOn before last after next
receipt_more before after last next receipt put follows fed segments receipts_room segments_room = record {
  chain = λ first is.
      let longer = chain_push before.receipts.items first last receipt is follows in
      let kept : IsChain first after.receipts.items receipt.mark = subst (λ (rs : List Receipt). IsChain first rs receipt.mark) (sym put) longer in
      subst (IsChain first after.receipts.items) (sym fed) kept;
  receipts = omega (arith, ap length put, length-append before.receipts.items (receipt ∷ []));
  segments = segments;
  receipts_room = receipts_room;
  segments_room = segments_room;
}

-- an event that was fed once, the port's mark being this
pub fed_once : (c : Setup) (before mark : Mark) (event : Event) (answer : Result Receipt Refusal) (after : Mark) → mark ≡ before → IsFedOnce c mark event answer after → IsFed c before event answer after
fed_once c before mark event (Ok receipt) after same is = subst (λ (m : Mark). IsFed c m event (Ok receipt) after) same is
fed_once c before mark event (Err refusal) after same is = subst (λ (m : Mark). IsFed c m event (Err refusal) after) same (is.0, inl is.1)

-- the journal was full, and memory ran out as its entries were to be taken
pub fed_not : (c : Setup) (before after : Mark) (event : Event) (answer : Result Receipt Refusal) → answer ≡ Err NoMemory → after ≡ before → IsRefusedBy c before event JournalFull → IsFed c before event answer after
fed_not c before after event answer is same full = subst (λ (a : Result Receipt Refusal). IsFed c before event a after) (sym is) (same, inr (full, refl))
