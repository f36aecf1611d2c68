-- A worker's receipts and segments are those of the router of its core's name.
use Rattle.std.proofs.Common.{◌≡◌, ◌++◌, ◌∷◌, All, List, [], subst, sym}
use Rattle.std.proofs.lemmas.List.Elements.{All-nil, All-push}
use Rattle.lsr_config.specs.Configs.{Setup}
use Rattle.shared_core.specs.Below.journal.Journals.{Stretch}
use Rattle.shared_core.specs.Below.journal.declared.receipt.Receipt.{Receipt}
use Rattle.shared_core.specs.Names.{IsReceiptOf, IsSegmentOf}
use Rattle.interface_workers.specs.Chains.{IsWorkOf, StaysWorkOf}
use Rattle.interface_workers.specs.Turns.{IsNoWork}
use Rattle.interface_workers.specs.declared.worker.Work.{Work}

-- one segment more
pub segments_more : (c : Setup) (before after : List Stretch) (one : Stretch) → after ≡ before ++ one ∷ [] → IsSegmentOf c one → All (IsSegmentOf c) before → All (IsSegmentOf c) after
segments_more c before after one more is all = subst (All (IsSegmentOf c)) (sym more) (All-push (IsSegmentOf c) before one all is)

-- one receipt more
pub work_more : (c : Setup) (before after : Work) (receipt : Receipt) → after.receipts.items ≡ before.receipts.items ++ receipt ∷ [] → IsReceiptOf c receipt
    → (All (IsSegmentOf c) before.segments.items → All (IsSegmentOf c) after.segments.items) → StaysWorkOf c before after
work_more c before after receipt more own stays is = record {
  receipts = subst (All (IsReceiptOf c)) (sym more) (All-push (IsReceiptOf c) before.receipts.items receipt is.receipts own);
  segments = stays is.segments;
}

-- no work is that of any router
pub none_own : (c : Setup) (work : Work) → IsNoWork work → IsWorkOf c work
none_own c work none = record {
  receipts = subst (All (IsReceiptOf c)) (sym none.receipts) (All-nil (IsReceiptOf c));
  segments = subst (All (IsSegmentOf c)) (sym none.segments) (All-nil (IsSegmentOf c));
}
