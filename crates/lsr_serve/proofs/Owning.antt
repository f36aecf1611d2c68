-- What a run left is of the router of a configuration, with the work of one more port, and with the last segment.
use Rattle.std.proofs.Common.{◌≡◌, ◌++◌, ◌∷◌, All, List, [], Some, Result, Ok, refl, subst, sym}
use Rattle.std.proofs.lemmas.List.Elements.{All-append, All-pop, All-push}
use Rattle.std.proofs.lemmas.List.Sorted.{All-permutation}
use Rattle.std.specs.Prelude.{IfOk, IsPermutation}
use Rattle.lsr_config.specs.Configs.{Setup}
use Rattle.interface_workers.specs.Below.journal.Journals.{Stretch}
use Rattle.interface_workers.specs.Chains.{IsWorkOf}
use Rattle.interface_workers.specs.Below.core.Names.{IsReceiptOf, IsSegmentOf}
use Rattle.interface_workers.specs.declared.worker.Work.{Work}
use Rattle.lsr_serve.specs.Reports.{IsReportOf}
use Rattle.lsr_serve.specs.declared.run.RunReport.{RunReport}

-- the work of one port more
pub put_own : (c : Setup) (before now : RunReport) (work : Work) → now.receipts.items ≡ before.receipts.items ++ work.receipts.items → now.segments.items ≡ before.segments.items ++ work.segments.items
    → IsReportOf c before → IsWorkOf c work → IsReportOf c now
put_own c before now work receipts segments left done = record {
  receipts = subst (All (IsReceiptOf c)) (sym receipts) (All-append (IsReceiptOf c) before.receipts.items work.receipts.items left.receipts done.receipts);
  segments = subst (All (IsSegmentOf c)) (sym segments) (All-append (IsSegmentOf c) before.segments.items work.segments.items left.segments done.segments);
}

-- the works of many ports, and of one more
pub works_more : {X E : Type 0} (c : Setup) (work_of : X → Result Work E) (start before now : RunReport) (done : List X) (one : X) (work : Work) → work_of one ≡ Ok work
    → (IsReportOf c start → All (λ w. IfOk (work_of w) (IsWorkOf c)) done → IsReportOf c before) → (IsReportOf c before → IsWorkOf c work → IsReportOf c now)
    → IsReportOf c start → All (λ w. IfOk (work_of w) (IsWorkOf c)) (done ++ one ∷ []) → IsReportOf c now
works_more {X} {E} c work_of start before now done one work is earlier put begun all =
    let Own : Result Work E → Type 0 = λ (w : Result Work E). IfOk w (IsWorkOf c) in
    let Done : X → Type 0 = λ (w : X). Own (work_of w) in
    let split = All-pop Done (done ++ one ∷ []) done (Some one) refl all in
    put (earlier begun split.0) (subst Own is split.1)

-- the last segment, and all of them in another order
pub sorted_own : (c : Setup) (segments pushed sorted : List Stretch) (last : Stretch) → pushed ≡ segments ++ last ∷ [] → IsPermutation pushed sorted → All (IsSegmentOf c) segments → IsSegmentOf c last
    → All (IsSegmentOf c) sorted
sorted_own c segments pushed sorted last more order all own =
    All-permutation (IsSegmentOf c) pushed sorted order (subst (All (IsSegmentOf c)) (sym more) (All-push (IsSegmentOf c) segments last all own))
