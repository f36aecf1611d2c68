-- What the threads of a run leave.
use Rattle.std.specs.Prelude.{◌≡◌, ◌++◌, ◌∷◌, [], All, length, sum_by}
use Rattle.lsr_config.specs.Configs.{Setup}
use Rattle.interface_workers.specs.Below.core.Names.{IsReceiptOf, IsSegmentOf}
use Rattle.interface_workers.specs.declared.worker.Work.{Work}
use Rattle.lsr_serve.specs.declared.run.PortCount.{PortCount}
use Rattle.lsr_serve.specs.declared.run.RunReport.{RunReport}

-- There are as many receipts as the ports have, all together.
abbrev pub IsCounted : RunReport → Type 0
IsCounted report = length report.receipts.items ≡ sum_by (λ count. count.receipts) report.ports.items

-- All that is left is of the router of this configuration: each receipt is of an entry of it, and each segment is a stretch of its journal.
pub record IsReportOf (c : Setup) (report : RunReport) : Type 0 where
  pub receipts : All (IsReceiptOf c) report.receipts.items
  pub segments : All (IsSegmentOf c) report.segments.items

-- what is told of a port that did this work: how many receipts it has, and its tally
abbrev pub count_of : Work → PortCount
count_of work = record { receipts = length work.receipts.items; tally = work.tally }

-- The work of one more port is put to what the others left, behind it: its count, its receipts and its segments.
pub record IsPutTo (before : RunReport) (work : Work) (now : RunReport) : Type 0 where
  pub ports : now.ports.items ≡ before.ports.items ++ count_of work ∷ []
  pub receipts : now.receipts.items ≡ before.receipts.items ++ work.receipts.items
  pub segments : now.segments.items ≡ before.segments.items ++ work.segments.items
  pub kept : now.kept ≡ before.kept
