-- So many ports were added, with their workers, and what they did was put to what the others left.
use Rattle.std.proofs.Common.{◌≡◌, ◌+◌, All, length}
use Rattle.std.specs.Prelude.{IfOk}
use Rattle.lsr_config.specs.Configs.{Setup}
use Rattle.interface_workers.specs.Chains.{IsWorkOf}
use Rattle.lsr_serve.specs.Reports.{IsCounted, IsReportOf}
use Rattle.lsr_serve.proofs.run.add_turned.Given as goal

abbrev pub invariant-loop-one : goal.invariant-loop-one
invariant-loop-one g l = record {
  ports : length l.served.ports.items ≡ length l.initial.served.ports.items + length l.yielded;
  workers : length l.workers.items ≡ length l.initial.workers.items + length l.yielded;
  counted : IsCounted l.served;
  own : (c : Setup) → IsReportOf c l.initial.served → All (λ one. IfOk one.work (IsWorkOf c)) l.yielded → IsReportOf c l.served;
}
