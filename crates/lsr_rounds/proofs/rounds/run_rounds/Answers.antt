-- The round goes on from those before it, and what it left is of the configuration's router.
use Rattle.std.proofs.Common.{◌≡◌, ◌+◌, ap, arith, length, subst, sym}
use Rattle.lsr_config.specs.Configs.{Setup}
use Rattle.lsr_serve.specs.Below.workers.Below.core.Names.{IsSegmentOf}
use Rattle.lsr_serve.specs.Reports.{IsReportOf}
use Rattle.lsr_rounds.proofs.GoingOn.{moved, rounds_so_far}
use Rattle.lsr_rounds.proofs.rounds.run_rounds.Goals as goal

pub add-requires : goal.add-requires
add-requires g c =
    subst (λ (s : Setup). IsReportOf s c.add_segment.new.served) (sym c.requires)
    (c.in_ok-add_segment.ensures.own g.L.CoreName.config c.in_ok-made.ensures.own
    (subst (IsSegmentOf g.L.CoreName.config) (sym c.into_segment.ensures) c.in_ok-segment.ensures.own))

pub loop-preserved : goal.loop-preserved
loop-preserved g c =
    let round = c.add_segment.new.served in
    let workers : length c.loop.workers.items ≡ length c.args.workers.items = c.loop.invariant.3 in
    let ports : length round.ports.items ≡ length c.args.workers.items + 2 = omega (arith, ap (λ all. length all.items) c.add_segment.ensures.ports, c.in_ok-made.ensures.ports, workers) in
    let rounds =
    moved g.L.CoreName.config c.args.config.now (length c.args.workers.items + 2) (length round.ports.items) c.loop.so_far c.add.new.self c.requires ports c.in_ok-ports.ensures c.loop.invariant.2 in (
      tt,
      tt,
      rounds_so_far g.L.CoreName.config (length c.args.workers.items + 2) c.add.new.self rounds,
      omega (arith, c.in_ok-made.ensures.workers, workers),
    )
