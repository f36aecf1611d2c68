-- Step by step, and frame by frame.
use Rattle.world_laws.proofs.Delivering.{carried_true}
use Rattle.world_laws.proofs.Moving.{moves_kept}
use Rattle.world_laws.proofs.Opening.{world_opened}
use Rattle.world_laws.proofs.Stepping.{kept_by_step}
use Rattle.world_laws.proofs.labels.closed_worlds_stay_true.Goals as goal

pub returns-clause-opening : goal.returns-clause-opening
returns-clause-opening c = world_opened

pub returns-clause-delivery : goal.returns-clause-delivery
returns-clause-delivery c = carried_true

pub returns-clause-step : goal.returns-clause-step
returns-clause-step c = kept_by_step

pub returns-clause-moves : goal.returns-clause-moves
returns-clause-moves c w moves told steps after closed so moved = (moves_kept w moves told steps after (record { closed = closed; so = so }) moved).so
