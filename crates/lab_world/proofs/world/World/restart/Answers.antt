-- A restart, and a start.
use Rattle.std.specs.Prelude.{◌++◌}
use Rattle.std.proofs.Common.{refl}
use Rattle.lab_world.proofs.world.World.restart.Goals as goal

pub returns : goal.returns
returns c =
    let one = c.happen_silently.ensures.happens in
    let two = c.happen_silently-2.ensures.happens in (
      one.0 ++ two.0,
      record {
        first = c.happen_silently.result;
        stopped = one.0;
        between = c.happen_silently.new.self;
        restart = one.1;
        started = two.0;
        start = two.1;
        steps_are = refl;
      },
    )
