use Rattle.std.proofs.Common.{◌≡◌, ◌≤◌, length, take}
use Rattle.std.specs.List.{flat_map}
use Rattle.rsvp_bodies.specs.Steps.{step_bytes as spelled}
use Rattle.journal_bytes.specs.Events.{step_bytes}
use Rattle.journal_bytes.proofs.routes.put_route.Given as goal

-- the steps so far are counted and written, and each takes room in the route
abbrev pub invariant-loop-step : goal.invariant-loop-step
invariant-loop-step l =
    record {
      counted : l.count ≡ l.step-index;
      few : l.step-index ≤ length (flat_map spelled (take l.step-index l.step-items));
      written : l.bytes.items ≡ flat_map step_bytes (take l.step-index l.step-items);
    }
