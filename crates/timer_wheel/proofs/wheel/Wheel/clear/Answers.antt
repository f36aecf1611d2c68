use Rattle.std.proofs.Common.{◌<◌, length, subst, sym}
use Rattle.timer_wheel.proofs.Places.{wheel_cleared}
use Rattle.timer_wheel.proofs.wheel.Wheel.clear.Goals as goal

pub invariant_of-self : goal.invariant_of-self
invariant_of-self c =
    let within = subst (λ moments. c.args.slot < length moments) (sym c.self.view_is) c.requires in
    wheel_cleared c.self.inside.moments.items c.self.inside.after.items c.self.inside.before.items c.self.inside.base c.args.slot within c.self.invariant c.unlink.new.after.items c.unlink.new.before.items
    (record { rings = c.unlink.ensures.rings; nodes = c.unlink.ensures.nodes; others = c.unlink.ensures.others })
