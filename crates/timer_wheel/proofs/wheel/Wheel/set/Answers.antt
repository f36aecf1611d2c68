use Rattle.std.proofs.Common.{◌≡◌, ◌+◌, ◌<◌, length, subst, sym, ◌∙◌, arith}
use Rattle.timer_wheel.specs.Wheels.{place_of}
use Rattle.timer_wheel.proofs.Places.{IsLinked, wheel_set, wheel_stays}
use Rattle.timer_wheel.proofs.wheel.Wheel.set.Goals as goal

pub invariant_of-self : goal.invariant_of-self
invariant_of-self c =
    let within = subst (λ moments. c.args.slot < length moments) (sym c.self.view_is) c.requires in
    wheel_stays c.self.inside.moments.items c.self.inside.after.items c.self.inside.before.items c.self.inside.base c.args.slot within c.self.invariant c.index-had.result.now c.args.moment c.index-had.ensures (sym c.stays.ensures ∙ c.if-stays.true)

pub invariant_of-self-2 : goal.invariant_of-self-2
invariant_of-self-2 c =
    let within = subst (λ moments. c.args.slot < length moments) (sym c.self.view_is) c.requires in
    let head : c.len.result + c.place_of.result ≡ length c.self.inside.moments.items + place_of c.self.inside.base c.args.moment = omega (arith, c.self.inside.moments.ok.0) in
    let linked : IsLinked c.unlink.new.after.items c.link.new.after.items c.link.new.before.items c.args.slot (c.len.result + c.place_of.result) = record { rings = c.link.ensures.rings; nodes = c.link.ensures.nodes; first = c.link.ensures.first; others = c.link.ensures.others } in
    wheel_set c.self.inside.moments.items c.self.inside.after.items c.self.inside.before.items c.self.inside.base c.args.slot within c.self.invariant c.unlink.new.after.items c.unlink.new.before.items
    (record { rings = c.unlink.ensures.rings; nodes = c.unlink.ensures.nodes; others = c.unlink.ensures.others })
    c.args.moment c.link.new.after.items c.link.new.before.items
    (subst (IsLinked c.unlink.new.after.items c.link.new.after.items c.link.new.before.items c.args.slot) head linked)
