use Rattle.std.proofs.Common.{◌≡◌, ◌+◌, ◌-◌, ◌/◌, ◌^◌, ◌≤◌, min, arith}
use Rattle.timer_wheel.proofs.Turning.{wheel_turned}
use Rattle.timer_wheel.proofs.wheel.Wheel.advance.Goals as goal
use Rattle.timer_wheel.proofs.wheel.Wheel.advance.Goals.{then-idle-eq-PLACES, else-idle-eq-PLACES}

pub invariant_of-self : goal.invariant_of-self
invariant_of-self c =
    let inside = c.self.inside in
    let turned = c.if-idle-eq-PLACES.turned in
    let idle = c.idle_from-idle.result in
    let told = rw (c.deref.ensures.value, c.deref-2.ensures.value) at c.idle_from-idle.ensures in
    let ahead : c.saturating_sub-ahead.result ≡ c.args.now / 1024 - inside.base = omega arith in
    let fewer : idle ≤ c.min.result = told.few in
    let few : turned ≤ c.args.now / 1024 - inside.base = elim c.if-idle-eq-PLACES.branch [ then-idle-eq-PLACES w ↦ omega arith | else-idle-eq-PLACES w ↦ omega arith ] in
    let full : min turned 256 ≤ idle = elim c.if-idle-eq-PLACES.branch [ then-idle-eq-PLACES w ↦ omega arith | else-idle-eq-PLACES w ↦ omega arith ] in
    let early : inside.base + turned ≤ 2 ^ 54 = omega (arith, c.self.invariant.early) in
    wheel_turned inside.moments.items inside.after.items inside.before.items inside.base c.args.now c.self.invariant turned idle few full (omega arith) (told.idle c.self.invariant.slots_of c.self.invariant.places) early
