use Rattle.std.proofs.Common.{◌≡◌, ℕ, ◌+◌, ◌-◌, ◌/◌, ◌<◌, min, nat_eq, List, Option, length, sym, subst, ap, ◌∙◌, arith}
use Rattle.std.proofs.lemmas.Result.{IfOk-weaker}
use Rattle.std.specs.List.{All, IsDistinct}
use Rattle.timer_wheel.specs.Due.{is_due}
use Rattle.timer_wheel.proofs.Slots.{has}
use Rattle.timer_wheel.proofs.Turning.{due_slots, due_given, due_once, all_within}
use Rattle.timer_wheel.proofs.wheel.Wheel.up_to.Goals as goal

pub returns : goal.returns
returns c =
    let inside = c.self.inside in
    let places : c.min-places.result + 1 ≡ min (c.args.now / 1024 - inside.base) 255 + 1 = omega arith in
    let given = due_given inside.moments.items inside.after.items inside.before.items inside.base c.args.now c.self.invariant c.due_from.result (λ due. due.items) c.deref.result.now c.deref-2.result.now (c.min-places.result + 1) c.deref.ensures.value c.deref-2.ensures.value places c.due_from.ensures in
    let exact = due_slots inside.moments.items inside.after.items inside.before.items inside.base c.args.now c.self.invariant in
    record {
      exact = IfOk-weaker c.due_from.result _ _ (λ due h slot. ap (has slot) h ∙ (exact slot ∙ ap (λ (ms : List (Option ℕ)). is_due c.args.now ms slot) c.self.view_is)) given;
      once = IfOk-weaker c.due_from.result _ _ (λ due h. subst (IsDistinct nat_eq) (sym h) (due_once inside.moments.items inside.after.items inside.before.items inside.base c.args.now c.self.invariant (min (c.args.now / 1024 - inside.base) 255 + 1) (omega arith))) given;
      within = IfOk-weaker c.due_from.result _ _ (λ due h. subst (λ (ms : List (Option ℕ)). All (λ slot. slot < length ms) due.items) c.self.view_is (all_within inside.moments.items inside.after.items inside.before.items inside.base c.args.now c.self.invariant due.items (λ slot. ap (has slot) h ∙ exact slot))) given;
    }
