use Rattle.std.proofs.Common.{◌≡◌, ℕ, ◌+◌, ◌%◌, ◌++◌, filter, ap, ◌∙◌, add-one, arith}
use Rattle.timer_wheel.specs.Due.{is_due}
use Rattle.timer_wheel.specs.Wheels.{from_tick}
use Rattle.timer_wheel.proofs.walks.due_from.Goals as goal

pub loop-offset-preserved : goal.loop-offset-preserved
loop-offset-preserved c = λ slots_of places.
    let place = (c.args.base + c.loop-offset.offset) % 256 in
    let due = λ (place : ℕ). filter (is_due c.args.now c.args.moments.now) (slots_of place) in
    rw add-one (c.in_ok-push_due.ensures (slots_of place) (places place (omega arith)) ∙ ap (λ xs. xs ++ due place) (c.loop-offset.invariant slots_of places))

pub returns : goal.returns
returns c = λ slots_of places.
    let all : c.loop-offset.offset ≡ c.args.places = omega arith in
    c.loop-offset.invariant slots_of places ∙ ap (from_tick c.args.base (λ place. filter (is_due c.args.now c.args.moments.now) (slots_of place))) all
