-- Each word so far is a step, and each of these has eight bytes; one more is too many.
use Rattle.std.proofs.Common.{◌≡◌, ◌≤◌, ◌++◌, ◌∷◌, [], arith, length, length-append, subst, sym}
use Rattle.std.specs.List.{flat_map}
use Rattle.rsvp_bodies.specs.Steps.{step_bytes}
use Rattle.lsr_lines.specs.Commands.{words_left}
use Rattle.lsr_lines.proofs.WordLaws.{bytes_of_steps, read_all, read_more, step_next, too_many}
use Rattle.lsr_lines.proofs.commands.read_route.Goals as goal

pub returns-then-count-eq-MAX_STEPS : goal.returns-then-count-eq-MAX_STEPS
returns-then-count-eq-MAX_STEPS c = λ steps says.
    let sofar = c.loop-word.invariant in
    omega (arith, says.1, sofar.2, c.if-count-eq-MAX_STEPS.true, too_many (words_left c.args.words) (words_left c.loop-word.left) (words_left c.in-Some.rest) sofar.0 steps c.in-Some.word.now c.in-Some.ensures sofar.1 says.0)

pub returns-in_err-read_step : goal.returns-in_err-read_step
returns-in_err-read_step c = rw c.from_residual.ensures (λ steps says.
    let sofar = c.loop-word.invariant in
    let next = step_next (words_left c.args.words) (words_left c.loop-word.left) (words_left c.in-Some.rest) sofar.0 steps c.in-Some.word.now c.in-Some.ensures sofar.1 says.0 in
    c.in_err-read_step.ensures next.0 next.1)

pub loop-word-preserved : goal.loop-word-preserved
loop-word-preserved c =
    let sofar = c.loop-word.invariant in
    let step = c.in_ok-read_step.field-0 in (
      sofar.0 ++ (step ∷ []),
      read_more (words_left c.args.words) (words_left c.loop-word.left) (words_left c.in-Some.rest) sofar.0 c.in-Some.word.now step c.in-Some.ensures sofar.1 c.in_ok-read_step.ensures,
      omega (arith, sofar.2, length-append sofar.0 (step ∷ [])),
      omega (arith, sofar.3, c.if-count-eq-MAX_STEPS.false),
      c.with_step-steps.ensures sofar.0 sofar.4,
    )

pub from_vec-requires : goal.from_vec-requires
from_vec-requires c =
    let sofar = c.loop-word.invariant in
    let all = read_all (words_left c.args.words) (words_left c.loop-word.left) sofar.0 c.in_default.ensures sofar.1 in
    let items : c.in-Ok.steps.items ≡ sofar.0 = rw c.in-Ok.is at sofar.4 in
    subst (λ steps. length (flat_map step_bytes steps) ≤ 65528) (sym items)
    (omega (arith, bytes_of_steps (words_left c.args.words) sofar.0 all, sofar.2, sofar.3))
