use Rattle.std.proofs.Common.{◌≡◌, ◌≤◌, List, length}
use Rattle.std.specs.Prelude.{IfOk}
use Rattle.rsvp_bodies.specs.declared.step.Step.{Step}
use Rattle.lsr_lines.specs.Commands.{words_left}
use Rattle.lsr_lines.proofs.WordLaws.{AreRead}
use Rattle.lsr_lines.proofs.commands.read_route.Given as goal

-- the words so far are steps, which are kept where there is memory for them
abbrev pub invariant-loop-word : goal.invariant-loop-word
invariant-loop-word l = (read : List Step) × AreRead (words_left l.fn.words) (words_left l.left) read
    × (length read ≡ l.count) × (l.count ≤ 8191) × IfOk l.steps (λ kept. kept.items ≡ read)

abbrev pub decreases-loop-word : goal.decreases-loop-word
decreases-loop-word l = length (words_left l.left)
