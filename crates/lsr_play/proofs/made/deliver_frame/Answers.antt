-- There is no such frame, or no wire joins its link: nothing is printed.
use Rattle.std.proofs.Common.{[], ◌∷◌, inr, refl, sym, subst, append-nil}
use Rattle.abstract_world.specs.declared.moves.Move.TheVariants as moves
use Rattle.lsr_play.specs.Making.{AreAnswered}
use Rattle.lsr_play.proofs.PlayLaws.{answered_by}
use Rattle.lsr_play.proofs.made.deliver_frame.Goals as goal

pub returns-then-is_undelivered : goal.returns-then-is_undelivered
returns-then-is_undelivered c =
    let one = moves.Deliver c.args.number ∷ [] in
    let runs = c.run-moved.ensures.runs in
    let answered = answered_by c.args.world.now one c.run-moved.result c.run-moved.new.self runs.0 runs.1 runs.2 in
    let told = subst (λ told. AreAnswered c.args.world.now one told c.run-moved.new.self) (c.is_undelivered.ensures.0 c.if-is_undelivered.true) answered in
    ([], sym (append-nil c.args.block.now.items), inr (refl, told))
