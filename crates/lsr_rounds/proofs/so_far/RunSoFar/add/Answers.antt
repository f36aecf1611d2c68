-- The run goes on with the round, whose last stretch says how many entries there are.
use Rattle.std.proofs.Common.{◌≡◌, ◌++◌, ◌∷◌, [], length, rules, subst, sym}
use Rattle.lsr_serve.specs.Below.reconciler.Rounds.{IsRunSoFar}
use Rattle.lsr_rounds.proofs.GoingOn.{goes_on}
use Rattle.lsr_rounds.proofs.so_far.RunSoFar.add.Goals as goal

pub returns : goal.returns
returns c =
    let popped : c.args.round.segments.items ≡ c.pop.new.self.items ++ c.in-Some.last ∷ [] = search rules in
    λ so_far.
    let run = goes_on c.args.config.now (length c.args.round.ports.items) c.args.self.now.last c.args.self.now.entries c.args.round c.in-Some.last c.in_ok-judge.ensures c.requires.segments
    (c.pop.new.self.items, popped) so_far in
    subst (IsRunSoFar c.args.config.now (length c.args.round.ports.items) c.in-Some.last) (sym c.in-Some-entries_with.ensures) run
