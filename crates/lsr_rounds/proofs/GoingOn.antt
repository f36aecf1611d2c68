-- A run so far goes on with a round that was judged.
use Rattle.std.proofs.Common.{◌≡◌, ◌+◌, ℕ, All, List, Option, Some, None, length, subst, sym}
use Rattle.std.proofs.lemmas.List.Elements.{All-weaker}
use Rattle.lsr_config.specs.Configs.{Setup}
use Rattle.lsr_serve.specs.Below.workers.Below.journal.Journals.{IsSegment, Stretch}
use Rattle.lsr_serve.specs.Below.workers.Below.core.Names.{IsSegmentOf}
use Rattle.lsr_serve.specs.declared.run.RunReport.{RunReport}
use Rattle.lsr_serve.specs.Below.reconciler.Rounds.{IsLastOf, IsRunSoFar}
use Rattle.lsr_serve.proofs.Below.rounds.{count_is, first_round, next_round}
use Rattle.lsr_rounds.specs.Ended.{GoesOnFrom, IsRunOfRounds, IsRunOfRoundsBy, IsSoFar, IsSoFarBy}
use Rattle.lsr_rounds.specs.declared.so_far.RunSoFar.{RunSoFar}

-- each is a stretch that records a run
pub are_segments : (c : Setup) (pieces : List Stretch) → All (IsSegmentOf c) pieces → All IsSegment pieces
are_segments c pieces all = All-weaker (IsSegmentOf c) IsSegment (λ piece of. of.segment) pieces all

-- with its last stretch, which says how many entries there are
pub goes_on : (c : Setup) (ports : ℕ) (was : Option Stretch) (count : ℕ) (round : RunReport) (last : Stretch) → GoesOnFrom c ports was round
    → All (IsSegmentOf c) round.segments.items → IsLastOf round.segments.items last → IsSoFarBy c ports was count
    → IsRunSoFar c ports last (last.from.number + length last.entries)
goes_on c ports None count round last judged own ends none =
    let run = first_round c ports round.segments.items round.receipts.items last judged (are_segments c round.segments.items own) ends in
    subst (IsRunSoFar c ports last) (count_is c ports last _ run) run
goes_on c ports (Some before) count round last judged own ends so_far =
    let run = next_round c ports before last count round.segments.items round.receipts.items so_far judged (are_segments c round.segments.items own) ends in
    subst (IsRunSoFar c ports last) (count_is c ports last _ run) run

-- a step from a run so far to one with a round more, by another configuration and another number of ports that are the same
pub moved : (c d : Setup) (ports n : ℕ) (before after : RunSoFar) → d ≡ c → n ≡ ports → (IsSoFar d n before → IsRunOfRounds d n after) → IsSoFar c ports before
    → IsRunOfRounds c ports after
moved c d ports n before after is same step so_far =
    let there = subst (λ s. IsSoFar s n before) (sym is) (subst (λ k. IsSoFar c k before) (sym same) so_far) in
    subst (λ k. IsRunOfRounds c k after) same (subst (λ s. IsRunOfRounds s n after) is (step there))

-- rounds are those of a run so far
so_far_by : (c : Setup) (ports : ℕ) (last : Option Stretch) (entries : ℕ) → IsRunOfRoundsBy c ports last entries → IsSoFarBy c ports last entries
so_far_by c ports None entries none = absurd none
so_far_by c ports (Some last) entries run = run

pub rounds_so_far : (c : Setup) (ports : ℕ) (run : RunSoFar) → IsRunOfRounds c ports run → IsSoFar c ports run
rounds_so_far c ports run rounds = so_far_by c ports run.last run.entries rounds

-- as many links as workers
pub told_ports : (c : Setup) (n m : ℕ) (run : RunSoFar) → n ≡ m → IsSoFar c (n + 2) run → IsSoFar c (m + 2) run
told_ports c n m run same so_far = subst (λ k. IsSoFar c (k + 2) run) same so_far
