-- Rounds of a run, one after the other, are one run.
use Rattle.std.proofs.Common.{◌≡◌, ◌+◌, ◌-◌, ◌<◌, ◌++◌, ◌∷◌, ℕ, List, [], All, Some, length, slice_get, take, ⊎_elim, arith, refl, sym, ap, subst, ◌∙◌}
use Rattle.std.proofs.lemmas.List.{append_assoc, length-append, take_all, take_more}
use Rattle.std.proofs.lemmas.List.Elements.{All-append}
use Rattle.std.proofs.lemmas.Option.{get_or_from_slice_get, slice_get_within}
use Rattle.lsr_config.specs.Configs.{Setup}
use Rattle.lsr_facts.specs.declared.router.Router.{Router}
use Rattle.abstract_router.specs.States.{State}
use Rattle.run_journal.specs.Journals.{IsSegment, Stretch}
use Rattle.run_journal.specs.Marks.{Counts, counted, counted_all}
use Rattle.run_journal.specs.declared.entry.CountedEntry.{CountedEntry}
use Rattle.run_journal.specs.declared.receipt.Receipt.{Receipt}
use Rattle.run_reconciler.specs.Judged.{BeginsWith, IsPort, IsStray, ServesRun}
use Rattle.run_reconciler.specs.Reconciled.{AreContinued, AreJoined, called_for, counts_at, entries_in}
use Rattle.run_reconciler.specs.Rounds.{AgreeByPort, GoOnFrom, IsBreak, IsFirstOdd, IsLastOf, IsNextRound, IsNoRound, IsNoSegment, IsOddRound, IsRunSoFar, counts_after}
use Rattle.run_reconciler.specs.Walks.{called_in, mine}
use Rattle.run_reconciler.specs.declared.reconciling.Mismatch.{Mismatch}
use Rattle.run_reconciler.proofs.Calling.{called_in_append, continued_called, differs, joined_called, mine_append}
use Rattle.run_reconciler.proofs.Joining.{break_apart}
use Rattle.run_reconciler.proofs.OwnPorts.{stray_apart}
use Rattle.run_reconciler.proofs.Whole.{joined_run}

-- stretches that go on, and others that go on from the last of them
continued_append : (r : Router) (s : State) (n : Counts) (earlier more : List Stretch) (last : Stretch) → AreContinued r s n (earlier ++ last ∷ []) → GoOnFrom last more → AreContinued r s n (earlier ++ last ∷ [] ++ more)
continued_append r s n [] more last are goes =
    let router : AreContinued r last.end (counts_after last) more = subst (λ (q : Router). AreContinued q last.end (counts_after last) more) are.0 goes in
    (are.0, are.1, are.2, subst (λ (m : Counts). AreContinued r last.end (counted_all m last.entries) more) are.2 router)
continued_append r s n (piece ∷ earlier) more last are goes =
    (are.0, are.1, are.2, continued_append r piece.end (counted_all n piece.entries) earlier more last are.3 goes)

-- a whole journal, and stretches that go on from its last one
joined_append : (earlier more : List Stretch) (last : Stretch) → AreJoined (earlier ++ last ∷ []) → GoOnFrom last more → AreJoined (earlier ++ last ∷ [] ++ more)
joined_append [] more last are goes = (are.0, goes)
joined_append (piece ∷ earlier) more last are goes = (are.0, continued_append piece.router piece.end (counts_after piece) earlier more last are.1 goes)

pub joined_rounds : (pieces more : List Stretch) (last : Stretch) → IsLastOf pieces last → AreJoined pieces → GoOnFrom last more → AreJoined (pieces ++ more)
joined_rounds pieces more last ends are goes =
    subst (λ (ps : List Stretch). AreJoined (ps ++ more)) (sym ends.1) (joined_append ends.0 more last (subst AreJoined ends.1 are) goes)

-- the entries of stretches are those of some, and then of the others
pub entries_append : (pieces more : List Stretch) → entries_in (pieces ++ more) ≡ entries_in pieces ++ entries_in more
entries_append [] more = refl
entries_append (piece ∷ pieces) more =
    ap (λ (es : List CountedEntry). piece.entries ++ es) (entries_append pieces more) ∙ sym (append_assoc piece.entries (entries_in pieces) (entries_in more))

-- and so many
pub entries_add : (pieces more : List Stretch) → length (entries_in (pieces ++ more)) ≡ length (entries_in pieces) + length (entries_in more)
entries_add pieces more = ap length (entries_append pieces more) ∙ length-append (entries_in pieces) (entries_in more)

-- the last of some is the last of others and them
pub last_append : (pieces more : List Stretch) (last : Stretch) → IsLastOf more last → IsLastOf (pieces ++ more) last
last_append pieces more last ends =
    (pieces ++ ends.0, ap (λ (ps : List Stretch). pieces ++ ps) ends.1 ∙ sym (append_assoc pieces ends.0 (last ∷ [])))

-- what is got at the last place is the last
pub last_got : (pieces : List Stretch) (last : Stretch) → slice_get pieces (length pieces - 1) ≡ Some last → IsLastOf pieces last
last_got pieces last got =
    let i = length pieces - 1 in
    let low : i < length pieces = slice_get_within pieces i last got in
    (take i pieces, sym (take_all (i + 1) pieces (omega (arith, low))) ∙ take_more pieces i last low ∙ ap (λ (x : Stretch). take i pieces ++ x ∷ []) (get_or_from_slice_get pieces i last last got))

-- what begins a journal begins it with others behind, too
begins_append : (config : Setup) (ports : ℕ) (pieces more : List Stretch) → BeginsWith config ports pieces → BeginsWith config ports (pieces ++ more)
begins_append config ports [] more begins = absurd begins
begins_append config ports (piece ∷ pieces) more begins = begins

-- a port's receipts of all rounds so far and of the next one are those that the entries of all call for
told_append : (port : ℕ) (pieces more : List Stretch) (receipts others : List Receipt) (last : Stretch) → AreJoined pieces → GoOnFrom last more → AreJoined (pieces ++ more)
    → mine port receipts ≡ mine port (called_for (counts_at pieces) (entries_in pieces)) → mine port others ≡ mine port (called_for (counts_after last) (entries_in more))
    → mine port (receipts ++ others) ≡ mine port (called_for (counts_at (pieces ++ more)) (entries_in (pieces ++ more)))
told_append port pieces more receipts others last joined goes all told next =
    mine_append port receipts others
    ∙ ap (λ (rs : List Receipt). rs ++ mine port others) (told ∙ ap (mine port) (joined_called pieces joined))
    ∙ ap (λ (rs : List Receipt). mine port (called_in pieces) ++ rs) (next ∙ ap (mine port) (continued_called last.router last.end (counts_after last) more goes))
    ∙ sym (mine_append port (called_in pieces) (called_in more))
    ∙ ap (mine port) (sym (called_in_append pieces more) ∙ sym (joined_called (pieces ++ more) all))

-- reconciled rounds are one reconciled run
pub rounds_serve : (config : Setup) (ports : ℕ) (pieces more : List Stretch) (receipts others : List Receipt) (last : Stretch)
    → ServesRun config ports pieces receipts → All IsSegment pieces → IsLastOf pieces last → IsNextRound last ports more others → All IsSegment more
    → ServesRun config ports (pieces ++ more) (receipts ++ others)
rounds_serve config ports pieces more receipts others last serves segments ends round next =
    let joined : AreJoined (pieces ++ more) = joined_rounds pieces more last ends serves.reconciled.0 round.continued in
    record {
      begins = begins_append config ports pieces more serves.begins;
      run = joined_run (pieces ++ more) (All-append IsSegment pieces more segments next) joined;
      reconciled = (joined, λ port. told_append port pieces more receipts others last serves.reconciled.0 round.continued joined (serves.reconciled.1 port) (round.reconciled port));
      own = All-append (λ (receipt : Receipt). IsPort ports receipt.mark.port) receipts others serves.own round.own;
    }

-- the first round is a run so far
pub first_round : (config : Setup) (ports : ℕ) (pieces : List Stretch) (receipts : List Receipt) (last : Stretch)
    → ServesRun config ports pieces receipts → All IsSegment pieces → IsLastOf pieces last → IsRunSoFar config ports last (length (entries_in pieces))
first_round config ports pieces receipts last serves segments ends =
    record { pieces = pieces; receipts = receipts; serves = serves; segments = segments; ends = ends; number = refl }

-- and goes on with the next
pub next_round : (config : Setup) (ports : ℕ) (before last : Stretch) (count : ℕ) (more : List Stretch) (others : List Receipt)
    → IsRunSoFar config ports before count → IsNextRound before ports more others → All IsSegment more → IsLastOf more last
    → IsRunSoFar config ports last (count + length (entries_in more))
next_round config ports before last count more others run round segments ends =
    record {
      pieces = run.pieces ++ more;
      receipts = run.receipts ++ others;
      serves = rounds_serve config ports run.pieces more run.receipts others before run.serves run.segments run.ends round segments;
      segments = All-append IsSegment run.pieces more run.segments segments;
      ends = last_append run.pieces more last ends;
      number = omega (arith, run.number, entries_add run.pieces more);
    }

-- each entry is counted
counted_number : (n : Counts) (es : List CountedEntry) → (counted_all n es).number ≡ n.number + length es
counted_number n [] = omega arith
counted_number n (e ∷ es) = omega (arith, counted_number (counted n e) es)

-- after the last of stretches that go on all their entries are counted
counts_continued : (r : Router) (s : State) (n : Counts) (earlier : List Stretch) (last : Stretch) → AreContinued r s n (earlier ++ last ∷ [])
    → last.from.number + length last.entries ≡ n.number + length (entries_in (earlier ++ last ∷ []))
counts_continued r s n [] last are = omega (arith, ap (λ (m : Counts). m.number) are.2, length-append last.entries [])
counts_continued r s n (piece ∷ earlier) last are =
    omega (
      arith,
      counts_continued r piece.end (counted_all n piece.entries) earlier last are.3,
      counted_number n piece.entries,
      length-append piece.entries (entries_in (earlier ++ last ∷ [])),
    )

-- after that of a whole journal they are so many
counts_joined : (earlier : List Stretch) (last : Stretch) → AreJoined (earlier ++ last ∷ []) → last.from.number + length last.entries ≡ length (entries_in (earlier ++ last ∷ []))
counts_joined [] last are = omega (arith, ap (λ (m : Counts). m.number) are.0, length-append last.entries [])
counts_joined (piece ∷ earlier) last are =
    omega (
      arith,
      counts_continued piece.router piece.end (counts_after piece) earlier last are.1,
      counted_number piece.from piece.entries,
      ap (λ (m : Counts). m.number) are.0,
      length-append piece.entries (entries_in (earlier ++ last ∷ [])),
    )

-- how many entries a run so far has is what its last stretch says
pub count_is : (config : Setup) (ports : ℕ) (last : Stretch) (count : ℕ) → IsRunSoFar config ports last count → count ≡ last.from.number + length last.entries
count_is config ports last count run =
    run.number ∙ ap (λ (ps : List Stretch). length (entries_in ps)) run.ends.1 ∙ sym (counts_joined run.ends.0 last (subst AreJoined run.ends.1 run.serves.reconciled.0))

-- a round that isn't the next one for a reason isn't it
pub no_round : (last : Stretch) (ports : ℕ) (pieces : List Stretch) (receipts : List Receipt) (m : Mismatch) → IsNoRound last ports pieces receipts m → IsNextRound last ports pieces receipts → ⊥
no_round last ports pieces receipts m why round =
    ⊎_elim
    (λ (none : IsNoSegment pieces m). absurd (omega (arith, round.some, ap length none.0)))
    (⊎_elim
    (λ (gap : IsBreak last pieces m). break_apart last pieces m.segment gap.2 round.continued)
    (⊎_elim
    (λ (odd : IsOddRound last pieces receipts m).
    differs (mine m.port receipts) (mine m.port (called_for (counts_after last) (entries_in pieces))) m.place odd.1.place (round.reconciled m.port))
    (λ (stray : IsStray ports receipts m). stray_apart ports receipts m.port stray.2 round.own)))
    why

-- the first port whose receipts aren't those that the segments' entries call for is the one whose aren't those that the entries of a round do
pub odd_round : (last : Stretch) (pieces : List Stretch) (receipts : List Receipt) (m : Mismatch) → GoOnFrom last pieces → IsFirstOdd receipts (called_in pieces) m → IsOddRound last pieces receipts m
odd_round last pieces receipts m goes odd =
    (goes, subst (λ (called : List Receipt). IsFirstOdd receipts called m) (sym (continued_called last.router last.end (counts_after last) pieces goes)) odd)

pub round_told : (last : Stretch) (pieces : List Stretch) (receipts : List Receipt) → GoOnFrom last pieces → AgreeByPort receipts (called_in pieces) → AgreeByPort receipts (called_for (counts_after last) (entries_in pieces))
round_told last pieces receipts goes those =
    subst (AgreeByPort receipts) (sym (continued_called last.router last.end (counts_after last) pieces goes)) those
