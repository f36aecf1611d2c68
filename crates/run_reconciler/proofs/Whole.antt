-- A whole journal is one run of the router, from its opening.
use Rattle.std.proofs.Common.{◌∷◌, List, [], All, refl, ap, subst}
use Rattle.lsr_facts.specs.declared.router.Router.{Router}
use Rattle.abstract_router.specs.States.{State}
use Rattle.run_journal.specs.Entries.{AreRecorded}
use Rattle.run_journal.specs.Journals.{IsSegment, Stretch}
use Rattle.run_journal.specs.Marks.{Counts, counted_all}
use Rattle.run_journal.proofs.Running.{recorded_append, run_of}
use Rattle.run_reconciler.specs.Reconciled.{AreContinued, AreJoined, AreOneRun, end_in, entries_in}
use Rattle.run_reconciler.proofs.Ports.{All_first, All_rest}

-- segments that go on one from the other record one run
continued_recorded : (r : Router) (s : State) (n : Counts) (pieces : List Stretch) → All IsSegment pieces → AreContinued r s n pieces → AreRecorded r s (entries_in pieces) (end_in s pieces)
continued_recorded r s n [] all are = refl
continued_recorded r s n (piece ∷ more) all are =
    let one : IsSegment piece = All_first IsSegment piece more all in
    let here : AreRecorded r s piece.entries piece.end =
    subst (λ (q : Router). AreRecorded q s piece.entries piece.end) are.0 (subst (λ (t : State). AreRecorded piece.router t piece.entries piece.end) are.1 one.run) in
    recorded_append r piece.entries (entries_in more) s piece.end (end_in piece.end more) here
    (continued_recorded r piece.end (counted_all n piece.entries) more (All_rest IsSegment piece more all) are.3)

pub joined_run : (pieces : List Stretch) → All IsSegment pieces → AreJoined pieces → AreOneRun pieces
joined_run [] all are = tt
joined_run (piece ∷ more) all are =
    let one : IsSegment piece = All_first IsSegment piece more all in
    let recorded = recorded_append piece.router piece.entries (entries_in more) piece.base piece.end (end_in piece.end more) one.run
    (continued_recorded piece.router piece.end (counted_all piece.from piece.entries) more (All_rest IsSegment piece more all) are.1) in
    let run = run_of piece.router (entries_in (piece ∷ more)) piece.base (end_in piece.end more) recorded in
    (one.begun (ap (λ (n : Counts). n.number) are.0), run.0, run.1, run.2)
