-- Entries that record a run, one more, and the steps that they record.
use Rattle.std.proofs.Common.{◌++◌, ◌∷◌, List, [], refl, subst}
use Rattle.lsr_facts.specs.declared.router.Router.{Router}
use Rattle.abstract_paths.specs.declared.events.Made.{Made}
use Rattle.abstract_router.specs.States.{State}
use Rattle.abstract_router.specs.Steps.{Run}
use Rattle.run_journal.specs.Entries.{AreEntriesOf, AreRecorded, Recorded}
use Rattle.run_journal.specs.declared.entry.CountedEntry.{CountedEntry}

-- one more step is recorded after the others
pub recorded_push : (r : Router) (es : List CountedEntry) (before between after : State) (e : CountedEntry) → AreRecorded r before es between → Recorded r between e after → AreRecorded r before (es ++ e ∷ []) after
recorded_push r [] before between after e is one = (after, subst (λ (s : State). Recorded r s e after) is one, refl)
recorded_push r (first ∷ es) before between after e is one = (is.0, is.1, recorded_push r es is.0 between after e is.2 one)

-- steps are recorded, and then others
pub recorded_append : (r : Router) (es more : List CountedEntry) (before between after : State) → AreRecorded r before es between → AreRecorded r between more after → AreRecorded r before (es ++ more) after
recorded_append r [] more before between after is others = subst (λ (s : State). AreRecorded r s more after) is others
recorded_append r (e ∷ es) more before between after is others = (is.0, is.1, recorded_append r es more is.0 between after is.2 others)

-- what entries record is a run of the abstract router
pub run_of : (r : Router) (es : List CountedEntry) (before after : State) → AreRecorded r before es after → (made : List Made) × AreEntriesOf made es × Run r before made after
run_of r [] before after is = ([], tt, is)
run_of r (e ∷ es) before after is =
    let rest = run_of r es is.0 after is.2 in
    (is.1.made ∷ rest.0, (is.1.entry, rest.1), (is.0, is.1.step, rest.2))
