-- What holds of a journal at any moment holds as it is opened, after an entry more, and after its entries are taken away.
use Rattle.std.proofs.Common.{◌≡◌, ◌+◌, ◌-◌, ◌<◌, ◌≤◌, ◌^◌, ◌++◌, ◌∷◌, ℕ, suc, zero, List, [], All, length, arith, refl, rules, sym, ap, subst, ◌∙◌}
use Rattle.std.proofs.lemmas.List.{length-append}
use Rattle.std.proofs.lemmas.List.Elements.{All-push}
use Rattle.lsr_facts.specs.Routers.{IsRouter}
use Rattle.lsr_facts.specs.declared.router.Router.{Router}
use Rattle.abstract_router.specs.Soundness.{IsSound}
use Rattle.abstract_router.specs.States.{State}
use Rattle.run_journal.specs.Entries.{AreRecorded, Recorded}
use Rattle.lookup_plane.specs.declared.change.TableChange.{TableChange}
use Rattle.run_journal.specs.Journals.{IsKept, IsOpening, IsSegment, IsShownMore, Journal, LeadToTable, rotated, stretch_of}
use Rattle.run_journal.specs.Marks.{Counts, IsWithin, counted, counted_all, first_counts, first_mark, first_marks, one_if}
use Rattle.run_journal.specs.declared.entry.CountedEntry.{CountedEntry}
use Rattle.run_journal.specs.declared.mark.Mark.{Mark}
use Rattle.run_journal.proofs.Announcing.{lead_opening}
use Rattle.run_journal.proofs.Marking.{counted_push, one_if-le, within_counted}
use Rattle.run_journal.proofs.Running.{recorded_push}
use Rattle.run_journal.proofs.Showing.{shown_append, shown_push}

-- each entry adds one to their number
counted-number : (n : Counts) (es : List CountedEntry) → (counted_all n es).number ≡ n.number + length es
counted-number n [] = omega arith
counted-number n (e ∷ es) = let more = counted-number (counted n e) es in omega (arith, more)

-- the marks of ports that had no entry are within any numbers
first_within : (n : Counts) (ports : ℕ) → All (IsWithin n) (first_marks ports)
first_within n zero = search rules
first_within n (suc ports) =
    All-push (IsWithin n) (first_marks ports) (first_mark (suc ports)) (first_within n ports)
    (record { place = omega arith; entry = omega arith; published = omega arith })

-- as it is opened
pub kept_opened : (r : Router) (s : State) (ports table : ℕ) → IsRouter r → IsSound r s → IsOpening r s
    → IsKept (record { router = r; opening = s; base = s; from = first_counts ports; entries = []; state = s; counts = first_counts ports; shown = []; table = table })
kept_opened r s ports table is_router sound begun = record {
  is_router = is_router;
  opened = begun;
  begun = λ none. refl;
  history = ([], [], (refl, refl), (refl, refl));
  run = refl;
  sound_base = sound;
  sound = sound;
  counts = refl;
  few = omega arith;
  low = omega arith;
  published = omega arith;
  within = first_within (first_counts ports) ports;
  shown = refl;
  table = lead_opening r s begun;
}

-- after an entry more
pub kept_push : (j : Journal) (e : CountedEntry) (after : State) (shown : List TableChange) (table : ℕ) → IsKept j → length j.entries < 4096 → j.counts.number < 2 ^ 62 → e.entry.port - 1 < length j.counts.marks → Recorded j.router j.state e after → IsSound j.router after
    → length shown ≡ j.counts.published + one_if e.changes_table → LeadToTable j.router after shown → IsShownMore e.changes_table j.shown shown
    → IsKept (record j { entries = j.entries ++ e ∷ []; state = after; counts = counted j.counts e; shown = shown; table = table })
kept_push j e after shown table is room low port recorded sound many lead more = record {
  is_router = is.is_router;
  opened = is.opened;
  begun = is.begun;
  history = (is.history.0, is.history.1, is.history.2, shown_push j.router j.entries j.base j.state after is.history.1 j.shown shown e is.history.3 recorded more lead);
  run = recorded_push j.router j.entries j.base j.state after e is.run recorded;
  sound_base = is.sound_base;
  sound = sound;
  counts = ap (λ (n : Counts). counted n e) is.counts ∙ sym (counted_push j.from j.entries e);
  few = omega (arith, room, length-append j.entries (e ∷ []));
  low = omega (arith, low);
  published = omega (arith, is.published, one_if-le e.changes_table);
  within = within_counted j.counts e is.published port is.within;
  shown = many;
  table = lead;
}

-- where there is no entry yet, the router is as it was opened
begun_now : (r : Router) (opening base state : State) (from counts : Counts) (es : List CountedEntry) → (from.number ≡ 0 → base ≡ opening) → AreRecorded r base es state → counts ≡ counted_all from es → counts.number ≡ 0 → state ≡ opening
begun_now r opening base state from counts [] begun run is none = run ∙ begun (ap (λ (n : Counts). n.number) (sym is) ∙ none)
begun_now r opening base state from counts (e ∷ es) begun run is none =
    absurd (omega (arith, none, ap (λ (n : Counts). n.number) is, counted-number (counted from e) es))

-- after its entries are taken away
pub kept_rotated : (j : Journal) → IsKept j → IsKept (rotated j)
kept_rotated j is = record {
  is_router = is.is_router;
  opened = is.opened;
  history = (is.history.0 ++ j.entries, j.shown, shown_append j.router is.history.0 j.entries j.opening j.base j.state [] is.history.1 j.shown is.history.2 is.history.3, (refl, refl));
  begun = begun_now j.router j.opening j.base j.state j.from j.counts j.entries is.begun is.run is.counts;
  run = refl;
  sound_base = is.sound;
  sound = is.sound;
  counts = refl;
  few = omega arith;
  low = is.low;
  published = is.published;
  within = is.within;
  shown = is.shown;
  table = is.table;
}

-- they are a segment
pub kept_segment : (j : Journal) → IsKept j → IsSegment (stretch_of j)
kept_segment j is = record { begun = λ none. subst (IsOpening j.router) (sym (is.begun none)) is.opened; run = is.run; sound_base = is.sound_base; sound_end = is.sound }
