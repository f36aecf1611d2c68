-- The lines of an entry are those of the step that it records.
use Rattle.std.proofs.Common.{◌≡◌, ◌-◌, ℕ, List, [], ◌∷◌, ◌++◌, Ok, Some, length, arith, refl, sym, ap, ap₂, subst, ◌∙◌}
use Rattle.std.proofs.lemmas.List.{length-append}
use Rattle.std.specs.Prelude.{flat_map, map, slice_get}
use Rattle.abstract_paths.specs.declared.events.Event.{Event}
use Rattle.abstract_paths.specs.declared.events.Made.{Made}
use Rattle.abstract_paths.specs.declared.events.Output.{Output}
use Rattle.journal_bytes.specs.Entries.{written_frame}
use Rattle.journal_bytes.specs.declared.entry.Entry.{Entry}
use Rattle.lsr_text.specs.Answers.{answer_text, output_line, reply_line}
use Rattle.run_journal.specs.Journals.{IsApplied, Journal}
use Rattle.run_journal.specs.declared.entry.CountedEntry.{CountedEntry}
use Rattle.run_journal.specs.declared.receipt.Receipt.{Receipt}
use Rattle.lsr_journal.specs.Entries.{IsLast, TellsOf, entry_text, frame_line}

-- one stands where it was put
put_at : (entries : List CountedEntry) (entry : CountedEntry) → slice_get (entries ++ entry ∷ []) (length entries) ≡ Some entry
put_at [] entry = refl
put_at (e ∷ entries) entry = put_at entries entry

-- the last of entries to which one was put is that one
last_put : (entries : List CountedEntry) (entry : CountedEntry) → IsLast (entries ++ entry ∷ []) entry
last_put entries entry =
    let last : length (entries ++ entry ∷ []) - 1 ≡ length entries = omega (arith, length-append entries (entry ∷ [])) in
    subst (λ (i : ℕ). slice_get (entries ++ entry ∷ []) i ≡ Some entry) (sym last) (put_at entries entry)

-- the last entry after an event was applied records its step
pub tells : (old new : Journal) (port : ℕ) (event : Event) (receipt : Receipt) (a : IsApplied old port event receipt new) (last : CountedEntry) → IsLast new.entries last → TellsOf a.entered.recorded.made last.entry
tells old new port event receipt a last is =
    let same : a.entry ≡ last = cc (last_put old.entries a.entry, ap (λ (es : List CountedEntry). slice_get es (length es - 1)) a.entered.entries, is) in
    subst (λ (e : CountedEntry). TellsOf a.entered.recorded.made e.entry) same (record { replied = a.entered.recorded.entry.replied; sent = a.entered.recorded.entry.sent })

-- the line of a frame's bytes is the frame's
frame_lines : (outputs : List Output) → flat_map frame_line (map written_frame outputs) ≡ flat_map output_line outputs
frame_lines [] = refl
frame_lines (o ∷ outputs) = ap (λ (l : List ℕ). output_line o ++ l) (frame_lines outputs)

-- so the lines are the same
pub same_lines : (made : Made) (entry : Entry) → TellsOf made entry → entry_text entry ≡ answer_text (Ok made)
same_lines made entry t =
    ap₂ (λ (a b : List ℕ). a ++ b) (ap reply_line t.replied) (ap (λ frames. flat_map frame_line frames) t.sent ∙ frame_lines made.outputs)
