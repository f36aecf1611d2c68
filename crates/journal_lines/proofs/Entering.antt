-- The text of an entry, piece by piece, and that of an event.
use Rattle.std.proofs.Common.{◌≡◌, ◌==◌, ◌<◌, ◌++◌, [], ◌∷◌, ℕ, List, Bool, true, false, inl, inr, length, ap, refl, sym, subst, ◌∙◌, append_assoc, append-nil, arith, Err}
use Rattle.std.specs.Prelude.{codes, flat_map, if◌then◌else◌}
use Rattle.hex.specs.Hex.{encode_lower}
use Rattle.field_bytes.specs.Spelling.{Answers}
use Rattle.field_bytes.specs.declared.fault.ReadFault.{ReadFault}
use Rattle.field_bytes.specs.declared.fault.ReadFault.TheVariants as faults
use Rattle.lsr_facts.specs.declared.key.Key.{Key}
use Rattle.lsr_facts.specs.declared.router.Router.{Router}
use Rattle.journal_bytes.specs.declared.entry.Entry.{Entry}
use Rattle.journal_bytes.specs.declared.entry.WrittenFrame.{WrittenFrame}
use Rattle.event_fields.specs.EventLaws.{UnreadFits, one_unread}
use Rattle.event_fields.specs.Unread.{unread_bytes}
use Rattle.event_fields.proofs.Fields.{none_left}
use Rattle.event_fields.specs.declared.unread.UnreadEvent.{UnreadEvent}
use Rattle.lsr_text.specs.Answers.{reply_line}
use Rattle.journal_lines.specs.Telling.{tells_event}
use Rattle.journal_lines.specs.Words.{event_words}
use Rattle.journal_lines.specs.Entries.{ShowsEntry, ShowsEvent, SpellsFields, answer_lines, chosen_line, entry_words, event_line, frame_line, no_event_words}

-- where nothing is left after the fields the bytes are theirs
pub whole_by : (bytes rest : List ℕ) (event : UnreadEvent) → bytes ≡ unread_bytes event ++ rest → UnreadFits event → (length rest == 0) ≡ true → SpellsFields bytes event
whole_by bytes rest event e fits none =
    (fits, e ∙ (ap (λ (left : List ℕ). unread_bytes event ++ left) (none_left rest none) ∙ append-nil (unread_bytes event)))

-- where bytes stand after fields, all of them are no fields'
pub none_whole : (bytes rest : List ℕ) (u : UnreadEvent) → UnreadFits u → bytes ≡ unread_bytes u ++ rest → 0 < length rest → (v : UnreadEvent) → SpellsFields bytes v → ⊥
none_whole bytes rest u fits e some v spells =
    let one = one_unread u v rest [] fits spells.0 (sym e ∙ (spells.1 ∙ sym (append-nil (unread_bytes v)))) in
    absurd (omega (arith, some, ap (length {A = ℕ}) one.1))

-- nor where no fields stand at their head
pub none_by : (bytes : List ℕ) (fault : ReadFault) → fault ≡ faults.Format → Answers UnreadFits unread_bytes bytes (Err fault) → (v : UnreadEvent) → SpellsFields bytes v → ⊥
none_by bytes fault is none v spells =
    let h : Answers UnreadFits unread_bytes bytes (Err faults.Format) = subst (λ (f : ReadFault). Answers UnreadFits unread_bytes bytes (Err f)) is none in
    h v [] spells.0 (spells.1 ∙ sym (append-nil (unread_bytes v)))

-- the line of the event that the bytes spell
pub told_event : (r : Router) (bytes old new : List ℕ) (event : UnreadEvent) → SpellsFields bytes event → new ≡ old ++ event_line r bytes event
    → (line : List ℕ) × ShowsEvent r bytes line × (new ≡ old ++ line)
told_event r bytes old new event spells told = (event_line r bytes event, inl (event, spells, refl), told)

-- and that of bytes that spell none
pub told_none : (r : Router) (bytes old new : List ℕ) → ((event : UnreadEvent) → SpellsFields bytes event → ⊥) → new ≡ old ++ no_event_words bytes
    → (line : List ℕ) × ShowsEvent r bytes line × (new ≡ old ++ line)
told_none r bytes old new none told = (no_event_words bytes, inr (none, refl), told)

behind : (a b c d e : List ℕ) → (a ++ (b ++ (c ++ d))) ++ e ≡ a ++ (b ++ (c ++ (d ++ e)))
behind a b c d e = simp append_assoc

-- the words of an event that no line tells stand behind its bytes
pub nearly : (r : Router) (bytes digits old written new : List ℕ) (event : UnreadEvent) (tells : Bool) → tells ≡ tells_event r event → tells ≡ false
    → digits ≡ encode_lower bytes → written ≡ old ++ (codes "# in bytes " ++ (digits ++ codes ", nearly ")) → new ≡ written ++ event_words r event → new ≡ old ++ event_line r bytes event
nearly r bytes digits old written new event tells is untold same head words =
    let remark = codes "# in bytes " ++ (encode_lower bytes ++ (codes ", nearly " ++ event_words r event)) in
    let line : event_line r bytes event ≡ remark = ap (λ (b : Bool). if b then event_words r event else remark) (sym is ∙ untold) in
    let headed = head ∙ ap (λ (d : List ℕ). old ++ (codes "# in bytes " ++ (d ++ codes ", nearly "))) same in
    words ∙ (ap (λ (t : List ℕ). t ++ event_words r event) headed
    ∙ (behind old (codes "# in bytes ") (encode_lower bytes) (codes ", nearly ") (event_words r event) ∙ ap (λ (t : List ℕ). old ++ t) (sym line)))

grouped : (a b c d : List ℕ) → ((a ++ b) ++ c) ++ d ≡ a ++ (b ++ (c ++ d))
grouped a b c d = simp append_assoc

regroup : (a b c d e : List ℕ) → (((a ++ b) ++ c) ++ d) ++ e ≡ a ++ (b ++ (c ++ (d ++ e)))
regroup a b c d e = simp append_assoc

-- the reply, the frames and the labels behind a line's end are the answer
pub answered : (entry : Entry) (ended replied framed all : List ℕ) (outputs : List WrittenFrame) (chosen : List (Key × ℕ)) → replied ≡ ended ++ reply_line entry.reply
    → outputs ≡ entry.outputs → framed ≡ replied ++ flat_map frame_line outputs → chosen ≡ entry.chosen → all ≡ framed ++ flat_map chosen_line chosen
    → all ≡ ended ++ answer_lines entry
answered entry ended replied framed all outputs chosen reply same_outputs frames same_chosen labels =
    let sent : framed ≡ (ended ++ reply_line entry.reply) ++ flat_map frame_line entry.outputs =
    frames ∙ (ap (λ (t : List ℕ). t ++ flat_map frame_line outputs) reply ∙ ap (λ (o : List WrittenFrame). (ended ++ reply_line entry.reply) ++ flat_map frame_line o) same_outputs) in
    let whole : all ≡ ((ended ++ reply_line entry.reply) ++ flat_map frame_line entry.outputs) ++ flat_map chosen_line entry.chosen =
    labels ∙ (ap (λ (t : List ℕ). t ++ flat_map chosen_line chosen) sent
    ∙ ap (λ (c : List (Key × ℕ)). ((ended ++ reply_line entry.reply) ++ flat_map frame_line entry.outputs) ++ flat_map chosen_line c) same_chosen) in
    whole ∙ grouped ended (reply_line entry.reply) (flat_map frame_line entry.outputs) (flat_map chosen_line entry.chosen)

-- what stands before the line, the line, its end and the answer show the entry
pub entry_shown : (r : Router) (number : ℕ) (entry : Entry) (bytes old headed lined ended all : List ℕ) → bytes ≡ entry.event → headed ≡ old ++ entry_words number entry.port
    → (line : List ℕ) × ShowsEvent r bytes line × (lined ≡ headed ++ line) → ended ≡ lined ++ codes "\n" → all ≡ ended ++ answer_lines entry
    → (shown : List ℕ) × ShowsEntry r number entry shown × (all ≡ old ++ shown)
entry_shown r number entry bytes old headed lined ended all same head event end answer =
    let line = event.0 in
    let shows : ShowsEvent r entry.event line = subst (λ (b : List ℕ). ShowsEvent r b line) same event.1 in
    let grown = answer ∙ ap (λ (t : List ℕ). t ++ answer_lines entry) (end ∙ ap (λ (t : List ℕ). t ++ codes "\n") (event.2 ∙ ap (λ (t : List ℕ). t ++ line) head)) in (
      entry_words number entry.port ++ (line ++ (codes "\n" ++ answer_lines entry)),
      (line, shows, refl),
      grown ∙ regroup old (entry_words number entry.port) line (codes "\n") (answer_lines entry),
    )
