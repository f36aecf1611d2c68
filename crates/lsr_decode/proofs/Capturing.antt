-- Lines of a capture that were answered.
use Rattle.std.proofs.Common.{◌≡◌, ◌≤◌, ◌+◌, ◌||◌, ◌^◌, inl, inr, ℕ, List, [], ◌∷◌, ◌++◌, Bool, true, false, refl, ap, subst, ◌∙◌, arith, length, Option, Ok, Err}
use Rattle.std.specs.Io.KnownBytes.{Appends}
use Rattle.std.proofs.KnownBytes.{Appends-nil, Appends-trans}
use Rattle.line_streams.specs.Streams.{Finds, Reads, StopsFor}
use Rattle.line_streams.specs.Texts.{Stream}
use Rattle.line_streams.specs.declared.input.InputFault.{InputFault}
use Rattle.line_streams.specs.declared.input.InputFault.TheVariants as faults
use Rattle.line_streams.specs.declared.reader.Found.{Found}
use Rattle.line_streams.specs.declared.reader.Found.TheVariants as founds
use Rattle.line_streams.proofs.Reading.{reads_all, reads_last, reads_line, reads_none, reads_short}
use Rattle.lsr_decode.specs.Decoding.{Decodes}
use Rattle.lsr_decode.specs.declared.decoding.Decoded.{Decoded}
use Rattle.lsr_decode.specs.declared.capture.Ending.TheVariants as endings
use Rattle.lsr_decode.specs.Captures.{Answered, DecodesLines, StopsAt, answer_text, ending_of, is_refused}

-- Lines were read, and each was answered.
pub record IsCaptured (fields : Bool) (first now : Stream) (before after : Option (List ℕ)) (left : List ℕ) (count : ℕ) (refused : Bool) : Type 0 where
  pub lines : List (List ℕ)
  pub printed : List ℕ
  pub reads : Reads first now lines left
  pub few : length left ≤ 65536
  pub told : Appends before after printed
  pub answered : Answered fields lines printed refused
  pub counted : count ≡ length lines

pub captured_none : {fields : Bool} (first : Stream) (now : Option (List ℕ)) (left : List ℕ) → left ≡ [] → length left ≤ 65536 → IsCaptured fields first first now now left 0 false
captured_none first now left e few =
    record { lines = []; printed = []; reads = reads_none first left e; few = few; told = Appends-nil now; answered = (refl, refl); counted = refl }

-- what a line was answered, and whether that is a refusal
abbrev pub Answers : Bool → ℕ → List ℕ → Option (List ℕ) → Option (List ℕ) → Bool → Type 0
Answers fields number line old new bad = (decoded : Decoded) × Decodes fields line decoded × Appends old new (answer_text number decoded) × (bad ≡ is_refused decoded)

answered_more : {fields : Bool} (lines : List (List ℕ)) (printed line : List ℕ) (old new : Option (List ℕ)) (count number : ℕ) (refused bad : Bool) → Answered fields lines printed refused → count ≡ length lines → number ≡ count + 1
    → (a : Answers fields number line old new bad) → Answered fields (line ∷ lines) (printed ++ answer_text number a.0) (refused || bad)
answered_more lines printed line old new count number refused bad before counted n (decoded, decodes, told, is) =
    (printed, refused, decoded, before, decodes, ap (λ m. printed ++ answer_text m decoded) (n ∙ ap (λ m. m + 1) counted), ap (λ b. refused || b) is)

-- one line more was answered
pub captured_line : {fields : Bool} (first mid now : Stream) (before old new : Option (List ℕ)) (held line seen left : List ℕ) (count number : ℕ) (refused bad : Bool) (found : Found) → IsCaptured fields first mid before old held count refused
    → (now.may_break ≡ true → mid.may_break ≡ true) → Finds mid now held line left (Ok found) → (found ≡ founds.End → ⊥) → (found ≡ founds.LastLine → ⊥) → number ≡ count + 1 → seen ≡ line → Answers fields number seen old new bad
    → IsCaptured fields first now before new left number (refused || bad)
captured_line first mid now before old new held line seen left count number refused bad founds.End c breaks finds some more n same a = absurd (some refl)
captured_line first mid now before old new held line seen left count number refused bad founds.LastLine c breaks finds some more n same a = absurd (more refl)
captured_line {fields = fields} first mid now before old new held line seen left count number refused bad founds.Line c breaks finds some more n same a =
    record {
      lines = line ∷ c.lines;
      printed = c.printed ++ answer_text number a.0;
      reads = reads_line first mid now c.lines held line left c.reads breaks finds;
      few = finds.5;
      told = Appends-trans _ _ _ _ _ c.told a.2;
      answered = subst (λ l. Answered fields (l ∷ c.lines) (c.printed ++ answer_text number a.0) (refused || bad)) same (answered_more c.lines c.printed seen old new count number refused bad c.answered c.counted n a);
      counted = omega (arith, n, c.counted);
    }

-- and the last one
pub captured_last : {fields : Bool} (first mid now : Stream) (before old new : Option (List ℕ)) (held line seen left : List ℕ) (count number : ℕ) (refused bad : Bool) (found : Found) → IsCaptured fields first mid before old held count refused
    → Finds mid now held line left (Ok found) → found ≡ founds.LastLine → number ≡ count + 1 → seen ≡ line → Answers fields number seen old new bad
    → (printed : List ℕ) × Appends before new printed × DecodesLines fields first now printed (endings.Done (refused || bad))
captured_last {fields = fields} first mid now before old new held line seen left count number refused bad found c finds last n same a = (
  c.printed ++ answer_text number a.0,
  Appends-trans _ _ _ _ _ c.told a.2,
  (
    line ∷ c.lines,
    reads_last first mid now c.lines held line left c.reads (subst (λ f. Finds mid now held line left (Ok f)) last finds),
    subst (λ l. Answered fields (l ∷ c.lines) (c.printed ++ answer_text number a.0) (refused || bad)) same (answered_more c.lines c.printed seen old new count number refused bad c.answered c.counted n a),
  ),
)

-- where no line is left all were answered
pub captured_all : {fields : Bool} (first mid now : Stream) (before old : Option (List ℕ)) (held line left : List ℕ) (count : ℕ) (refused : Bool) (found : Found) → IsCaptured fields first mid before old held count refused
    → Finds mid now held line left (Ok found) → found ≡ founds.End → (printed : List ℕ) × Appends before old printed × DecodesLines fields first now printed (endings.Done refused)
captured_all first mid now before old held line left count refused found c finds none =
    (c.printed, c.told, (c.lines, reads_all first mid now c.lines held line left c.reads (subst (λ f. Finds mid now held line left (Ok f)) none finds), c.answered))

stopped : {fields : Bool} (fault : InputFault) (first now : Stream) (printed left : List ℕ) → StopsFor first.may_break left fault → StopsAt fault fields first now printed → DecodesLines fields first now printed (ending_of fault)
stopped faults.Absent first now printed left stops s = absurd stops
stopped faults.Unopened first now printed left stops s = absurd stops
stopped faults.Folder first now printed left stops s = s
stopped faults.Broken first now printed left stops s = inl s
stopped faults.TooLong first now printed left stops s = inr (inl s)
stopped (faults.NotText at) first now printed left stops s = absurd stops
stopped (faults.NotTextLine line at) first now printed left stops s = absurd stops
stopped faults.Memory first now printed left stops s = s

-- where no further line is given the lines so far were answered
pub captured_some : {fields : Bool} (first mid now : Stream) (before old : Option (List ℕ)) (held line after : List ℕ) (count : ℕ) (refused : Bool) (fault : InputFault) → IsCaptured fields first mid before old held count refused
    → (now.may_break ≡ true → mid.may_break ≡ true) → Finds mid now held line after (Err fault) → (printed : List ℕ) × Appends before old printed × DecodesLines fields first now printed (ending_of fault)
captured_some first mid now before old held line after count refused fault c breaks finds =
    let short = reads_short first mid now c.lines held line after fault c.reads breaks finds in (
      c.printed,
      c.told,
      stopped fault first now c.printed short.0 short.2 (record { lines = c.lines; left = short.0; refused = refused; reads = short.1; stops = short.2; answered = c.answered }),
    )

-- and where no further line can be counted
pub captured_most : {fields : Bool} (first now : Stream) (before old : Option (List ℕ)) (held : List ℕ) (count : ℕ) (refused : Bool) → IsCaptured fields first now before old held count refused → 2 ^ 64 ≤ count + 1
    → (printed : List ℕ) × Appends before old printed × DecodesLines fields first now printed endings.Unreadable
captured_most first now before old held count refused c many =
    (c.printed, c.told, inr (inr (record { lines = c.lines; left = held; refused = refused; reads = c.reads; many = omega (arith, many, c.counted); answered = c.answered })))
