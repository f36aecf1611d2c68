-- What a run prints and tells that answers each line as soon as it has come: the lines that ask for something are answered,
-- one after the other, and of the others it is told that they ask for nothing; remarks are passed over.
use Rattle.std.specs.Prelude.{◌≡◌, ◌+◌, ◌^◌, ◌≤◌, ◌⊎◌, ℕ, List, [], ◌∷◌, ◌++◌, Bool, true, false, length}
use Rattle.lsr_lines.specs.Forms.{bad_line_text}
use Rattle.lsr_lines.specs.Lines.{AsksFor}
use Rattle.lsr_lines.specs.Steps.{Prints, ServesLine, TakesMemory, is_remark}
use Rattle.line_streams.specs.Streams.{Reads, ReadsAll, StopsFor}
use Rattle.line_streams.specs.Texts.{IsTextUpTo, Stream}
use Rattle.line_streams.specs.declared.input.InputFault.{InputFault}
use Rattle.line_streams.specs.declared.input.InputFault.TheVariants as faults
use Rattle.lsr_lines.specs.declared.lines.Request.{Request}
use Rattle.lsr_lines.specs.declared.live.LiveEnding.{LiveEnding}
use Rattle.lsr_lines.specs.declared.live.LiveEnding.TheVariants as endings
use Rattle.lsr_lines.specs.declared.step.LineOutcome.{LineOutcome}
use Rattle.lsr_lines.specs.declared.step.LineOutcome.TheVariants as lots

-- a line that asks for nothing
abbrev pub AsksNothing : List ℕ → Type 0
AsksNothing line = (request : Request) → AsksFor line request → ⊥

-- A line of this number comes after lines of which `before` are to be answered, and `said` is told of others: it is a remark;
-- or it is to be answered, too; or it asks for nothing, and that is told.
abbrev pub SortsLine : ℕ → List ℕ → List (List ℕ) → List ℕ → List (List ℕ) → List ℕ → Type 0
SortsLine number line before said kept told =
    ((is_remark line ≡ true) × (kept ≡ before) × (told ≡ said))
    ⊎ (((is_remark line ≡ false) × (kept ≡ before ++ (line ∷ [])) × (told ≡ said))
    ⊎ ((is_remark line ≡ false) × AsksNothing line × (kept ≡ before) × (told ≡ said ++ bad_line_text number line)))

-- Of lines, the newest first, these are to be answered, the oldest first, and this is told of the others.
abbrev pub Sorts : List (List ℕ) → List (List ℕ) → List ℕ → Type 0
Sorts [] kept told = (kept ≡ []) × (told ≡ [])
Sorts (line ∷ earlier) kept told = (before : List (List ℕ)) × (said : List ℕ) × Sorts earlier before said × SortsLine (length earlier + 1) line before said kept told

-- Lines, the newest first, are served by a session: those that ask for something are answered, and the others told.
pub record ServesAll {S : Type 0} (answers : S → Request → List ℕ → S → Type 0) (echo : Bool) (before : S) (lines : List (List ℕ)) (printed told : List ℕ) (after : S) : Type 0 where
  pub kept : List (List ℕ)
  pub sorts : Sorts lines kept told
  pub prints : Prints answers echo before kept printed after

-- This line came after these, the newest first, of a stream that was the first one and is the other now.
abbrev pub Comes : Stream → Stream → List (List ℕ) → List ℕ → Type 0
Comes first now lines line = ((left : List ℕ) × Reads first now (line ∷ lines) left) ⊎ ReadsAll first now (line ∷ lines)

-- Why no line after these is served: none is given; or it isn't UTF-8 from one of its bytes on; or as many came as 64 bits count.
abbrev pub StopsAfter : Stream → Stream → List (List ℕ) → InputFault → Type 0
StopsAfter first now lines fault =
    ((left : List ℕ) × Reads first now lines left × StopsFor first.may_break left fault)
    ⊎ (((line : List ℕ) × (at : ℕ) × (fault ≡ faults.NotTextLine (length lines + 1) at) × Comes first now lines line × IsTextUpTo line at)
    ⊎ ((fault ≡ faults.TooLong) × ((left : List ℕ) × Reads first now lines left) × (2 ^ 64 ≤ length lines + 1)))

-- How a run ends over the lines of a stream, which was the first one and is the other now: all of them were served; or those
-- before one that takes memory, for which there was none; or those after which no line is served, for this fault.
abbrev pub Lives : {S : Type 0} → (S → Request → List ℕ → S → Type 0) → Bool → S → Stream → Stream → List ℕ → List ℕ → LiveEnding → Type 0
Lives {S} answers echo before first now printed told endings.Done =
    (lines : List (List ℕ)) × (after : S) × ReadsAll first now lines × ServesAll answers echo before lines printed told after
Lives {S} answers echo before first now printed told endings.Memory =
    (lines : List (List ℕ)) × (line : List ℕ) × (after : S) × Comes first now lines line × (is_remark line ≡ false) × TakesMemory line
    × ServesAll answers echo before lines printed told after
Lives {S} answers echo before first now printed told (endings.Unread fault) =
    (lines : List (List ℕ)) × (after : S) × StopsAfter first now lines fault × ServesAll answers echo before lines printed told after

-- whether anything was told
abbrev pub Marks : Bool → List ℕ → Type 0
Marks false told = told ≡ []
Marks true told = 1 ≤ length told

-- whether it is told of a line that it asks for nothing
abbrev pub is_told : LineOutcome → Bool
is_told lots.Done = false
is_told lots.NoRequest = true
is_told lots.Memory = false

-- What becomes of one line of this number: it is served; or it asks for nothing, and that is told; or memory ran out for it.
abbrev pub BecomesLive : {S : Type 0} → (S → Request → List ℕ → S → Type 0) → Bool → S → ℕ → List ℕ → List ℕ → List ℕ → LineOutcome → S → Type 0
BecomesLive answers echo before number line printed told lots.Done after =
    (told ≡ [])
    × (((is_remark line ≡ true) × (printed ≡ []) × (after ≡ before)) ⊎ ((is_remark line ≡ false) × ServesLine answers echo before line printed after))
BecomesLive answers echo before number line printed told lots.NoRequest after =
    (is_remark line ≡ false) × AsksNothing line × (printed ≡ []) × (told ≡ bad_line_text number line) × (after ≡ before)
BecomesLive answers echo before number line printed told lots.Memory after = (is_remark line ≡ false) × TakesMemory line × (printed ≡ []) × (told ≡ [])
