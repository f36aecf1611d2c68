-- What a run over lines prints: its lines are requests, answered one after the other, and each answer is printed; where lines
-- are echoed each stands before its answer, and remarks are passed over.
use Rattle.std.specs.Prelude.{◌≡◌, ◌+◌, ◌==◌, ◌&&◌, ℕ, List, [], ◌∷◌, ◌++◌, ◌⊎◌, Bool, true, false, codes, length}
use Rattle.lsr_lines.specs.Lines.{AsksFor, BringsMore}
use Rattle.lsr_lines.specs.declared.lines.Request.{Request}
use Rattle.lsr_lines.specs.declared.step.Ending.{Ending}
use Rattle.lsr_lines.specs.declared.step.Ending.TheVariants as endings
use Rattle.lsr_lines.specs.declared.step.LineOutcome.{LineOutcome}
use Rattle.lsr_lines.specs.declared.step.LineOutcome.TheVariants as lots

-- an empty line, or one that begins with #
abbrev pub is_remark : List ℕ → Bool
is_remark [] = true
is_remark (byte ∷ rest) = byte == 35

-- whether a line is passed over: where lines are echoed a remark is
abbrev pub is_passed : Bool → List ℕ → Bool
is_passed echo line = echo && is_remark line

-- what is printed before the answer to a line: where lines are echoed, the line
abbrev pub echo_text : Bool → List ℕ → List ℕ
echo_text false line = []
echo_text true line = line ++ codes "\n"

-- A line that asks for something: it is answered. `answers` says what a session prints for a request.
pub record PrintsLine {S : Type 0} (answers : S → Request → List ℕ → S → Type 0) (echo : Bool) (before : S) (line printed : List ℕ) (after : S) : Type 0 where
  pub request : Request
  pub answer : List ℕ
  pub kept : is_passed echo line ≡ false
  pub asks : AsksFor line request
  pub answered : answers before request answer after
  pub shown : printed ≡ echo_text echo line ++ answer

-- a line that is served: it is answered, or passed over
abbrev pub ServesLine : {S : Type 0} → (S → Request → List ℕ → S → Type 0) → Bool → S → List ℕ → List ℕ → S → Type 0
ServesLine answers echo before line printed after =
    PrintsLine answers echo before line printed after ⊎ ((is_passed echo line ≡ true) × (printed ≡ []) × (after ≡ before))

-- lines, one after the other
abbrev pub Prints : {S : Type 0} → (S → Request → List ℕ → S → Type 0) → Bool → S → List (List ℕ) → List ℕ → S → Type 0
Prints answers echo before [] printed after = (printed ≡ []) × (after ≡ before)
Prints {S} answers echo before (line ∷ lines) printed after =
    (first : List ℕ) × (rest : List ℕ) × (between : S) × (printed ≡ first ++ rest) × ServesLine answers echo before line first between × Prints answers echo between lines rest after

-- some of the lines from the first on, and those that are left
pub record PrintsSome {S : Type 0} (answers : S → Request → List ℕ → S → Type 0) (echo : Bool) (before : S) (lines : List (List ℕ)) (printed : List ℕ) : Type 0 where
  pub served : List (List ℕ)
  pub left : List (List ℕ)
  pub after : S
  pub parts : lines ≡ served ++ left
  pub prints : Prints answers echo before served printed after

-- A line that takes memory: it brings bytes or a tunnel, or it asks for something, which is answered.
abbrev pub TakesMemory : List ℕ → Type 0
TakesMemory line = BringsMore line ⊎ ((request : Request) × AsksFor line request)

-- The lines were all served; or those before the first that asks for nothing and isn't passed over, whose number counts
-- from 1; or those before one for which memory ran out, which asks for something.
abbrev pub Ends : {S : Type 0} → (S → Request → List ℕ → S → Type 0) → Bool → S → List (List ℕ) → List ℕ → Ending → Type 0
Ends {S} answers echo before lines printed endings.Done = (after : S) × Prints answers echo before lines printed after
Ends answers echo before lines printed (endings.BadLine number line) =
    (some : PrintsSome answers echo before lines printed) × (more : List (List ℕ))
    × (some.left ≡ line.now ∷ more) × (number ≡ length some.served + 1) × (is_passed echo line.now ≡ false) × ((request : Request) → AsksFor line.now request → ⊥)
Ends answers echo before lines printed endings.Memory =
    (some : PrintsSome answers echo before lines printed) × (line : List ℕ) × (more : List (List ℕ)) × (some.left ≡ line ∷ more) × TakesMemory line

-- Memory ran out for an answer. The session is as it was; or it is as it is after the answer, for whose text there was
-- no memory. `prints` says which text is printed, and what the session is then.
abbrev pub IsUntold : {S : Type 0} → (List ℕ → S → Type 0) → S → S → Type 0
IsUntold prints before after = (after ≡ before) ⊎ ((text : List ℕ) × prints text after)

-- What becomes of one line: it is served; or it asks for nothing, and nothing is printed or changed; or memory ran out for
-- one that asks for something, and nothing is printed.
abbrev pub Becomes : {S : Type 0} → (S → Request → List ℕ → S → Type 0) → Bool → S → List ℕ → List ℕ → LineOutcome → S → Type 0
Becomes answers echo before line printed lots.Done after = ServesLine answers echo before line printed after
Becomes answers echo before line printed lots.NoRequest after =
    (printed ≡ []) × (is_passed echo line ≡ false) × ((request : Request) → AsksFor line request → ⊥) × (after ≡ before)
Becomes answers echo before line printed lots.Memory after = (printed ≡ []) × TakesMemory line × IsUntold (PrintsLine answers echo before line) before after
