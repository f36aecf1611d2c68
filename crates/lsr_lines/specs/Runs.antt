-- What a run over lines prints whose session may leave lines unserved, and may end it.
use Rattle.std.specs.Prelude.{◌≡◌, ◌+◌, ℕ, List, [], ◌∷◌, ◌⊎◌, Bool, true, false, length, Option, Some, None}
use Rattle.lsr_lines.specs.Lines.{AsksFor}
use Rattle.lsr_lines.specs.Live.{AsksNothing}
use Rattle.lsr_lines.specs.Steps.{IsUntold, PrintsLine, PrintsSome, Prints, ServesLine, TakesMemory, is_passed}
use Rattle.lsr_lines.specs.declared.lines.Request.{Request}
use Rattle.lsr_lines.specs.declared.run.RunStop.{RunStop}
use Rattle.lsr_lines.specs.declared.run.RunStop.TheVariants as stops
use Rattle.lsr_lines.specs.declared.step.Ending.TheVariants as endings
use Rattle.lsr_lines.specs.declared.step.LineOutcome.{LineOutcome}
use Rattle.lsr_lines.specs.declared.step.LineOutcome.TheVariants as lots

-- What a session prints for a request that it serves. `serves` says what it prints for each request, and what it is then: none where it
-- serves no such request.
abbrev pub answers_of : {S : Type 0} → (S → Request → Option (List ℕ) → S → Type 0) → S → Request → List ℕ → S → Type 0
answers_of serves before request printed after = serves before request (Some printed) after

-- the same while it isn't over
abbrev pub answers_while : {S : Type 0} → (S → Request → Option (List ℕ) → S → Type 0) → (S → Bool) → S → Request → List ℕ → S → Type 0
answers_while serves is_over before request printed after = (is_over before ≡ false) × answers_of serves before request printed after

-- A line that isn't served: it asks for nothing, or for what the session doesn't serve.
abbrev pub IsUnserved : {S : Type 0} → (S → Request → Option (List ℕ) → S → Type 0) → S → List ℕ → S → Type 0
IsUnserved serves before line after =
    (AsksNothing line × (after ≡ before)) ⊎ ((request : Request) × AsksFor line request × serves before request None after)

-- What becomes of one line: it is served; or it isn't, and nothing is printed; or memory ran out for one that asks for something, and
-- nothing is printed.
abbrev pub BecomesServed : {S : Type 0} → (S → Request → Option (List ℕ) → S → Type 0) → Bool → S → List ℕ → List ℕ → LineOutcome → S → Type 0
BecomesServed serves echo before line printed lots.Done after = ServesLine (answers_of serves) echo before line printed after
BecomesServed serves echo before line printed lots.NoRequest after = (printed ≡ []) × (is_passed echo line ≡ false) × IsUnserved serves before line after
BecomesServed serves echo before line printed lots.Memory after =
    (printed ≡ []) × TakesMemory line × IsUntold (PrintsLine (answers_of serves) echo before line) before after

-- What ends a run, and what the session is then. The lines were all served; or those before the first that isn't served and isn't passed
-- over, whose number counts from 1; or those before one for which memory ran out, which asks for something. Or the session is over after
-- those that were served. No line is served by one that is over.
abbrev pub Stops : {S : Type 0} → (S → Request → Option (List ℕ) → S → Type 0) → (S → Bool) → Bool → S → List (List ℕ) → List ℕ → RunStop → S → Type 0
Stops serves is_over echo before lines printed (stops.Lines endings.Done) after =
    Prints (answers_while serves is_over) echo before lines printed after × (is_over after ≡ false)
Stops serves is_over echo before lines printed (stops.Lines (endings.BadLine number line)) after =
    (some : PrintsSome (answers_while serves is_over) echo before lines printed) × (more : List (List ℕ)) × (is_over some.after ≡ false)
    × (some.left ≡ line.now ∷ more) × (number ≡ length some.served + 1) × (is_passed echo line.now ≡ false) × IsUnserved serves some.after line.now after
Stops serves is_over echo before lines printed (stops.Lines endings.Memory) after =
    (some : PrintsSome (answers_while serves is_over) echo before lines printed) × (line : List ℕ) × (more : List (List ℕ)) × (is_over some.after ≡ false)
    × (some.left ≡ line ∷ more) × TakesMemory line × IsUntold (PrintsLine (answers_of serves) echo some.after line) some.after after
Stops serves is_over echo before lines printed stops.Session after =
    (some : PrintsSome (answers_while serves is_over) echo before lines printed) × (some.after ≡ after) × (is_over after ≡ true)
