-- Lines that a session served which may be over, and who answers every request as such a session.
use Rattle.std.proofs.Common.{Bool, true, false, inl, inr, ◌≡◌, ◌+◌, ℕ, List, [], ◌∷◌, ◌++◌, Option, Some, None, sym, subst, ◌∙◌, ap, length}
use Rattle.lsr_lines.specs.Lines.{AsksFor}
use Rattle.lsr_lines.specs.Live.{AsksNothing}
use Rattle.lsr_lines.specs.Runs.{BecomesServed, IsUnserved, Stops, answers_of, answers_while}
use Rattle.lsr_lines.specs.Steps.{Becomes, Ends, IsUntold, Prints, PrintsLine, PrintsSome, ServesLine, is_passed}
use Rattle.lsr_lines.specs.declared.lines.Request.{Request}
use Rattle.lsr_lines.specs.declared.run.RunStop.{RunStop}
use Rattle.lsr_lines.specs.declared.run.RunStop.TheVariants as stops
use Rattle.lsr_lines.specs.declared.step.Ending.{Ending}
use Rattle.lsr_lines.specs.declared.step.Ending.TheVariants as endings
use Rattle.lsr_lines.specs.declared.step.LineOutcome.{LineOutcome}
use Rattle.lsr_lines.specs.declared.step.LineOutcome.TheVariants as lots

-- a line is served while the session isn't over
pub served_while : {S : Type 0} (serves : S → Request → Option (List ℕ) → S → Type 0) (is_over : S → Bool) (echo : Bool) (before : S) (line printed : List ℕ) (after : S) → is_over before ≡ false
    → ServesLine (answers_of serves) echo before line printed after → ServesLine (answers_while serves is_over) echo before line printed after
served_while serves is_over echo before line printed after going (inl p) =
    inl (record { request = p.request; answer = p.answer; kept = p.kept; asks = p.asks; answered = (going, p.answered); shown = p.shown })
served_while serves is_over echo before line printed after going (inr passed) = inr passed

-- ---- who answers every request, as it is seen in a session that is never over

-- What a session answers while it isn't over is what the one in it answers.
abbrev pub IsTaken : {S T : Type 0} → (S → T) → (S → Request → List ℕ → S → Type 0) → (T → Request → List ℕ → T → Type 0) → Type 0
IsTaken {S} in_it prints answers = (before : S) (request : Request) (text : List ℕ) (after : S) → prints before request text after → answers (in_it before) request text (in_it after)

line_in : {S T : Type 0} (in_it : S → T) (prints : S → Request → List ℕ → S → Type 0) (answers : T → Request → List ℕ → T → Type 0) → IsTaken in_it prints answers
    → (echo : Bool) (before : S) (line printed : List ℕ) (after : S) → PrintsLine prints echo before line printed after → PrintsLine answers echo (in_it before) line printed (in_it after)
line_in in_it prints answers taken echo before line printed after p =
    record { request = p.request; answer = p.answer; kept = p.kept; asks = p.asks; answered = taken before p.request p.answer after p.answered; shown = p.shown }

serves_in : {S T : Type 0} (in_it : S → T) (prints : S → Request → List ℕ → S → Type 0) (answers : T → Request → List ℕ → T → Type 0) → IsTaken in_it prints answers
    → (echo : Bool) (before : S) (line printed : List ℕ) (after : S) → ServesLine prints echo before line printed after → ServesLine answers echo (in_it before) line printed (in_it after)
serves_in in_it prints answers taken echo before line printed after (inl p) = inl (line_in in_it prints answers taken echo before line printed after p)
serves_in in_it prints answers taken echo before line printed after (inr (passed, none, same)) = inr (passed, none, ap in_it same)

prints_in : {S T : Type 0} (in_it : S → T) (prints : S → Request → List ℕ → S → Type 0) (answers : T → Request → List ℕ → T → Type 0) → IsTaken in_it prints answers
    → (echo : Bool) (before : S) (lines : List (List ℕ)) (printed : List ℕ) (after : S) → Prints prints echo before lines printed after → Prints answers echo (in_it before) lines printed (in_it after)
prints_in in_it prints answers taken echo before [] printed after (none, same) = (none, ap in_it same)
prints_in in_it prints answers taken echo before (line ∷ lines) printed after (first, rest, between, parts, serves, more) =
    (first, rest, in_it between, parts, serves_in in_it prints answers taken echo before line first between serves, prints_in in_it prints answers taken echo between lines rest after more)

untold_in : {S T : Type 0} (in_it : S → T) (prints : S → Request → List ℕ → S → Type 0) (answers : T → Request → List ℕ → T → Type 0) → IsTaken in_it prints answers
    → (echo : Bool) (before : S) (line : List ℕ) (after : S) → IsUntold (PrintsLine prints echo before line) before after → IsUntold (PrintsLine answers echo (in_it before) line) (in_it before) (in_it after)
untold_in in_it prints answers taken echo before line after (inl same) = inl (ap in_it same)
untold_in in_it prints answers taken echo before line after (inr (text, p)) = inr (text, line_in in_it prints answers taken echo before line text after p)

-- it leaves no request unserved
nothing_in : {S : Type 0} (serves : S → Request → Option (List ℕ) → S → Type 0) (before : S) (line : List ℕ) (after : S) → ((request : Request) → serves before request None after → ⊥) → IsUnserved serves before line after
    → AsksNothing line × (after ≡ before)
nothing_in serves before line after all (inl nothing) = nothing
nothing_in serves before line after all (inr (request, asks, unserved)) = absurd (all request unserved)

-- what becomes of a line
pub becomes_in : {S T : Type 0} (in_it : S → T) (serves : S → Request → Option (List ℕ) → S → Type 0) (answers : T → Request → List ℕ → T → Type 0) → IsTaken in_it (answers_of serves) answers
    → ((before : S) (request : Request) (after : S) → serves before request None after → ⊥) → (echo : Bool) (before : S) (line printed : List ℕ) (served : LineOutcome) (after : S)
    → BecomesServed serves echo before line printed served after → Becomes answers echo (in_it before) line printed served (in_it after)
becomes_in in_it serves answers taken all echo before line printed lots.Done after h = serves_in in_it (answers_of serves) answers taken echo before line printed after h
becomes_in in_it serves answers taken all echo before line printed lots.NoRequest after (none, kept, unserved) =
    let nothing = nothing_in serves before line after (λ request. all before request after) unserved in (none, kept, nothing.0, ap in_it nothing.1)
becomes_in in_it serves answers taken all echo before line printed lots.Memory after (none, takes, untold) =
    (none, takes, untold_in in_it (answers_of serves) answers taken echo before line after untold)

-- and how a run ends
pub ends_in : {S T : Type 0} (in_it : S → T) (serves : S → Request → Option (List ℕ) → S → Type 0) (is_over : S → Bool) (answers : T → Request → List ℕ → T → Type 0) → IsTaken in_it (answers_of serves) answers
    → ((before : S) (request : Request) (after : S) → serves before request None after → ⊥) → (echo : Bool) (before : S) (lines : List (List ℕ)) (printed : List ℕ) (ending : Ending) (after : S)
    → Stops serves is_over echo before lines printed (stops.Lines ending) after → Ends answers echo (in_it before) lines printed ending
ends_in in_it serves is_over answers taken all echo before lines printed endings.Done after (prints, going) =
    (in_it after, prints_in in_it (answers_while serves is_over) answers (λ b r t a p. taken b r t a p.1) echo before lines printed after prints)
ends_in in_it serves is_over answers taken all echo before lines printed (endings.BadLine number line) after (some, more, going, left, count, kept, unserved) =
    let nothing = nothing_in serves some.after line.now after (λ request. all some.after request after) unserved in
    let there : PrintsSome answers echo (in_it before) lines printed = record {
      served = some.served;
      left = some.left;
      after = in_it some.after;
      parts = some.parts;
      prints = prints_in in_it (answers_while serves is_over) answers (λ b r t a p. taken b r t a p.1) echo before some.served printed some.after some.prints;
    } in
    (there, more, left, count, kept, nothing.0)
ends_in in_it serves is_over answers taken all echo before lines printed endings.Memory after (some, line, more, going, left, takes, untold) =
    let there : PrintsSome answers echo (in_it before) lines printed = record {
      served = some.served;
      left = some.left;
      after = in_it some.after;
      parts = some.parts;
      prints = prints_in in_it (answers_while serves is_over) answers (λ b r t a p. taken b r t a p.1) echo before some.served printed some.after some.prints;
    } in
    (there, line, more, left, takes)

-- ---- what each request keeps, a run keeps

abbrev pub Keeps : {S : Type 0} → (S → Type 0) → (S → Request → Option (List ℕ) → S → Type 0) → Type 0
Keeps {S} P serves = (before : S) (request : Request) (printed : Option (List ℕ)) (after : S) → serves before request printed after → P before → P after

served_kept : {S : Type 0} (P : S → Type 0) (serves : S → Request → Option (List ℕ) → S → Type 0) (is_over : S → Bool) → Keeps P serves
    → (echo : Bool) (before : S) (line printed : List ℕ) (after : S) → ServesLine (answers_while serves is_over) echo before line printed after → P before → P after
served_kept P serves is_over keeps echo before line printed after (inl p) held = keeps before p.request (Some p.answer) after p.answered.1 held
served_kept P serves is_over keeps echo before line printed after (inr (passed, none, same)) held = subst P (sym same) held

prints_kept : {S : Type 0} (P : S → Type 0) (serves : S → Request → Option (List ℕ) → S → Type 0) (is_over : S → Bool) → Keeps P serves
    → (echo : Bool) (before : S) (lines : List (List ℕ)) (printed : List ℕ) (after : S) → Prints (answers_while serves is_over) echo before lines printed after → P before → P after
prints_kept P serves is_over keeps echo before [] printed after (none, same) held = subst P (sym same) held
prints_kept P serves is_over keeps echo before (line ∷ lines) printed after (first, rest, between, parts, serves_line, more) held =
    prints_kept P serves is_over keeps echo between lines rest after more (served_kept P serves is_over keeps echo before line first between serves_line held)

untold_kept : {S : Type 0} (P : S → Type 0) (serves : S → Request → Option (List ℕ) → S → Type 0) → Keeps P serves
    → (echo : Bool) (before : S) (line : List ℕ) (after : S) → IsUntold (PrintsLine (answers_of serves) echo before line) before after → P before → P after
untold_kept P serves keeps echo before line after (inl same) held = subst P (sym same) held
untold_kept P serves keeps echo before line after (inr (text, p)) held = keeps before p.request (Some p.answer) after p.answered held

unserved_kept : {S : Type 0} (P : S → Type 0) (serves : S → Request → Option (List ℕ) → S → Type 0) → Keeps P serves
    → (before : S) (line : List ℕ) (after : S) → IsUnserved serves before line after → P before → P after
unserved_kept P serves keeps before line after (inl (nothing, same)) held = subst P (sym same) held
unserved_kept P serves keeps before line after (inr (request, asks, unserved)) held = keeps before request None after unserved held

pub stops_kept : {S : Type 0} (P : S → Type 0) (serves : S → Request → Option (List ℕ) → S → Type 0) (is_over : S → Bool) → Keeps P serves
    → (echo : Bool) (before : S) (lines : List (List ℕ)) (printed : List ℕ) (stop : RunStop) (after : S) → Stops serves is_over echo before lines printed stop after → P before → P after
stops_kept P serves is_over keeps echo before lines printed (stops.Lines endings.Done) after (prints, going) held =
    prints_kept P serves is_over keeps echo before lines printed after prints held
stops_kept P serves is_over keeps echo before lines printed (stops.Lines (endings.BadLine number line)) after (some, more, going, left, count, kept, unserved) held =
    unserved_kept P serves keeps some.after line.now after unserved (prints_kept P serves is_over keeps echo before some.served printed some.after some.prints held)
stops_kept P serves is_over keeps echo before lines printed (stops.Lines endings.Memory) after (some, line, more, going, left, takes, untold) held =
    untold_kept P serves keeps echo some.after line after untold (prints_kept P serves is_over keeps echo before some.served printed some.after some.prints held)
stops_kept P serves is_over keeps echo before lines printed stops.Session after (some, same, over) held =
    subst P same (prints_kept P serves is_over keeps echo before some.served printed some.after some.prints held)
