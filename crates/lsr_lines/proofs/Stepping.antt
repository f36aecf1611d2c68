-- Lines that were served so far, and one more.
use Rattle.std.proofs.Common.{rules, Bool, false, inl, inr, ◌≡◌, ◌+◌, ◌≤◌, ℕ, List, [], ◌∷◌, ◌++◌, Option, refl, sym, ap, ◌∙◌, subst, length, append_assoc, append-nil, None, Some}
use Rattle.std.specs.Option.{IsNone}
use Rattle.std.specs.Str.{IsUtf8}
use Rattle.std.specs.Io.KnownBytes.{Appends}
use Rattle.std.proofs.KnownBytes.{Appends-trans}
use Rattle.lsr_lines.specs.declared.lines.Request.{Request}
use Rattle.lsr_lines.specs.Lines.{AsksFor}
use Rattle.line_streams.specs.Cuts.{lines_of}
use Rattle.line_streams.proofs.CutLaws.{lines_of-nil}
use Rattle.lsr_lines.specs.Steps.{IsUntold, Prints, PrintsLine, ServesLine, echo_text, is_passed}

pub prints_push : {S : Type 0} (answers : S → Request → List ℕ → S → Type 0) (echo : Bool) (a : S) (lines : List (List ℕ)) (printed : List ℕ) (b : S) (line text : List ℕ) (c : S) → Prints answers echo a lines printed b → ServesLine answers echo b line text c → Prints answers echo a (lines ++ (line ∷ [])) (printed ++ text) c
prints_push answers echo a [] printed b line text c h p =
    (text, [], c, ap (λ l. l ++ text) h.0 ∙ sym (append-nil text), subst (λ s. ServesLine answers echo s line text c) h.1 p, (refl, refl))
prints_push answers echo a (first ∷ lines) printed b line text c h p =
    (h.0, h.1 ++ text, h.2, ap (λ l. l ++ text) h.3 ∙ append_assoc h.0 h.1 text, h.4, prints_push answers echo h.2 lines h.1 b line text c h.5 p)

-- The lines before `rest` were served, and their answers printed.
pub record IsSteppedTo {S : Type 0} (answers : S → Request → List ℕ → S → Type 0) (echo : Bool) (before : S) (text : List ℕ) (old new : Option (List ℕ)) (rest : List ℕ) (number : ℕ) (after : S) : Type 0 where
  pub served : List (List ℕ)
  pub printed : List ℕ
  pub parts : lines_of text ≡ served ++ lines_of rest
  pub prints : Prints answers echo before served printed after
  pub told : Appends old new printed
  pub count : number ≡ length served
  pub room : number + length rest ≤ length text
  pub utf8 : IsUtf8 rest

-- nothing more was printed
pub told_none : (a b c : Option (List ℕ)) (printed more : List ℕ) → Appends a b printed → Appends b c more → more ≡ [] → Appends a c printed
told_none a b c printed more first second e =
    subst (Appends a c) (ap (λ l. printed ++ l) e ∙ append-nil printed) (Appends-trans a b c printed more first second)

pub none_by : {X : Type 0} (r : Option X) → ((x : X) → r ≡ Some x → ⊥) → IsNone r
none_by None h = search rules
none_by (Some x) h = absurd (h x refl)

-- at the end of the text all its lines were served
pub served_all : (text rest : List ℕ) (served : List (List ℕ)) → lines_of text ≡ served ++ lines_of rest → rest ≡ [] → lines_of text ≡ served
served_all text rest served parts e = parts ∙ ap (λ r. served ++ lines_of r) e ∙ ap (λ l. served ++ l) lines_of-nil ∙ append-nil served

-- a line that is answered stands before its answer
pub answered_line : {S : Type 0} (answers : S → Request → List ℕ → S → Type 0) (echo : Bool) (before : S) (line : List ℕ) (after : S) (request : Request) (text : List ℕ) → is_passed echo line ≡ false → AsksFor line request → answers before request text after
    → PrintsLine answers echo before line (echo_text echo line ++ text) after
answered_line answers echo before line after request text kept asks answered =
    record { request = request; answer = text; kept = kept; asks = asks; answered = answered; shown = refl }

-- and one for whose answer there is no memory
pub untold_line : {S : Type 0} (answers : S → Request → List ℕ → S → Type 0) (echo : Bool) (before : S) (line : List ℕ) (after : S) (request : Request) → is_passed echo line ≡ false → AsksFor line request → IsUntold (answers before request) before after
    → IsUntold (PrintsLine answers echo before line) before after
untold_line answers echo before line after request kept asks (inl same) = inl same
untold_line answers echo before line after request kept asks (inr (text, answered)) = inr (echo_text echo line ++ text, answered_line answers echo before line after request text kept asks answered)
