-- Lines that were taken so far, and one more.
use Rattle.std.proofs.Common.{◌≡◌, ◌+◌, ◌≤◌, ℕ, List, [], ◌∷◌, ◌++◌, refl, subst, length}
use Rattle.std.specs.Str.{IsUtf8}
use Rattle.line_streams.specs.Cuts.{lines_of}
use Rattle.lsr_play.specs.Declaring.{AreDeclared, Declaration, Declares, nothing}

pub declared_push : (a : Declaration) (lines : List (List ℕ)) (b : Declaration) (line : List ℕ) (c : Declaration) → AreDeclared a lines b → Declares b line c → AreDeclared a (lines ++ (line ∷ [])) c
declared_push a [] b line c h d = (c, subst (λ s. Declares s line c) h d, refl)
declared_push a (first ∷ lines) b line c h d = (h.0, h.1, declared_push h.0 lines b line c h.2 d)

-- The lines before `rest` declare this.
pub record IsDeclaredTo (text rest : List ℕ) (count : ℕ) (d : Declaration) : Type 0 where
  pub lines : List (List ℕ)
  pub parts : lines_of text ≡ lines ++ lines_of rest
  pub declared : AreDeclared nothing lines d
  pub counted : count ≡ length lines
  pub room : count + length rest ≤ length text
  pub utf8 : IsUtf8 rest
