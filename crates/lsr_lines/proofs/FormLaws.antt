-- Forms that were looked at.
use Rattle.std.proofs.Common.{◌≡◌, ℕ, List, [], ◌∷◌, true, false, refl}
use Rattle.std.specs.Str.{IsUtf8}
use Rattle.lsr_lines.specs.Forms.{form_in, is_form_of}
use Rattle.line_streams.specs.Cuts.{lines_of}

-- What a word asks for is still among these lines.
pub record IsLeft (forms other word rest : List ℕ) : Type 0 where
  pub same : form_in other word (lines_of forms) ≡ form_in other word (lines_of rest)
  pub utf8 : IsUtf8 rest

pub form_none : (other word : List ℕ) → form_in other word [] ≡ other
unfolding form_in
form_none other word = refl

pub form_first : (other word form : List ℕ) (forms : List (List ℕ)) → is_form_of form word ≡ true → form_in other word (form ∷ forms) ≡ form
unfolding form_in
form_first other word form forms e = rw e refl

pub form_after : (other word form : List ℕ) (forms : List (List ℕ)) → is_form_of form word ≡ false → form_in other word (form ∷ forms) ≡ form_in other word forms
unfolding form_in
form_after other word form forms e = rw e refl
