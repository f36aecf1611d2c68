-- Which form a line should have that asks for nothing.
use Rattle.std.specs.Prelude.{ℕ, List, [], ◌∷◌, ◌++◌, Bool, false, ◌&&◌, ◌||◌, bytes_eq, codes, if◌then◌else◌, nat_eq}
use Rattle.std.specs.Fmt.{decimal}
use Rattle.std.specs.List.{ends_with, starts_with}
use Rattle.lsr_lines.specs.Commands.{words_of}
use Rattle.line_streams.specs.Cuts.{lines_of}
use Rattle.lsr_lines.specs.declared.forms.TheConstants.{CARRIAGE_RETURN, FIRST_BLANK, FORMS, LAST_BLANK, OTHER, TWO_BLANKS}

-- whether a word is the first of these
abbrev pub is_first : List ℕ → List (List ℕ) → Bool
is_first word [] = false
is_first word (first ∷ words) = bytes_eq first word

-- whether a form is that of lines that begin with a word
abbrev pub is_form_of : List ℕ → List ℕ → Bool
is_form_of form word = is_first word (words_of form)

-- the first of the forms that begins with a word, or another where none does
unfoldable pub form_in : List ℕ → List ℕ → List (List ℕ) → List ℕ
form_in other word [] = other
form_in other word (form ∷ forms) = if is_form_of form word then form else form_in other word forms

-- the form, among these, of lines whose words begin as these do
abbrev pub form_for : List ℕ → List ℕ → List (List ℕ) → List ℕ
form_for forms other [] = other
form_for forms other (word ∷ words) = form_in other word (lines_of forms)

-- the form, among these, that a line should have, by its first word
abbrev pub form_among : List ℕ → List ℕ → List ℕ → List ℕ
form_among forms other line = form_for forms other (words_of line)

-- the form that a line should have, by its first word
abbrev pub expected_form : List ℕ → List ℕ
expected_form line = form_among FORMS.now OTHER.now line

-- two blanks stand in a row
unfoldable pub has_two_blanks : List ℕ → Bool
has_two_blanks [] = false
has_two_blanks (byte ∷ []) = false
has_two_blanks (byte ∷ next ∷ rest) = (nat_eq byte 32 && nat_eq next 32) || has_two_blanks (next ∷ rest)

-- what is told of a line that ends with a carriage return or a blank, or else begins with a blank, or else has two in a row
unfoldable pub unseen_end : List ℕ → List ℕ
unseen_end line =
    if ends_with nat_eq line (codes "\r") then CARRIAGE_RETURN.now
    else if ends_with nat_eq line (codes " ") then LAST_BLANK.now
    else if starts_with nat_eq line (codes " ") then FIRST_BLANK.now
    else if has_two_blanks line then TWO_BLANKS.now
    else []

-- a line that asks for nothing, what was expected, and what is hard to see in it
abbrev pub bad_form_text : ℕ → List ℕ → List ℕ → List ℕ
bad_form_text number line form =
    codes "bad line " ++ (decimal number ++ (codes "\n  " ++ (line ++ (codes "\n  expected " ++ (form ++ (codes "\n" ++ unseen_end line))))))

-- the same where the line is one of an operator's
abbrev pub bad_line_text : ℕ → List ℕ → List ℕ
bad_line_text number line = bad_form_text number line (expected_form line)
