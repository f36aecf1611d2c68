-- Which form a line of a world's file should have that says nothing.
use Rattle.std.specs.Prelude.{ℕ, List}
use Rattle.lsr_lines.specs.Forms.{bad_form_text, form_among}
use Rattle.world_lines.specs.declared.forms.TheConstants.{FORMS, OTHER}

-- the form that a line should have, by its first word
abbrev pub expected_form : List ℕ → List ℕ
expected_form line = form_among FORMS.now OTHER.now line

-- a line that says nothing, or not here, and what was expected
abbrev pub bad_line_text : ℕ → List ℕ → List ℕ
bad_line_text number line = bad_form_text number line (expected_form line)
