-- What is told of a line that isn't taken.
use Rattle.std.specs.Prelude.{ℕ, List, ◌++◌, codes}
use Rattle.std.specs.Fmt.{decimal}
use Rattle.line_streams.specs.Texts.{input_fault_text}
use Rattle.line_streams.specs.declared.input.InputFault.TheVariants.{NotTextLine}
use Rattle.lsr_lines.specs.Forms.{bad_form_text, form_among}
use Rattle.lsr_console.specs.declared.forms.TheConstants.{HELP, OTHER}

-- a line that asks for nothing, and the form that it should have, by its first word
abbrev pub bad_line_text : ℕ → List ℕ → List ℕ
bad_line_text number line = bad_form_text number line (form_among HELP.now OTHER.now line)

-- a line that asks for what comes from elsewhere
abbrev pub elsewhere_text : ℕ → List ℕ → List ℕ → List ℕ
elsewhere_text number line whence = codes "bad line " ++ (decimal number ++ (codes "\n  " ++ (line ++ (codes "\n  " ++ (whence ++ codes "\n")))))

-- a line that isn't UTF-8 from this byte of it on
abbrev pub untext_text : ℕ → ℕ → List ℕ
untext_text number at = input_fault_text (codes "standard input") (NotTextLine number at)
