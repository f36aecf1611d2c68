-- What the rows of the table say, in clap's words.
use Rattle.std.specs.Prelude.{ℕ, List, Some, true, fold}
use Rattle.clap.specs.Words.{App, Rule, new_app, new_rule, with_rule, with_subcommand}
use Rattle.clap.specs.declared.builder.action.ArgAction.TheVariants.{Append, SetTrue}
use Rattle.lsr_words.specs.declared.table.Form.{Form}
use Rattle.lsr_words.specs.declared.table.Form.TheVariants as forms
use Rattle.lsr_words.specs.declared.table.Row.{Row}
use Rattle.lsr_words.specs.declared.table.Word.{Word}

-- the rule of a word of this name and form
abbrev pub form_rule : List ℕ → Form → Rule
form_rule name (forms.Option value) = record (new_rule name) { long = Some name; value_names = 1 }
form_rule name forms.Switch = record (new_rule name) { long = Some name; action = Some SetTrue }
form_rule name forms.Optional = new_rule name
form_rule name forms.Required = record (new_rule name) { required = true }
form_rule name forms.Several = record (new_rule name) { required = true; action = Some Append }

-- the rule of a word
abbrev pub word_rule : Word → Rule
word_rule word = form_rule word.name.now word.form

-- a command with one more word
abbrev pub add_word : App → Word → App
add_word app word = with_rule app (word_rule word)

-- the command of a row
abbrev pub row_words : Row → App
row_words row = fold add_word (new_app row.name.now) row.words.now

-- a program with one more command
abbrev pub add_row : App → Row → App
add_row program row = with_subcommand program (row_words row).top
