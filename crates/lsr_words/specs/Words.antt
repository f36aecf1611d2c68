-- Which words ask for what.
use Rattle.std.specs.Prelude.{◌≡◌, ◌≢◌, ℕ, List, [], ◌∷◌, Option, Some, None, Bool, true, false, bytes_eq, codes, fold, map, option_map}
use Rattle.std.specs.Borrow.{Bor}
use Rattle.clap.specs.Words.{App, Row, Rule, Text, all_of, first_of, new_app, new_rule, subcommand_of, with_rule, with_subcommand}
use Rattle.clap.specs.Simple.{on_top}
use Rattle.clap.specs.declared.builder.action.ArgAction.TheVariants.{Append, SetTrue}
use Rattle.lsr_words.specs.declared.words.Asked.{Asked}
use Rattle.lsr_words.specs.declared.words.Asked.TheVariants as asked

-- `--config FILE`
abbrev pub file_words : Rule
file_words = record (new_rule (codes "config")) { long = Some (codes "config"); value_names = 1 }

-- `HEX`
abbrev pub digits_word : Rule
digits_word = record (new_rule (codes "HEX")) { required = true }

-- `--echo`
abbrev pub echo_word : Rule
echo_word = record (new_rule (codes "echo")) { long = Some (codes "echo"); action = Some SetTrue }

-- `--live`
abbrev pub live_word : Rule
live_word = record (new_rule (codes "live")) { long = Some (codes "live"); action = Some SetTrue }

-- `--journal FILE`, or `--journal PREFIX`
abbrev pub journal_words : Rule
journal_words = record (new_rule (codes "journal")) { long = Some (codes "journal"); value_names = 1 }

-- `step [--config FILE] [--echo] [--live]`
abbrev pub answered_words : App
answered_words = with_rule (with_rule (with_rule (new_app (codes "step")) file_words) echo_word) live_word

-- `step [--config FILE] [--echo] [--live] [--journal FILE]`
abbrev pub step_words : App
step_words = with_rule answered_words journal_words

-- `FILE`, which may be left out
abbrev pub printed_word : Rule
printed_word = new_rule (codes "FILE")

-- `config [FILE]`
abbrev pub config_words : App
config_words = with_rule (new_app (codes "config")) printed_word

-- `--fields`
abbrev pub fields_word : Rule
fields_word = record (new_rule (codes "fields")) { long = Some (codes "fields"); action = Some SetTrue }

-- `decode HEX [--fields]`
abbrev pub decode_words : App
decode_words = with_rule (with_rule (new_app (codes "decode")) digits_word) fields_word

-- `WHAT..`, one word or more
abbrev pub topic_words : Rule
topic_words = record (new_rule (codes "WHAT")) { required = true; action = Some Append }

-- `explain WHAT..`
abbrev pub explain_words : App
explain_words = with_rule (new_app (codes "explain")) topic_words

-- `FILE`
abbrev pub served_word : Rule
served_word = record (new_rule (codes "FILE")) { required = true }

-- `--turns N`
abbrev pub turns_words : Rule
turns_words = record (new_rule (codes "turns")) { long = Some (codes "turns"); value_names = 1 }

-- `--console`
abbrev pub console_word : Rule
console_word = record (new_rule (codes "console")) { long = Some (codes "console"); action = Some SetTrue }

-- `--mark`
abbrev pub mark_word : Rule
mark_word = record (new_rule (codes "mark")) { long = Some (codes "mark"); action = Some SetTrue }

-- `--log LEVEL`
abbrev pub log_words : Rule
log_words = record (new_rule (codes "log")) { long = Some (codes "log"); value_names = 1 }

-- `serve FILE [--turns N] [--journal PREFIX]`
abbrev pub counted_words : App
counted_words = with_rule (with_rule (with_rule (new_app (codes "serve")) served_word) turns_words) journal_words

-- `serve FILE [--turns N] [--journal PREFIX] [--console] [--echo]`
abbrev pub attended_words : App
attended_words = with_rule (with_rule counted_words console_word) echo_word

-- `serve FILE [--turns N] [--journal PREFIX] [--console] [--echo] [--mark] [--log LEVEL]`
abbrev pub serve_words : App
serve_words = with_rule (with_rule attended_words mark_word) log_words

-- `FILE`
abbrev pub played_word : Rule
played_word = record (new_rule (codes "FILE")) { required = true }

-- `--lab`
abbrev pub lab_word : Rule
lab_word = record (new_rule (codes "lab")) { long = Some (codes "lab"); action = Some SetTrue }

-- `play FILE [--lab]`
abbrev pub play_words : App
play_words = with_rule (with_rule (new_app (codes "play")) played_word) lab_word

-- `FILE..`, one or more
abbrev pub checked_words : Rule
checked_words = record (new_rule (codes "FILE")) { required = true; action = Some Append }

-- `check FILE..`
abbrev pub check_words : App
check_words = with_rule (new_app (codes "check")) checked_words

-- `FILE`
abbrev pub shown_word : Rule
shown_word = record (new_rule (codes "FILE")) { required = true }

-- `show-journal FILE`
abbrev pub show_journal_words : App
show_journal_words = with_rule (new_app (codes "show-journal")) shown_word

-- the program's name; a command has to follow, or `--version`
abbrev pub program_words : App
program_words = on_top (λ top. record top { has_version = true; subcommand_required = true; arg_required_else_help = true }) (new_app (codes "lsr"))

-- the program's name, and one of some commands
abbrev pub with_commands : List App → App
with_commands commands = fold (λ program command. with_subcommand program command.top) program_words commands

-- the program's name, and one of the eight
abbrev pub lsr_words : App
lsr_words = with_commands (step_words ∷ config_words ∷ decode_words ∷ explain_words ∷ serve_words ∷ play_words ∷ check_words ∷ show_journal_words ∷ [])

-- whether an option without a value is given: what was found of it is `true`
abbrev pub is_given : Option (List ℕ) → Bool
is_given None = false
is_given (Some word) = bytes_eq word (codes "true")

-- all that was given for a word, and something was
abbrev pub AreAll : Text → List Row → List (Bor Text) → Type 0
AreAll name given words = (all_of name given ≡ Some (map (λ w. w.now) words)) × (words ≢ [])

-- what a command asks for, with the values that it was given
abbrev pub Asks : Text → List Row → Asked → Type 0
Asks command given (asked.Step file echo live journal) =
    (command ≡ codes "step") × (option_map (λ f. f.now) file ≡ first_of (codes "config") given) × (echo ≡ is_given (first_of (codes "echo") given))
    × (live ≡ is_given (first_of (codes "live") given)) × (option_map (λ f. f.now) journal ≡ first_of (codes "journal") given)
Asks command given (asked.Config file) = (command ≡ codes "config") × (option_map (λ f. f.now) file ≡ first_of (codes "FILE") given)
Asks command given (asked.Decode word fields) =
    (command ≡ codes "decode") × (first_of (codes "HEX") given ≡ Some word.now) × (fields ≡ is_given (first_of (codes "fields") given))
Asks command given (asked.Explain words) =
    (command ≡ codes "explain") × (all_of (codes "WHAT") given ≡ Some (map (λ w. w.now) words.items)) × (words.items ≢ [])
Asks command given (asked.Serve file turns journal console echo mark log) =
    (command ≡ codes "serve") × (first_of (codes "FILE") given ≡ Some file.now) × (option_map (λ n. n.now) turns ≡ first_of (codes "turns") given)
    × (option_map (λ p. p.now) journal ≡ first_of (codes "journal") given) × (console ≡ is_given (first_of (codes "console") given))
    × (echo ≡ is_given (first_of (codes "echo") given)) × (mark ≡ is_given (first_of (codes "mark") given))
    × (option_map (λ l. l.now) log ≡ first_of (codes "log") given)
Asks command given (asked.Play file lab) =
    (command ≡ codes "play") × (first_of (codes "FILE") given ≡ Some file.now) × (lab ≡ is_given (first_of (codes "lab") given))
Asks command given (asked.Check files) =
    (command ≡ codes "check") × (all_of (codes "FILE") given ≡ Some (map (λ f. f.now) files.items)) × (files.items ≢ [])
Asks command given (asked.ShowJournal file) = (command ≡ codes "show-journal") × (first_of (codes "FILE") given ≡ Some file.now)

-- what a command asks for that was found with its values
abbrev pub AsksIn : Option (Text × List Row) → Asked → Type 0
AsksIn found what = (command : Text) × (given : List Row) × (found ≡ Some (command, given)) × Asks command given what

-- what the words ask for
abbrev pub AsksFor : List Text → Asked → Type 0
AsksFor words = AsksIn (subcommand_of lsr_words words)
