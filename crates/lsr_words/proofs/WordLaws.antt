-- What a command asks for that was found with its values.
use Rattle.std.proofs.Common.{◌≡◌, ◌≢◌, ◌<◌, ◌+◌, ℕ, fold, get_or, take, ◌==◌, arith, eqb-true, List, Result, Ok, Option, Some, None, [], ◌∷◌, refl, sym, subst, ap, ap₂, false, ◌∙◌, bytes_eq, codes, find, length, map, option_and_then, slice_get, true, unwrap_or}
use Rattle.std.specs.Borrow.{Bor}
use Rattle.std.specs.Option.{MatchOption, option_map, option_map_or}
use Rattle.std.specs.Result.{IfOk}
use Rattle.clap.specs.Words.{App, Row, Rule, Text, all_of, app_of, first_of, is_simple, is_simple_and_free, rule_of, subcommand_name_of, subcommand_rows_of, with_rule, with_subcommand}
use Rattle.clap.specs.Built.{AddsArg, AddsSubcommand}
use Rattle.clap.specs.declared.builder.arg.Arg.{Arg}
use Rattle.clap.specs.declared.builder.command.Command.{Command, out-Command}
use Rattle.clap.proofs.OnLiterals.{clap_on_literals}
use Rattle.clap.specs.declared.parser.matches.ArgMatches.{ArgMatches}
use Rattle.lsr_words.specs.Rows.{add_row, add_word, row_words, word_rule}
use Rattle.lsr_words.specs.Words.{Asks, AsksIn, lsr_words}
use Rattle.lsr_words.specs.declared.table.Row.{Row as TableRow}
use Rattle.lsr_words.specs.declared.table.Word.{Word}
use Rattle.std.proofs.lemmas.List.Sums.{fold_more}
use Rattle.lsr_words.specs.declared.words.Asked.{Asked}
use Rattle.lsr_words.specs.declared.words.Asked.TheVariants as asked

firsts : {B X Y : Type 0} (f : B → X) (g : B → Y) (b : Option B) → option_map (λ (p : X × Y). p.0) (option_map (λ x. (f x, g x)) b) ≡ option_map f b
firsts f g None = refl
firsts f g (Some x) = refl

name_of : (m : ArgMatches) → option_map (λ (p : Text × List Row). p.0) (subcommand_rows_of m) ≡ subcommand_name_of m
name_of m = firsts _ _ _

joined : (found : Option (Text × List Row)) (name : Text) (given : List Row) → option_map (λ (p : Text × List Row). p.0) found ≡ Some name → option_map (λ (p : Text × List Row). p.1) found ≡ Some given → found ≡ Some (name, given)
joined None name given e f = let t = e in cc
joined (Some (a, b)) name given e f = cc

-- a command with its name and its values is the one that was found
pub found_is : (m : ArgMatches) (name : Text) (given : List Row) → Some name ≡ subcommand_name_of m → Some given ≡ option_map (λ (p : Text × List Row). p.1) (subcommand_rows_of m) → subcommand_rows_of m ≡ Some (name, given)
found_is m name given e f = joined (subcommand_rows_of m) name given (name_of m ∙ sym e) (sym f)

abbrev pair : Text → List Row → Option (Text × List Row)
pair name given = Some (name, given)

same_command : (name command : Text) (given values : List Row) → pair name given ≡ pair command values → name ≡ command
same_command name command given values e = ap (λ (o : Option (Text × List Row)). option_map_or (λ (p : Text × List Row). p.0) o []) e

same_values : (name command : Text) (given values : List Row) → pair name given ≡ pair command values → given ≡ values
same_values name command given values e = ap (λ (o : Option (Text × List Row)). option_map_or (λ (p : Text × List Row). p.1) o []) e

-- the word that a command can't do without
abbrev pub needed_by : Text → Option Text
needed_by command = option_map (λ (p : Text × Text). p.1) (find (λ p. bytes_eq p.0 command)
    ((codes "decode", codes "HEX") ∷ (codes "explain", codes "WHAT") ∷ (codes "serve", codes "FILE") ∷ (codes "play", codes "FILE") ∷ (codes "check", codes "FILE") ∷ (codes "show-journal", codes "FILE") ∷ []))

first_of_all : (o : Option Row) (values : List Text) → option_map (λ r. r.values) o ≡ Some values → option_and_then (λ r. slice_get r.values 0) o ≡ slice_get values 0
first_of_all None values e = let t = e in cc
first_of_all (Some r) values e = ap (λ (o : Option (List Text)). slice_get (unwrap_or o []) 0) e

-- the first of all values
pub first_is : (id : Text) (given : List Row) (values : List Text) → all_of id given ≡ Some values → first_of id given ≡ slice_get values 0
first_is id given values = first_of_all (find (λ r. bytes_eq r.id id) given) values

no_first : (o : Option Row) → option_map (λ r. r.values) o ≡ None → option_and_then (λ r. slice_get r.values 0) o ≡ None
no_first None e = refl
no_first (Some r) e = let t = e in cc

-- where there is no value there is no first
pub has_none : (id : Text) (given : List Row) → all_of id given ≡ None → first_of id given ≡ None
has_none id given = no_first (find (λ r. bytes_eq r.id id) given)

pub no_values : (files : List (Bor Text)) → (length files == 0) ≡ true → slice_get (map (λ f. f.now) files) 0 ≡ None
no_values [] e = refl
no_values (file ∷ files) e = let none : length (file ∷ files) ≡ 0 = eqb-true (length (file ∷ files)) 0 e in absurd (omega (arith, none))

-- of values that there are there is a first
has_first : (id : Text) (given : List Row) (files : List (Bor Text)) → all_of id given ≡ Some (map (λ f. f.now) files) → files ≢ [] → first_of id given ≡ None → ⊥
has_first id given [] is some none = some refl
has_first id given (file ∷ files) is some none = let t = sym none ∙ first_is id given _ is in cc

word_is : (command name word other : Text) → command ≡ name → needed_by command ≡ Some word → needed_by name ≡ Some other → other ≡ word
word_is command name word other is needs said = ap (λ (o : Option Text). unwrap_or o []) (sym said ∙ ap needed_by (sym is) ∙ needs)

-- where its word wasn't given nothing was given that it could be asked for
pub lacks : (command word : Text) (given : List Row) (what : Asked) → needed_by command ≡ Some word → first_of word given ≡ None → Asks command given what → ⊥
lacks command word given (asked.Step file echo live journal) needs none (is, text, said, kept, recorded) = let t : needed_by (codes "step") ≡ Some word = ap needed_by (sym is) ∙ needs in cc
lacks command word given (asked.Config file) needs none (is, text) = let t : needed_by (codes "config") ≡ Some word = ap needed_by (sym is) ∙ needs in cc
lacks command word given (asked.Decode digits fields) needs none (is, text, said) =
    let t = sym none ∙ ap (λ w. first_of w given) (sym (word_is command _ word _ is needs refl)) ∙ text in cc
lacks command word given (asked.Explain words) needs none (is, text, some) =
    has_first (codes "WHAT") given words.items text some (ap (λ w. first_of w given) (word_is command _ word _ is needs refl) ∙ none)
lacks command word given (asked.Serve file turns journal console echo mark log) needs none (is, text, count, recorded, attended, echoed, marked, told) =
    let t = sym none ∙ ap (λ w. first_of w given) (sym (word_is command _ word _ is needs refl)) ∙ text in cc
lacks command word given (asked.Play file lab) needs none (is, text, said) =
    let t = sym none ∙ ap (λ w. first_of w given) (sym (word_is command _ word _ is needs refl)) ∙ text in cc
lacks command word given (asked.Check files) needs none (is, text, some) =
    has_first (codes "FILE") given files.items text some (ap (λ w. first_of w given) (word_is command _ word _ is needs refl) ∙ none)
lacks command word given (asked.ShowJournal file) needs none (is, text) =
    let t = sym none ∙ ap (λ w. first_of w given) (sym (word_is command _ word _ is needs refl)) ∙ text in cc

not_asked : (found : Option (Text × List Row)) (name : Text) (given : List Row) → found ≡ Some (name, given) → ((other : Asked) → Asks name given other → ⊥) → (other : Asked) → AsksIn found other → ⊥
not_asked found name given e h other (command, values, f, asks) =
    h other (subst (λ command. Asks command given other) (sym (same_command name command given values (sym e ∙ f))) (subst (λ values. Asks command values other) (sym (same_values name command given values (sym e ∙ f))) asks))

-- what a command that was found asks for
pub asks_in : (what : Option Asked) (found : Option (Text × List Row)) (name : Text) (given : List Row) → found ≡ Some (name, given)
    → MatchOption what ((other : Asked) → Asks name given other → ⊥) (Asks name given) → MatchOption what ((other : Asked) → AsksIn found other → ⊥) (AsksIn found)
asks_in None found name given e h = not_asked found name given e h
asks_in (Some what) found name given e h = (name, given, e, h)

no_pair : (found : Option (Text × List Row)) → option_map (λ (p : Text × List Row). p.0) found ≡ None → found ≡ None
no_pair None e = refl
no_pair (Some p) e = let t = e in cc

-- where there is no command nothing is asked for
pub none_asks : (m : ArgMatches) → None ≡ subcommand_name_of m → (other : Asked) → AsksIn (subcommand_rows_of m) other → ⊥
none_asks m e other (command, values, f, asks) = let t = sym (no_pair (subcommand_rows_of m) (name_of m ∙ sym e)) ∙ f in cc

pub none_given : {X : Type 0} (P : X → Type 0) (Q : Type 0) (r : Option X) → r ≡ None → MatchOption r Q P → Q
none_given P Q None e h = h
none_given P Q (Some x) e h = let t = e in cc

-- a command with one word more
pub one_more_word : (old new : Command) (a : Arg) (start : App) (words : List Word) (i : ℕ) (d : Word) → i < length words → app_of old ≡ fold add_word start (take i words)
    → rule_of a ≡ word_rule (get_or words i d) → a.global ≡ false → AddsArg old a new → app_of new ≡ fold add_word start (take (i + 1) words)
one_more_word old new a start words i d low before rule local adds = adds.shape local ∙ ap₂ with_rule before rule ∙ sym (fold_more add_word start words i d low)

-- a program with one command more
pub one_more_row : (program sub more : Command) (start : App) (rows : List TableRow) (i : ℕ) (d : TableRow) → i < length rows → app_of program ≡ fold add_row start (take i rows)
    → app_of sub ≡ row_words (get_or rows i d) → (out-Command sub).has_globals ≡ false → AddsSubcommand program sub more → app_of more ≡ fold add_row start (take (i + 1) rows)
one_more_row program sub more start rows i d low before words local adds =
    adds.shape local ∙ ap₂ with_subcommand before (ap (λ (a : App). a.top) words) ∙ sym (fold_more add_row start rows i d low)

pub is_taken : is_simple lsr_words ≡ true
unfolding clap_on_literals
is_taken = refl

pub is_free : is_simple_and_free lsr_words ≡ true
unfolding clap_on_literals
is_free = refl
