-- What words of a line say.
use Rattle.std.proofs.Common.{◌≡◌, ℕ, List, [], Result, Ok, Err, arith, ap, length, inl, inr}
use Rattle.std.specs.Result.{OnErr}
use Rattle.std.proofs.lemmas.List.Splits.{length-slice_split}
use Rattle.abstract_paths.specs.declared.commands.Command.{Command}
use Rattle.abstract_paths.specs.declared.commands.Command.TheVariants as commands
use Rattle.lsr_lines.specs.Commands.{BringsTunnel, SaysCommand, is_space, words_of}

-- a text has a word
pub some_words : (text : List ℕ) → words_of text ≡ [] → ⊥
some_words text none = omega (arith, length-slice_split is_space text, ap length none)

-- a tunnel that is brought, or a change of one, is a command
pub commanded : (line : List ℕ) → BringsTunnel line → (command : Command) × SaysCommand (words_of line) command
commanded line (inl (t, says)) = (commands.AddTunnel t, says)
commanded line (inr (c, says)) = (commands.ChangeTunnel c, says)

-- what is said where memory ran out
pub for_error : {A E : Type 0} {P : Type 0} (r : Result A E) → P → OnErr r P
for_error (Ok x) p = tt
for_error (Err e) p = p
