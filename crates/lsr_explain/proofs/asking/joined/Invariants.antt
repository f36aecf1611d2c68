-- The texts so far, with a space after each.
use Rattle.std.proofs.Common.{◌≡◌, take, string_bytes}
use Rattle.lsr_explain.specs.Asking.{joined}
use Rattle.lsr_explain.proofs.asking.joined.Given as goal

abbrev pub invariant-loop-text : goal.invariant-loop-text
invariant-loop-text l = string_bytes l.line ≡ joined (take l.text-index l.texts)
