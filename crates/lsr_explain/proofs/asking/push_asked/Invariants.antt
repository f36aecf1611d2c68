-- What is told is still among the words that are left, and nothing is appended.
use Rattle.std.proofs.Common.{◌≡◌, length, string_bytes}
use Rattle.lsr_explain.specs.Asking.{first_asked, words_in}
use Rattle.lsr_explain.proofs.AskingLaws.{IsStillTold}
use Rattle.lsr_explain.proofs.asking.push_asked.Given as goal

abbrev pub invariant-loop-word : goal.invariant-loop-word
invariant-loop-word l = record {
  told : IsStillTold (first_asked (words_in l.line)) l.line l.rest;
  kept : string_bytes l.asked ≡ string_bytes l.fn.asked;
}

abbrev pub decreases-loop-word : goal.decreases-loop-word
decreases-loop-word l = length l.rest
