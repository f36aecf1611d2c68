-- The letters so far, after what there was.
use Rattle.std.proofs.Common.{◌≡◌, ◌++◌, take, string_bytes}
use Rattle.std.specs.List.{flat_map}
use Rattle.lsr_text.specs.Routes.{name_letter}
use Rattle.lsr_text.proofs.routes.push_letters.Given as goal

abbrev pub invariant-loop-byte : goal.invariant-loop-byte
invariant-loop-byte l = string_bytes l.text ≡ string_bytes l.fn.text ++ flat_map name_letter (take l.byte-index l.name)
