-- The lines of the entries so far, after what there was.
use Rattle.std.proofs.Common.{◌≡◌, ◌++◌, take, string_bytes}
use Rattle.object_text.specs.Routes.{traces_text}
use Rattle.object_text.proofs.routes.push_traces.Given as goal

abbrev pub invariant-loop-entry : goal.invariant-loop-entry
invariant-loop-entry l = string_bytes l.text ≡ string_bytes l.fn.text ++ traces_text (take l.entry-index l.entries)
