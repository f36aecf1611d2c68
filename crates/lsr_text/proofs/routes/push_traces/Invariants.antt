-- The entries so far, after what there was.
use Rattle.std.proofs.Common.{◌≡◌, ◌++◌, take, string_bytes}
use Rattle.std.specs.List.{flat_map}
use Rattle.lsr_text.specs.Routes.{trace_line}
use Rattle.lsr_text.proofs.routes.push_traces.Given as goal

abbrev pub invariant-loop-trace : goal.invariant-loop-trace
invariant-loop-trace l = string_bytes l.text ≡ string_bytes l.fn.text ++ flat_map trace_line (take l.trace-index l.traces)
