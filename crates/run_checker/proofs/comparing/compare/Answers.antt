-- What isn't told apart is the same.
use Rattle.std.proofs.Common.{ap, map, sym, ◌∙◌}
use Rattle.journal_bytes.specs.Entries.{written_frame}
use Rattle.run_checker.proofs.comparing.compare.Goals as goal

pub returns-clause-same : goal.returns-clause-same
returns-clause-same c = record {
  replied = c.is_same_reply.ensures.0 c.if-not-is_same_reply.false;
  sent = sym c.as_slice-2.ensures ∙ c.are_same_items.ensures.0 c.if-not-are_same_items.false ∙ c.as_slice-3.ensures ∙ c.in_ok-frames.ensures ∙ ap (map written_frame) c.as_slice.ensures;
}
