-- What the line asks for was answered.
use Rattle.std.proofs.Common.{string_bytes}
use Rattle.lsr_console.proofs.Requested.{line_lacks, line_told}
use Rattle.lsr_console.proofs.answering.answer_line.Goals as goal

pub returns-in-Asks-clause-told : goal.returns-in-Asks-clause-told
returns-in-Asks-clause-told g c =
    line_told string_bytes c.answer_request.result _ _ c.args.counters.now.ports.items _ _ _ c.in-Asks.request _ (rw c.in-Asks.is at c.in_ok-read_said.ensures.said) c.answer_request.ensures.told

pub returns-in-Asks-clause-lack : goal.returns-in-Asks-clause-lack
returns-in-Asks-clause-lack g c =
    line_lacks c.answer_request.result _ _ c.args.counters.now.ports.items _ _ _ c.in-Asks.request _ (rw c.in-Asks.is at c.in_ok-read_said.ensures.said) c.answer_request.ensures.lack
