-- The line that was heard is answered.
use Rattle.lsr_console.proofs.Written.{heard_told}
use Rattle.lsr_console.proofs.console.Console.take.Goals as goal

pub returns-in-Line-clause-told : goal.returns-in-Line-clause-told
returns-in-Line-clause-told g c =
    heard_told c.serve_line.result _ _ _ _ _ _ _ c.in-Line.line c.as_str.result.now c.args.heard _ _ c.in-Line.is c.as_str.ensures.value c.serve_line.ensures.kept.1 c.serve_line.ensures.told
