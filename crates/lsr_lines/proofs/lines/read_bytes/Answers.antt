-- No digits spell no byte; and where memory ran out they spell some.
use Rattle.std.proofs.Common.{rules, ap, sym, ◌∙◌, Ok}
use Rattle.lsr_lines.proofs.LineLaws.{spelled_none, spelled_some}
use Rattle.lsr_lines.proofs.lines.read_bytes.Goals as goal

pub returns-then-is_empty-clause-bytes : goal.returns-then-is_empty-clause-bytes
returns-then-is_empty-clause-bytes c =
    spelled_none c.args.digits.now (search rules) ∙ ap Ok (sym c.new.ensures.items)

pub returns-in-Err-clause-memory : goal.returns-in-Err-clause-memory
returns-in-Err-clause-memory c =
    let spelled = rw c.if-not-spells_bytes.false at c.spells_bytes.ensures in
    (spelled.0, spelled.1, spelled_some c.args.digits.now spelled.0 spelled.1 (search rules))
