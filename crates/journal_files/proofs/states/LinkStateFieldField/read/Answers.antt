-- Where its parts aren't read, none is spelled.
use Rattle.std.proofs.Common.{refl}
use Rattle.std.proofs.lemmas.Result.{err_from_is_err_and}
use Rattle.field_bytes.specs.Making.{parts_unread}
use Rattle.fact_fields.specs.Fitting.{IsAny}
use Rattle.journal_files.specs.FileLaws.{LinkPartsFit, link_part_bytes}
use Rattle.journal_files.specs.States.{link_state_bytes, link_state_parts}
use Rattle.journal_files.proofs.states.LinkStateFieldField.read.Goals as goal

pub returns-in_err-parts : goal.returns-in_err-parts
returns-in_err-parts c =
    let p = err_from_is_err_and c.from_residual.result c.from_residual.ensures.1 in
    rw (p.1, p.2) (parts_unread IsAny link_state_parts link_state_bytes LinkPartsFit link_part_bytes (λ x. refl) c.args.bytes.now _ c.in_err-parts.ensures)
