-- Where its parts aren't read, none is spelled.
use Rattle.std.proofs.Common.{refl}
use Rattle.std.proofs.lemmas.Result.{err_from_is_err_and}
use Rattle.field_bytes.specs.Making.{parts_unread}
use Rattle.fact_fields.specs.Fitting.{IsAny}
use Rattle.journal_files.specs.FileLaws.{LabelPartsFit, label_part_bytes}
use Rattle.journal_files.specs.States.{label_state_bytes, label_state_parts}
use Rattle.journal_files.proofs.Parts.{of_parts}
use Rattle.journal_files.proofs.states.LabelStateFieldField.read.Goals as goal

pub returns-in_err-parts : goal.returns-in_err-parts
returns-in_err-parts g c =
    let p = err_from_is_err_and c.from_residual.result c.from_residual.ensures.1 in
    rw (p.1, p.2) (parts_unread IsAny label_state_parts (label_state_bytes g.Z.Field.spelling) (LabelPartsFit g.Z.Field.Fits g.Z.Field.spelling) (label_part_bytes g.Z.Field.Fits g.Z.Field.spelling) (λ x. refl) c.args.bytes.now _ c.in_err-parts.ensures)

pub returns : goal.returns
returns g c = of_parts label_state_parts (label_state_bytes g.Z.Field.spelling) (LabelPartsFit g.Z.Field.Fits g.Z.Field.spelling) (label_part_bytes g.Z.Field.Fits g.Z.Field.spelling) (λ x. refl) c.args.bytes.now c.in_ok-parts.rest.now c.in_ok-parts.parts c.labels_of.result c.in_ok-parts.ensures.0 c.in_ok-parts.ensures.1 c.labels_of.ensures
