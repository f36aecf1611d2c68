-- Where its parts aren't read, none is spelled.
use Rattle.std.proofs.Common.{refl}
use Rattle.std.proofs.lemmas.Result.{err_from_is_err_and}
use Rattle.field_bytes.specs.Making.{parts_unread}
use Rattle.fact_fields.specs.Fitting.{IsAny}
use Rattle.journal_files.specs.FileLaws.{NodePartsFit, node_part_bytes}
use Rattle.journal_files.specs.States.{node_state_bytes, node_state_parts}
use Rattle.journal_files.proofs.Parts.{of_parts}
use Rattle.journal_files.proofs.states.NodeStateFieldField.read.Goals as goal

pub returns-in_err-parts : goal.returns-in_err-parts
returns-in_err-parts g c =
    let p = err_from_is_err_and c.from_residual.result c.from_residual.ensures.1 in
    rw (p.1, p.2) (parts_unread IsAny node_state_parts (node_state_bytes g.B.Field.spelling) (NodePartsFit g.B.Field.Fits g.B.Field.spelling) (node_part_bytes g.B.Field.Fits g.B.Field.spelling) (λ x. refl) c.args.bytes.now _ c.in_err-parts.ensures)

pub returns : goal.returns
returns g c = of_parts node_state_parts (node_state_bytes g.B.Field.spelling) (NodePartsFit g.B.Field.Fits g.B.Field.spelling) (node_part_bytes g.B.Field.Fits g.B.Field.spelling) (λ x. refl) c.args.bytes.now c.in_ok-parts.rest.now c.in_ok-parts.parts c.node_of.result c.in_ok-parts.ensures.0 c.in_ok-parts.ensures.1 c.node_of.ensures
