-- Where its parts aren't read, none is spelled.
use Rattle.std.proofs.Common.{refl}
use Rattle.std.proofs.lemmas.Result.{err_from_is_err_and}
use Rattle.field_bytes.specs.Making.{parts_unread}
use Rattle.fact_fields.specs.Fitting.{IsAny}
use Rattle.field_bytes.specs.PairLaws.{PairFits, pair_bytes}
use Rattle.field_bytes.specs.Spelling.{octet_bytes}
use Rattle.event_fields.specs.Fitting.{IsShort}
use Rattle.event_fields.specs.Laws.{Counts, short_bytes}
use Rattle.journal_files.specs.Entries.{frame_bytes, frame_parts}
use Rattle.journal_files.proofs.entries.FrameFieldField.read.Goals as goal

pub returns-in_err-parts : goal.returns-in_err-parts
returns-in_err-parts c =
    let p = err_from_is_err_and c.from_residual.result c.from_residual.ensures.1 in
    rw (p.1, p.2) (parts_unread IsAny frame_parts frame_bytes (PairFits IsShort Counts) (pair_bytes short_bytes octet_bytes) (λ x. refl) c.args.bytes.now _ c.in_err-parts.ensures)
