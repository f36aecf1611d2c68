-- The recording of the base that is told.
use Rattle.std.proofs.Common.{ℕ, List, Result, Ok, Err, subst}
use Rattle.std.proofs.lemmas.Result.{err_from_is_err_and}
use Rattle.journal_files.specs.Recordings.{IsToldBase}
use Rattle.journal_files.proofs.Recorded.{base_recorded, base_refused}
use Rattle.journal_files.proofs.recordings.recording_of.Goals as goal

pub returns-in_err-config : goal.returns-in_err-config
returns-in_err-config c =
    let p = err_from_is_err_and c.from_residual.result c.from_residual.ensures.1 in
    let P : List ℕ → Type 0 = λ text. IsToldBase c.args.format text c.args.stored.1.0 (Err c.in_err-config.field-0.0) in
    rw (p.1, p.2) (base_refused c.args.format c.args.stored c.in_err-config.field-0.0 (subst P c.as_slice.ensures c.in_err-config.ensures))

pub returns : goal.returns
returns c =
    let P : List ℕ → Type 0 = λ text. IsToldBase c.args.format text c.args.stored.1.0 (Ok (c.in_ok-config.config, c.in_ok-config.base)) in
    base_recorded c.args.format c.args.stored c.in_ok-config.config c.in_ok-config.base (subst P c.as_slice.ensures c.in_ok-config.ensures)
