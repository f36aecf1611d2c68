-- The configuration that a text says, where its format allows it.
use Rattle.std.proofs.lemmas.Result.{err_from_is_err_and}
use Rattle.journal_files.specs.Texts.{Allows}
use Rattle.journal_files.proofs.Allowing.{allowed_says, refused_says_none, unread_at}
use Rattle.journal_files.proofs.Recorded.{unread_document}
use Rattle.journal_files.proofs.recordings.config_of.Goals as goal

pub returns-in_err-config : goal.returns-in_err-config
returns-in_err-config c =
    let p = err_from_is_err_and c.from_residual.result c.from_residual.ensures.1 in
    rw (p.1, p.2) (unread_at c.args.format c.args.bytes.now c.in-Ok.text.now c.in_err-config.field-0.0 c.in-Ok.ensures.cases.0 c.in_err-config.ensures)

pub returns-in_err-allows : goal.returns-in_err-allows
returns-in_err-allows c =
    let p = err_from_is_err_and c.from_residual-in_err-allows.result c.from_residual-in_err-allows.ensures.1 in
    rw (p.1, p.2) (unread_document c.args.format c.args.bytes.now (Allows c.args.format c.in-Ok.text.now c.in_ok-config.config) c.in_err-allows.field-0.0 c.in_err-allows.ensures)

pub returns-then-branch : goal.returns-then-branch
returns-then-branch c =
    allowed_says c.args.format c.args.bytes.now c.in-Ok.text.now c.in_ok-config.config c.in_ok-allows.field-0 c.in-Ok.ensures.cases.0 c.in-Ok.ensures.cases.1 c.in_ok-config.ensures c.in_ok-allows.ensures
    c.if-branch.true

pub returns-else-branch : goal.returns-else-branch
returns-else-branch c =
    refused_says_none c.args.format c.args.bytes.now c.in-Ok.text.now c.in_ok-config.config c.in_ok-allows.field-0 c.in-Ok.ensures.cases.0 c.in_ok-config.ensures c.in_ok-allows.ensures c.if-branch.false
