-- What the text says, and what paths say of LSPs that are to take the place of others.
use Rattle.std.proofs.Common.{ap, ◌∙◌}
use Rattle.std.proofs.lemmas.Result.{err_from_is_err_and}
use Rattle.lsr_config.specs.Configs.{Setup}
use Rattle.journal_files.specs.Pending.{told_state}
use Rattle.journal_files.proofs.Recorded.{text_refused, text_told}
use Rattle.journal_files.proofs.recordings.told_base.Goals as goal

pub returns-in_err-config : goal.returns-in_err-config
returns-in_err-config c =
    let p = err_from_is_err_and c.from_residual.result c.from_residual.ensures.1 in
    rw (p.1, p.2) (text_refused c.args.format c.args.text.now c.args.base _ c.in_err-config.ensures)

pub returns : goal.returns
returns c =
    text_told c.args.format c.args.text.now c.args.base c.in_ok-base.base c.in_ok-config.config c.in_ok-config.ensures c.requires
    (c.in_ok-base.ensures ∙ ap (λ (s : Setup). told_state s.router c.args.base) c.config.view_is)
