-- A command for a bypass is read with a capacity of 0, any other event as it stands.
use Rattle.std.proofs.Common.{sym, ◌∙◌}
use Rattle.std.proofs.lemmas.Result.{err_from_is_err_and}
use Rattle.journal_files.proofs.FirstRead.{cut_short, head_read, head_unread, others_read}
use Rattle.journal_files.proofs.first_format.FirstTextField.read.Goals as goal

pub returns-then-not-is_add_bypass : goal.returns-then-not-is_add_bypass
returns-then-not-is_add_bypass g c =
    others_read g.T.Field.Fits g.T.Field.spelling g.met.T.EventTexts.stands c.args.bytes.now (sym c.is_add_bypass.ensures ∙ c.if-not-is_add_bypass.true) c.read.result c.read.ensures
