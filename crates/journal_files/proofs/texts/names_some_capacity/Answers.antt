-- Of the records as they are viewed.
use Rattle.std.proofs.Common.{◌∙◌}
use Rattle.toml.specs.View.{view}
use Rattle.lsr_config.specs.Documents.{records}
use Rattle.lsr_config.specs.declared.key.Key.TheVariants as key
use Rattle.journal_files.specs.Texts.{names_capacity}
use Rattle.journal_files.proofs.Documents.{any_viewed}
use Rattle.journal_files.proofs.texts.names_some_capacity.Goals as goal

pub returns : goal.returns
returns c = c.name_some_capacity.ensures ∙ any_viewed names_capacity view c.records_at.result.now (records key.Bypass (view c.args.document.now)) c.records_at.ensures
