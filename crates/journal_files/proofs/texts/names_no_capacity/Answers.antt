-- A text's document says whether it names a capacity.
use Rattle.std.proofs.Common.{sym, ap, ◌∙◌}
use Rattle.std.proofs.lemmas.Bool.{false≢true}
use Rattle.toml.proofs.Views.{view-Table}
use Rattle.journal_files.specs.Texts.{names_some_capacity}
use Rattle.journal_files.proofs.Capacities.{found_capacity, no_document}
use Rattle.journal_files.proofs.texts.names_no_capacity.Goals as goal

pub returns-in-Ok : goal.returns-in-Ok
returns-in-Ok c = found_capacity c.args.text.now _ _ c.in-Ok.ensures.ok (c.names_some_capacity.ensures ∙ ap names_some_capacity (view-Table c.in-Ok.table))

pub returns-in-Err-2 : goal.returns-in-Err-2
returns-in-Err-2 c =
    no_document c.args.text.now (c.in-Err.ensures.refused (λ memory. false≢true (sym c.if-is_memory.false ∙ c.is_memory.ensures.1 memory)))
