use Rattle.std.proofs.Common.{refl, sym, subst, ◌∙◌}
use Rattle.std.proofs.lemmas.Bool.{false≢true}
use Rattle.toml.proofs.Views.{view-Table}
use Rattle.lsr_config.specs.Documents.{rules_of, Says}
use Rattle.lsr_config.specs.Reading.{Judges}
use Rattle.lsr_config.proofs.Answering.{document_read, not_read, no_memory}
use Rattle.lsr_config.proofs.config.Config.read.Goals as goal

pub returns-in-Ok : goal.returns-in-Ok
returns-in-Ok c =
    let judged = subst (λ d. Judges (rules_of d) (Says d) c.read_document.result) (view-Table c.in-Ok.table) c.read_document.ensures in
    document_read c.args.text.now _ _ c.in-Ok.ensures.ok judged

pub returns-in-Err : goal.returns-in-Err
returns-in-Err c = no_memory c.args.text.now _ refl

pub returns-in-Err-2 : goal.returns-in-Err-2
returns-in-Err-2 c =
    not_read c.args.text.now _ refl (c.in-Err.ensures.refused (λ memory. false≢true (sym c.if-is_memory.false ∙ c.is_memory.ensures.1 memory)))
