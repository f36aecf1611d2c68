-- The document that was judged is that of the text.
use Rattle.std.proofs.Common.{inl, inr, refl, sym, subst, ◌∙◌}
use Rattle.std.proofs.lemmas.Bool.{false≢true}
use Rattle.std.specs.Ordering.{nat_cmp}
use Rattle.toml.proofs.Views.{view-Table}
use Rattle.lsr_config.specs.Documents.{SaysTable, records}
use Rattle.lsr_config.specs.Reading.{Judges}
use Rattle.lsr_config.specs.declared.key.Key.TheVariants as key
use Rattle.lsr_serve.specs.Sockets.{SaysSockets, all_socket_rules}
use Rattle.lsr_serve.proofs.SocketTexts.{sockets_given, sockets_lacking}
use Rattle.lsr_serve.proofs.sockets.read_sockets.Goals as goal

pub returns-in-Ok-clause-said : goal.returns-in-Ok-clause-said
returns-in-Ok-clause-said c =
    let judged = subst (λ d. Judges (all_socket_rules d) (SaysTable nat_cmp SaysSockets (records key.Link d)) c.read_document.result) (view-Table c.in-Ok.table) c.read_document.ensures.judged in
    sockets_given c.args.text.now _ _ c.in-Ok.ensures.ok judged

pub returns-in-Ok-clause-refused : goal.returns-in-Ok-clause-refused
returns-in-Ok-clause-refused c =
    let judged = subst (λ d. Judges (all_socket_rules d) (SaysTable nat_cmp SaysSockets (records key.Link d)) c.read_document.result) (view-Table c.in-Ok.table) c.read_document.ensures.judged in
    sockets_lacking c.args.text.now _ _ c.in-Ok.ensures.ok judged

pub returns-in-Err-2-clause-refused : goal.returns-in-Err-2-clause-refused
returns-in-Err-2-clause-refused c =
    inr (inl (refl, c.in-Err.ensures.refused (λ memory. false≢true (sym c.if-is_memory.false ∙ c.is_memory.ensures.1 memory))))
