-- What stands under the key.
use Rattle.std.proofs.Common.{ap, ◌∙◌}
use Rattle.lsr_config.specs.Documents.{array_elements}
use Rattle.config_text.specs.Cuts.{only_tables, tables}
use Rattle.config_text.proofs.cuts.tables.Goals as goal

pub returns-in-Some : goal.returns-in-Some
unfolding tables
returns-in-Some c =
    let found = rw (c.in-Some.is, c.name.ensures) at c.value_under.ensures in
    c.listed_tables.ensures ∙ ap (λ o. only_tables (array_elements o)) found

pub returns-in-None : goal.returns-in-None
unfolding tables
returns-in-None c =
    let none = rw (c.in-None.is, c.name.ensures) at c.value_under.ensures in
    ap (λ o. only_tables (array_elements o)) none
