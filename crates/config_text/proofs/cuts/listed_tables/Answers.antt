-- An array's tables, or none.
use Rattle.std.proofs.Common.{map, ap, ◌∙◌}
use Rattle.toml.specs.View.{view}
use Rattle.lsr_config.proofs.Finding.{items_found, no_items_found}
use Rattle.config_text.specs.Cuts.{only_tables}
use Rattle.config_text.proofs.cuts.listed_tables.Goals as goal

pub returns-in-Some : goal.returns-in-Some
returns-in-Some c =
    c.only_tables.ensures ∙ ap (λ vs. only_tables (map view vs)) c.as_slice.ensures.value ∙ ap only_tables (items_found _ _ c.in-Some.ensures)

pub returns-in-None : goal.returns-in-None
returns-in-None c = ap only_tables (no_items_found _ c.in-None.ensures)
