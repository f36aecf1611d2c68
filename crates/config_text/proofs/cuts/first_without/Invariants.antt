-- The links so far have a value.
use Rattle.std.proofs.Common.{ℕ, ◌≤◌, ◌<◌, IsSome}
use Rattle.toml.specs.View.{table_view}
use Rattle.config_text.specs.Cuts.{value_at}
use Rattle.config_text.specs.declared.section.Section.TheVariants as sections
use Rattle.config_text.specs.declared.section.Spot.TheVariants as spots
use Rattle.config_text.proofs.cuts.first_without.Given as goal

abbrev pub invariant-loop-number : goal.invariant-loop-number
invariant-loop-number l = (before : ℕ) → 1 ≤ before → before < l.number → IsSome (value_at (spots.Record sections.Links before) l.name (table_view l.document))
