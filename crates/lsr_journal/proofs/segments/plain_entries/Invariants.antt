-- So far the entries are those.
use Rattle.std.proofs.Common.{◌≡◌, take}
use Rattle.std.specs.Prelude.{map}
use Rattle.lsr_journal.proofs.segments.plain_entries.Given as goal

abbrev pub invariant-loop-entry : goal.invariant-loop-entry
invariant-loop-entry l = map (λ p. p.entry.now.entry) l.plain.items ≡ map (λ e. e.entry) (take l.entry-index l.entries)
