-- The file of a stretch spells it, with the configuration that the text says.
use Rattle.std.proofs.Common.{List, ap, map, ◌∙◌}
use Rattle.journal_files.specs.Pending.{untold_state}
use Rattle.lsr_journal.specs.declared.segments.Plain.{Plain}
use Rattle.lsr_journal.proofs.Segmenting.{stretch_written}
use Rattle.lsr_journal.proofs.segments.write_stretch.Goals as goal

pub returns-clause-ok : goal.returns-clause-ok
returns-clause-ok c =
    stretch_written c.files_spell_recordings.ensures c.standing_routers_are_told.ensures c.args.text.now c.args.base.now c.args.entries.now c.utf8.text
    _ (λ i. (c.as_bytes.ensures.value i, (untold_state c.args.base.now, (ap (λ (ps : List Plain). map (λ p. p.entry.now.entry) ps) c.as_slice.ensures.value ∙ c.in_ok-entries.ensures) i)))
    c.args.out.now.items c.write_file.new.out.items c.write_file.result c.write_file.ensures.ok c.write_file.ensures.fits
