-- The entries can be counted.
use Rattle.std.proofs.Common.{◌<◌, ◌^◌, length, arith}
use Rattle.journal_files.specs.Fitting.{EntryFits, EventTextFits}
use Rattle.journal_files.proofs.Mapped.{list_fits}
use Rattle.journal_files.proofs.writing.put_entries.Goals as goal

pub returns-clause-fits : goal.returns-clause-fits
returns-clause-fits g c =
    let few : length c.args.entries.now < 2 ^ 32 = omega arith in
    list_fits g.E.AsEntry.entry_of (EntryFits EventTextFits) c.put_each.result c.args.entries.now few c.put_each.ensures.fits
