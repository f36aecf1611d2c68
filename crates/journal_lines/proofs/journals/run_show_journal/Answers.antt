-- A journal to its end, or up to where it breaks.
use Rattle.journal_lines.proofs.Showing.{shown_part, shown_whole}
use Rattle.journal_lines.proofs.journals.run_show_journal.Goals as goal

pub returns-in-None : goal.returns-in-None
returns-in-None g c = shown_whole c.args.bytes.now _ _ _ _ c.in_ok-show_journal.ensures c.in-None.is

pub returns-in_ok-tell_break-in-Some : goal.returns-in_ok-tell_break-in-Some
returns-in_ok-tell_break-in-Some g c = shown_part c.args.bytes.now _ _ _ _ _ c.in-Some.broken c.in_ok-show_journal.ensures c.in-Some.is c.in_ok-tell_break-in-Some.ensures
