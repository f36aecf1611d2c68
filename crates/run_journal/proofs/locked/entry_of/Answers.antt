-- The entry's parts are those of the step.
use Rattle.std.proofs.Common.{rules, ap, sym, ◌∙◌}
use Rattle.abstract_paths.specs.declared.events.Event.{Event}
use Rattle.journal_bytes.specs.Events.{event_bytes}
use Rattle.journal_bytes.specs.Entries.{written_frame}
use Rattle.std.proofs.Common.{map, refl}
use Rattle.run_journal.proofs.Making.{made-event}
use Rattle.run_journal.proofs.locked.entry_of.Goals as goal

pub returns : goal.returns
returns c = record {
  port_is = refl;
  entry = record {
    event = c.in_ok-bytes_of.ensures.bytes ∙ ap event_bytes (sym (made-event c.args.event.now c.args.ready.now));
    chosen = c.from_vec.ensures ∙ c.in_ok-from_slice.ensures.items ∙ c.chosen.ensures c.args.event.now;
    replied = c.reply.ensures c.args.event.now;
    sent = c.in_ok-written_frames.ensures ∙ ap (map written_frame) (c.outputs.ensures c.args.event.now);
  };
  again = c.in_ok-bytes_of.ensures.again;
  told = λ s is. c.changes_table.ensures s c.args.event.now is;
}
