use Rattle.std.proofs.Common.{string_bytes}
use Rattle.std.proofs.lemmas.Result.{on_ok_weaker}
use Rattle.journal_lines.proofs.Entering.{answered, entry_shown}
use Rattle.journal_lines.proofs.entries.push_entry.Goals as goal

pub returns : goal.returns
returns c =
    on_ok_weaker c.push_chosen.result (λ labels.
    let answer = answered c.args.entry.now (string_bytes c.push_str.new.self) (string_bytes c.push_reply.new.text) (string_bytes c.push_frames.new.text) (string_bytes c.push_chosen.new.text)
    c.as_slice-2.result.now c.as_slice-3.result.now c.in_ok-push_reply.ensures c.as_slice-2.ensures c.in_ok-push_frames.ensures c.as_slice-3.ensures labels in
    entry_shown c.args.router.now c.args.number c.args.entry.now c.as_slice.result.now
    (string_bytes c.args.text.now) (string_bytes c.write.new.self) (string_bytes c.push_event.new.text) (string_bytes c.push_str.new.self) (string_bytes c.push_chosen.new.text)
    c.as_slice.ensures.bytes c.in_ok-write.ensures.bytes c.in_ok-push_event.ensures c.in_ok-push_str.ensures.bytes answer) c.push_chosen.ensures
