-- The object that isn't known stands after the message.
use Rattle.std.proofs.Common.{◌≡◌, ◌++◌, OnOk, subst, sym}
use Rattle.rsvp_contents.specs.Picking.{content_in}
use Rattle.rsvp_contents.specs.declared.message.Reading.{Reading}
use Rattle.link_frames.specs.Frames.{IsReadAgain}
use Rattle.journal_bytes.specs.Events.{reading_bytes}
use Rattle.journal_bytes.proofs.Lengths.{second_part, then_too}
use Rattle.journal_bytes.proofs.messages.put_reading.Goals as goal

pub returns-in_ok-put_message-in-Whole-clause-ok : goal.returns-in_ok-put_message-in-Whole-clause-ok
returns-in_ok-put_message-in-Whole-clause-ok c =
    let written = c.extend_from_slice in
    subst (λ (x : Reading). OnOk written.result (written.new.self.items ≡ c.args.out.now.items ++ reading_bytes x)) (sym c.in-Whole.is)
    (second_part c.args.out.now.items c.put_message.new.out.items written.new.self.items _ _ written.result c.in_ok-put_message-in-Whole.ensures.ok written.ensures.items)

pub returns-in_ok-put_message-in-Whole-clause-again : goal.returns-in_ok-put_message-in-Whole-clause-again
returns-in_ok-put_message-in-Whole-clause-again c =
    subst (λ (x : Reading). OnOk c.extend_from_slice.result (IsReadAgain (content_in x))) (sym c.in-Whole.is) (then_too c.extend_from_slice.result c.in_ok-put_message-in-Whole.ensures.again)

pub returns-in_ok-put_message-in-Unknown-clause-ok : goal.returns-in_ok-put_message-in-Unknown-clause-ok
returns-in_ok-put_message-in-Unknown-clause-ok c =
    let written = c.extend_from_slice-in-Unknown in
    subst (λ (x : Reading). OnOk written.result (written.new.self.items ≡ c.args.out.now.items ++ reading_bytes x)) (sym c.in-Unknown.is)
    (second_part c.args.out.now.items c.put_message-in-Unknown.new.out.items written.new.self.items _ _ written.result c.in_ok-put_message-in-Unknown.ensures.ok written.ensures.items)

pub returns-in_ok-put_message-in-Unknown-clause-again : goal.returns-in_ok-put_message-in-Unknown-clause-again
returns-in_ok-put_message-in-Unknown-clause-again c =
    subst (λ (x : Reading). OnOk c.extend_from_slice-in-Unknown.result (IsReadAgain (content_in x))) (sym c.in-Unknown.is) (then_too c.extend_from_slice-in-Unknown.result c.in_ok-put_message-in-Unknown.ensures.again)
