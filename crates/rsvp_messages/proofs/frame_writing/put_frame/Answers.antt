-- What is written is read as the same frame.
use Rattle.std.proofs.Common.{◌++◌, ℕ, List, ap, ◌∙◌, append_assoc}
use Rattle.std.proofs.lemmas.Result.{on_ok_weaker, on_err_weaker}
use Rattle.label_stacks.specs.Stacks.{stack_bytes}
use Rattle.rsvp_contents.specs.Written.{message_bytes}
use Rattle.rsvp_messages.proofs.Written.{front_kept, hop_again, labelled_again, on_ok_always, relayed_again}
use Rattle.rsvp_messages.proofs.frame_writing.put_frame.Goals as goal

pub returns-in_ok-push-in-Hop-clause-again : goal.returns-in_ok-push-in-Hop-clause-again
returns-in_ok-push-in-Hop-clause-again c =
    rw c.in-Hop.is (on_ok_weaker c.write_message.result (hop_again c.in-Hop.message) c.write_message.ensures.again)

pub returns-in_ok-write_stack-in-Labelled-clause-again : goal.returns-in_ok-write_stack-in-Labelled-clause-again
returns-in_ok-write_stack-in-Labelled-clause-again c =
    rw c.in-Labelled.is (on_ok_weaker c.put_payload.result (λ again. labelled_again c.in-Labelled.stack c.in-Labelled.payload c.as_slice.ensures.fits.few c.in_ok-write_stack-in-Labelled.ensures.again again.fits) c.put_payload.ensures.again)

pub returns-in_ok-write_stack-in-Labelled-clause-err : goal.returns-in_ok-write_stack-in-Labelled-clause-err
returns-in_ok-write_stack-in-Labelled-clause-err c =
    on_err_weaker c.put_payload.result (front_kept c.args.out.now.items _ _ _ (c.in_ok-write_stack-in-Labelled.ensures.ok ∙ (ap (λ (b : List ℕ). b ++ stack_bytes c.in-Labelled.stack) c.in_ok-extend_from_slice-in-Labelled.ensures.items ∙ append_assoc c.args.out.now.items _ _))) c.put_payload.ensures.err

pub returns-in_ok-put_routed_head-in-Routed-clause-again : goal.returns-in_ok-put_routed_head-in-Routed-clause-again
returns-in_ok-put_routed_head-in-Routed-clause-again c =
    rw c.in-Routed.is (on_ok_always c.write_message-in-Routed.result (relayed_again c.in-Routed.to c.in-Routed.limit (message_bytes c.in-Routed.message) c.put_routed_head.ensures.four))

pub returns-in_ok-put_routed_head-in-Routed-clause-carried : goal.returns-in_ok-put_routed_head-in-Routed-clause-carried
returns-in_ok-put_routed_head-in-Routed-clause-carried c = rw c.in-Routed.is c.write_message-in-Routed.ensures.again

pub returns-in_ok-put_routed_head-in-Relayed-clause-again : goal.returns-in_ok-put_routed_head-in-Relayed-clause-again
returns-in_ok-put_routed_head-in-Relayed-clause-again c =
    rw c.in-Relayed.is (on_ok_always c.extend_from_slice-in-Relayed.result (relayed_again c.in-Relayed.to c.in-Relayed.limit c.in-Relayed.message c.put_routed_head-in-Relayed.ensures.four))
