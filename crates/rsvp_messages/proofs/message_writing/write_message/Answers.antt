-- A message's written objects are read as themselves, so its bytes are read as the message.
use Rattle.std.proofs.Common.{OnOk, subst}
use Rattle.std.proofs.lemmas.Result.{on_ok_weaker}
use Rattle.rsvp_contents.specs.declared.messages.Content.{Content}
use Rattle.rsvp_contents.specs.Written.{objects_of}
use Rattle.rsvp_contents.proofs.Spelled.{what_is_written_spells_lem}
use Rattle.rsvp_messages.specs.Parts.{IsSpelled}
use Rattle.std.specs.List.{All}
use Rattle.rsvp_messages.proofs.message_writing.write_message.Goals as goal

pub returns-clause-again : goal.returns-clause-again
returns-clause-again c =
    let each = subst (λ (content : Content). OnOk c.write_content.result (All IsSpelled (objects_of content))) c.content.ensures.content c.write_content.ensures.spelled in
    on_ok_weaker c.write_content.result (what_is_written_spells_lem c.args.message.now c.content.ensures.fits) each
