-- What is printed of the message stands after its heading.
use Rattle.std.proofs.Common.{rules, ◌++◌, codes, inl, inr, refl, string_bytes, true, false}
use Rattle.std.proofs.KnownBytes.{Appends-trans}
use Rattle.capture_files.specs.Datagrams.{carried}
use Rattle.lsr_facts.specs.declared.refusal.Refusal.TheVariants.{Unread}
use Rattle.lsr_text.specs.Answers.{refusal_line}
use Rattle.lsr_decode.specs.Files.{heading_text}
use Rattle.lsr_decode.proofs.FileLaws.{refusal_told, shows_message}
use Rattle.lsr_decode.proofs.files.put_packet.Goals as goal

pub returns-in_ok-write-in-Ok-clause-shown : goal.returns-in_ok-write-in-Ok-clause-shown
returns-in_ok-write-in-Ok-clause-shown g c =
    let block = heading_text c.args.packet.now ++ (string_bytes c.in-Ok.text ++ codes "\n") in (
      block,
      Appends-trans _ _ _ _ _ c.in_ok-put_heading.ensures (search rules),
      shows_message c.args.fields c.args.packet.now (carried c.content.result) c.in-Some.message.now block false c.content.ensures c.in-Some.ensures.message
          (inl (refl, string_bytes c.in-Ok.text, c.in-Ok.ensures.text, refl)),
    )

pub returns-in_ok-write-in-Err-clause-shown : goal.returns-in_ok-write-in-Err-clause-shown
returns-in_ok-write-in-Err-clause-shown g c =
    let block = heading_text c.args.packet.now ++ (refusal_line (Unread c.in-Err.fault) ++ codes "\n") in (
      block,
      Appends-trans _ _ _ _ _ c.in_ok-put_heading.ensures
          (refusal_told (Unread c.in-Err.fault) c.number-kind.result c.refusal_name-name.result.now _ _ c.number-kind.ensures c.refusal_name-name.ensures c.in_ok-write-in-Err.ensures.bytes),
      shows_message c.args.fields c.args.packet.now (carried c.content.result) c.in-Some.message.now block true c.content.ensures c.in-Some.ensures.message
          (inr (refl, c.in-Err.fault, c.in-Err.ensures.fault, refl)),
    )
