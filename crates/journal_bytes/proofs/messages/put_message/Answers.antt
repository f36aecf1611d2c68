-- A message has at most 4,096 bytes.
use Rattle.std.proofs.Common.{◌≡◌, ◌++◌, ℕ, List, ap, ◌∙◌}
use Rattle.rsvp_contents.specs.Written.{message_bytes}
use Rattle.journal_bytes.proofs.Lengths.{message_countable}
use Rattle.journal_bytes.proofs.messages.put_message.Goals as goal

pub put_counted-requires : goal.put_counted-requires
put_counted-requires c =
    let message : List ℕ = message_bytes c.args.message.now in
    let same : c.as_slice.result.now ≡ message = c.as_slice.ensures.value ∙ (c.in_ok-write_message.ensures.ok ∙ ap (λ (old : List ℕ). old ++ message) c.in_ok-bytes.ensures.items) in
    message_countable c.as_slice.result.now message _ same c.in_ok-write_message.ensures.again
