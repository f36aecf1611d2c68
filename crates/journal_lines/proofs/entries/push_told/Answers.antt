use Rattle.std.proofs.Common.{string_bytes}
use Rattle.std.proofs.lemmas.Result.{on_ok_weaker}
use Rattle.journal_lines.proofs.Entering.{nearly}
use Rattle.journal_lines.proofs.entries.push_told.Goals as goal

pub returns : goal.returns
returns c =
    on_ok_weaker c.push_words-2.result (λ words. nearly c.args.router.now c.args.bytes.now (string_bytes c.in_ok-digits.digits) (string_bytes c.args.text.now) (string_bytes c.write.new.self) (string_bytes c.push_words-2.new.text)
    c.args.event.now c.in_ok-tells_event.field-0 c.in_ok-tells_event.ensures c.if-branch.false c.in_ok-digits.ensures c.in_ok-write.ensures.bytes words) c.push_words-2.ensures
