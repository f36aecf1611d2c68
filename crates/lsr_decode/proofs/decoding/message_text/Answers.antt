-- What was read has a header, and after it the objects; and what wasn't is refused.
use Rattle.std.proofs.Common.{rules, subst, string_bytes}
use Rattle.std.proofs.lemmas.Result.{err_from_is_err_and}
use Rattle.lsr_decode.specs.Decoding.{ShowsObjects}
use Rattle.lsr_decode.proofs.Showing.{has_header, refused_for}
use Rattle.lsr_decode.proofs.decoding.message_text.Goals as goal

pub split_at-requires : goal.split_at-requires
split_at-requires c = has_header c.args.bytes.now c.in_ok-reading.ensures.reads.told.1.header

pub returns-in_err-reading-clause-fault : goal.returns-in_err-reading-clause-fault
returns-in_err-reading-clause-fault c =
    let p = err_from_is_err_and c.from_residual.result c.from_residual.ensures.1 in
    rw (p.1, p.2) (refused_for c.args.bytes.now _ c.in_err-reading.ensures.reads.told c.in_err-reading.ensures.header)

pub returns-in-Ok-format-clause-text : goal.returns-in-Ok-format-clause-text
returns-in-Ok-format-clause-text c =
    record {
      reading = c.in_ok-reading.reading;
      spelled = c.in_ok-reading.ensures.reads.told;
      lines = string_bytes c.in-Ok.lines;
      objects = subst (λ rest. ShowsObjects c.args.fields rest (string_bytes c.in-Ok.lines)) c.split_at.ensures.back c.in-Ok.ensures;
      shown = search rules;
    }
