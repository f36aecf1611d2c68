-- What says that the bytes follow, and they.
use Rattle.std.proofs.Common.{string_bytes, codes}
use Rattle.object_text.specs.Words.{digits_word}
use Rattle.object_text.proofs.Growing.{grown_on}
use Rattle.object_text.proofs.values.push_hidden.Goals as goal

pub returns : goal.returns
returns c =
    grown_on c.push_digits.result (string_bytes c.args.text.now) (string_bytes c.push_str.new.self) (string_bytes c.push_digits.new.text)
    (codes " name-bytes") (digits_word c.args.name.now) c.in_ok-push_str.ensures.bytes c.push_digits.ensures
