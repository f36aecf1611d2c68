-- What was read is UTF-8 exactly where it is a `String`.
use Rattle.std.proofs.Common.{rules}
use Rattle.std.proofs.lemmas.Str.{IsUtf8-had}
use Rattle.line_streams.proofs.input.read_text.Goals as goal

pub returns-in-Ok-clause-text : goal.returns-in-Ok-clause-text
returns-in-Ok-clause-text g c = record { known = search rules; taken = record { utf8 = IsUtf8-had _ c.in-Ok.text.ok; short = search rules } }
