-- The LSP comes after what is told of it.
use Rattle.std.proofs.Common.{codes, string_bytes}
use Rattle.object_text.proofs.Growing.{grown_on}
use Rattle.lsr_watch.specs.Lsps.{ending_words}
use Rattle.lsr_watch.proofs.lsps.push_tail.Goals as goal

pub returns : goal.returns
returns c =
    grown_on c.push_ending.result (string_bytes c.args.text.now) (string_bytes c.push_str.new.self) (string_bytes c.push_ending.new.text) (codes "path received: ") (ending_words c.args.key.now)
    c.in_ok-push_str.ensures.bytes c.push_ending.ensures
