-- What is told of the LSP comes after it.
use Rattle.std.proofs.Common.{◌++◌, codes, string_bytes}
use Rattle.object_text.proofs.Growing.{grown_on}
use Rattle.lsr_text.specs.Shown.{key_text}
use Rattle.lsr_watch.specs.Lsps.{ending_words}
use Rattle.lsr_watch.proofs.Walks.{grown_where_ok}
use Rattle.lsr_watch.proofs.lsps.push_ending.Goals as goal

pub returns : goal.returns
unfolding ending_words
returns c =
    grown_on c.push_str.result (string_bytes c.args.text.now) (string_bytes c.push_key.new.text) (string_bytes c.push_str.new.self) (key_text c.args.key.now) (codes " (egress here)\n")
    c.in_ok-push_key.ensures
    (grown_where_ok c.push_str.result (string_bytes c.push_str.new.self) (string_bytes c.push_key.new.text ++ codes " (egress here)\n") (string_bytes c.push_key.new.text) c.push_str.ensures.bytes)
