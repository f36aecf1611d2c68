-- What follows the word comes after it.
use Rattle.std.proofs.Common.{codes, string_bytes}
use Rattle.object_text.proofs.Growing.{grown_on}
use Rattle.lsr_watch.specs.Tunnels.{called_words, configured_words}
use Rattle.lsr_watch.proofs.tunnels.push_configured_words.Goals as goal

pub returns : goal.returns
unfolding configured_words
returns c =
    grown_on c.push_called.result (string_bytes c.args.text.now) (string_bytes c.push_str.new.self) (string_bytes c.push_called.new.text) (codes " configured: ") (called_words c.args.tunnel.now)
    c.in_ok-push_str.ensures.bytes c.push_called.ensures
