-- The LSP comes after what is told of it.
use Rattle.std.proofs.Common.{codes, string_bytes}
use Rattle.object_text.proofs.Growing.{grown_on}
use Rattle.lsr_watch.specs.Lsps.{way_words}
use Rattle.lsr_watch.proofs.lsps.push_back.Goals as goal

pub returns : goal.returns
returns c =
    grown_on c.push_way.result (string_bytes c.args.text.now) (string_bytes c.push_str.new.self) (string_bytes c.push_way.new.text) (codes "lsp restored to its own path: ") (way_words c.args.row.now)
    c.in_ok-push_str.ensures.bytes c.push_way.ensures
