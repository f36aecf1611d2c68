-- One more record stands there.
use Rattle.std.proofs.Common.{◌+◌, take}
use Rattle.std.proofs.lemmas.List.{take_more}
use Rattle.config_text.specs.Printing.{link_record}
use Rattle.object_text.proofs.Growing.{rows_push_after}
use Rattle.config_text.proofs.printing.push_links.Goals as goal

pub loop-link-preserved : goal.loop-link-preserved
loop-link-preserved c =
    let links = c.args.links.now in
    let i = c.loop-link.link-index in
    rows_push_after (link_record c.args.sockets.now) c.args.text.now.items c.loop-link.text.items c.push_link_record.new.text.items (take i links) (take (i + 1) links) _ c.loop-link.invariant c.in_ok-push_link_record.ensures (take_more links i _ c.loop-link-test.true)
