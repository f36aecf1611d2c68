-- The records of the links so far, after what there was.
use Rattle.std.proofs.Common.{◌≡◌, ◌++◌, take}
use Rattle.std.specs.List.{flat_map}
use Rattle.config_text.specs.Printing.{link_record}
use Rattle.config_text.proofs.printing.push_links.Given as goal

abbrev pub invariant-loop-link : goal.invariant-loop-link
invariant-loop-link l = l.text.items ≡ l.fn.text.items ++ flat_map (link_record l.sockets) (take l.link-index l.links)
