-- The lines of the links so far, after what there was.
use Rattle.std.proofs.Common.{◌≡◌, ◌++◌, take, string_bytes}
use Rattle.std.specs.List.{flat_map}
use Rattle.lsr_watch.specs.Changes.{link_line}
use Rattle.lsr_watch.proofs.changes.push_links.Given as goal

abbrev pub invariant-loop-link : goal.invariant-loop-link
invariant-loop-link l = string_bytes l.text ≡ string_bytes l.fn.text ++ flat_map (link_line l.before) (take l.link-index l.link-items)
