use Rattle.std.proofs.Common.{◌≡◌, drop}
use Rattle.capture_files.specs.Links.{after_tags}
use Rattle.capture_files.proofs.link.after_tags.Given as goal

-- tags so far were passed over
abbrev pub invariant-loop-left : goal.invariant-loop-left
invariant-loop-left l = after_tags l.left l.rest ≡ after_tags 8 (drop l.start l.bytes)

abbrev pub decreases-loop-left : goal.decreases-loop-left
decreases-loop-left l = l.left
