use Rattle.std.proofs.Common.{◌≡◌, ◌++◌, drop, take}
use Rattle.rsvp_contents.specs.Behind.{up_to_style}
use Rattle.rsvp_messages.proofs.look.style_end.Given as goal

-- the objects so far stand up to STYLE
abbrev pub invariant-loop-index : goal.invariant-loop-index
invariant-loop-index l = up_to_style l.objects ≡ take l.index l.objects ++ up_to_style (drop l.index l.objects)
