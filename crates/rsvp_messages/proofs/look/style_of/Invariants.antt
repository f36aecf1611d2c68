use Rattle.std.proofs.Common.{◌≡◌, drop}
use Rattle.rsvp_contents.specs.Values.{picked, as_style}
use Rattle.rsvp_messages.proofs.look.style_of.Given as goal

-- the STYLE is that of the rest
abbrev pub invariant-loop-object : goal.invariant-loop-object
invariant-loop-object l = picked as_style l.objects ≡ picked as_style (drop l.object-index l.objects)
