use Rattle.std.proofs.Common.{◌∙◌, ap}
use Rattle.lookup_plane.specs.Slots.{padded}
use Rattle.lookup_plane.proofs.Padding.{padded-nothing}
use Rattle.lookup_plane.proofs.tunnel_slots.TunnelSlots.new.Goals as goal

pub returns : goal.returns
returns c = ap (padded 65536) c.in_ok-with_capacity.ensures.items ∙ padded-nothing 65536
