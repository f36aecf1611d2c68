-- The frame is carried to its router, and comes there.
use Rattle.lab_world.proofs.world.World.deliver.Goals as goal

pub returns-clause-handed : goal.returns-clause-handed
returns-clause-handed c =
    let came = c.in_ok-answer.ensures.comes in
    (came.0, (c.in_ok-place.datagram, c.in_ok-place.ensures.carried, came.1))
