-- A world as it is opened is sound, and true where it is closed.
use Rattle.std.proofs.Common.{rules, subst, sym}
use Rattle.abstract_world.specs.Wires.{AreJoined}
use Rattle.abstract_world.specs.Worlds.{routers_in}
use Rattle.lab_world.specs.Invariant.{IsSoundWorld}
use Rattle.lab_world.proofs.Keeping.{sound_opened}
use Rattle.lab_world.proofs.world.World.new.Goals as goal

pub invariant_of-result : goal.invariant_of-result
invariant_of-result c =
    let routers = c.in_ok-routers.routers.items in
    let joints = c.args.joints.now in
    let joined : AreJoined (routers_in routers) joints = search rules in
    subst IsSoundWorld (λ i. record { routers = routers; joints = sym c.in_ok-copy_of.ensures i; frames = sym c.new.ensures.items i; given = sym c.new-2.ensures.items i })
    (sound_opened c.args.configs.items routers joints c.in_ok-routers.ensures.opened c.in_ok-routers.ensures.sound joined)
