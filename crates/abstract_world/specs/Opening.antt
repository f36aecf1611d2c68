-- A world as it is opened.
use Rattle.std.specs.Prelude.{List, []}
use Rattle.abstract_router.specs.States.{RouterState}
use Rattle.abstract_world.specs.Worlds.{WorldState}
use Rattle.abstract_world.specs.declared.joint.Joint.{Joint}

-- no frame was sent, and no label given
abbrev pub opened_world : List RouterState → List Joint → WorldState
opened_world routers joints = record { routers = routers; joints = joints; frames = []; given = [] }
