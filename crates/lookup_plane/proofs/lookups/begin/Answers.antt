use Rattle.lookup_plane.proofs.Turns.{looks}
use Rattle.lookup_plane.proofs.lookups.begin.Goals as goal

pub enter_as-requires : goal.enter_as-requires
enter_as-requires c = looks _ _
