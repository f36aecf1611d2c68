use Rattle.lookup_plane.proofs.Turns.{admits}
use Rattle.lookup_plane.proofs.plane.Plane.readers.Goals as goal

pub reader-requires : goal.reader-requires
reader-requires g c = admits
