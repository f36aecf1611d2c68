use Rattle.std.proofs.Common.{drop}
use Rattle.lookup_plane.proofs.plane.Plane.publish.Given as goal

-- all that is pending is published at once
abbrev pub ghosts-publish_by : goal.ghosts-publish_by
ghosts-publish_by g a = record { changes = drop a.writer.behind a.writer.log.items }
