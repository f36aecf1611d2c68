use Rattle.std.proofs.Common.{false}
use Rattle.lookup_plane.specs.ChangesLaws.{look_added, look_tunnel_added}
use Rattle.lookup_plane.proofs.laws.a_change_decides_its_rows.Goals as goal

pub returns : goal.returns
returns c = record {
  labels = λ changes rows others label. look_added changes (record { cleared = false; labels = rows; tunnels = others }) label;
  tunnels = λ changes rows others number. look_tunnel_added changes (record { cleared = false; labels = others; tunnels = rows }) number;
}
