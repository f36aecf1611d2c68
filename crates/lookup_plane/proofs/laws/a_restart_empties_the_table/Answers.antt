use Rattle.std.proofs.Common.{true, []}
use Rattle.lookup_plane.specs.ChangesLaws.{look_added, look_tunnel_added}
use Rattle.lookup_plane.proofs.laws.a_restart_empties_the_table.Goals as goal

pub returns : goal.returns
returns c = record {
  labels = λ changes label. look_added changes (record { cleared = true; labels = []; tunnels = [] }) label;
  tunnels = λ changes number. look_tunnel_added changes (record { cleared = true; labels = []; tunnels = [] }) number;
}
