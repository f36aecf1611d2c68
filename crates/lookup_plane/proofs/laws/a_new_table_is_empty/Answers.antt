use Rattle.lookup_plane.specs.ChangesLaws.{look_none, look_tunnel_none}
use Rattle.lookup_plane.proofs.laws.a_new_table_is_empty.Goals as goal

pub returns : goal.returns
returns c = record { labels = look_none; tunnels = look_tunnel_none }
