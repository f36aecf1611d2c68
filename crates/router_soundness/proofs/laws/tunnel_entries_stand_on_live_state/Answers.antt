-- An entry comes of a tunnel, and a reservation stands on its current LSP's path.
use Rattle.router_soundness.proofs.Entries.{tunnel_entry_stands}
use Rattle.router_soundness.proofs.laws.tunnel_entries_stand_on_live_state.Goals as goal

pub returns : goal.returns
returns c = tunnel_entry_stands
