-- An entry comes of a path, and a reservation stands on it.
use Rattle.router_soundness.proofs.Entries.{entry_stands}
use Rattle.router_soundness.proofs.laws.entries_stand_on_live_state.Goals as goal

pub returns : goal.returns
returns c = entry_stands
