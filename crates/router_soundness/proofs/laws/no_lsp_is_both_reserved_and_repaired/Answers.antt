-- Repairs are apart from reservations in a sound state.
use Rattle.router_soundness.proofs.Entries.{reserved_or_repaired}
use Rattle.router_soundness.proofs.laws.no_lsp_is_both_reserved_and_repaired.Goals as goal

pub returns : goal.returns
returns c = reserved_or_repaired
