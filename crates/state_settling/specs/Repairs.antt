-- The repair that an LSP is to have, by its key (RFC 4090, 6.4).
use Rattle.std.specs.Prelude.{Option}
use Rattle.std.specs.FinMap.Entries.{find}
use Rattle.std.specs.Option.{option_and_then}
use Rattle.lsr_facts.specs.Orders.{key_cmp}
use Rattle.lsr_facts.specs.declared.key.Key.{Key}
use Rattle.lsr_facts.specs.declared.router.Router.{Router}
use Rattle.lsr_facts.specs.declared.repair.Repair.{Repair}
use Rattle.abstract_router.specs.Repairing.{repair_of}
use Rattle.abstract_router.specs.States.{State}

-- the repair of the reservation that the LSP has, if there is to be one
abbrev pub repair_at : Router → State → Key → Option Repair
repair_at r s key = option_and_then (λ resv. repair_of r s (key, resv)) (find key_cmp key s.resvs)
