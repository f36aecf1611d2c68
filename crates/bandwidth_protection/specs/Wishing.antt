-- What LSPs ask for, by their keys.
use Rattle.std.specs.Prelude.{Option}
use Rattle.std.specs.FinMap.Entries.{find}
use Rattle.std.specs.Option.{option_and_then}
use Rattle.lsr_facts.specs.Orders.{key_cmp}
use Rattle.lsr_facts.specs.declared.key.Key.{Key}
use Rattle.lsr_facts.specs.declared.path_fact.PathFact.{PathFact}
use Rattle.lsr_facts.specs.declared.resv_fact.ResvFact.{ResvFact}
use Rattle.lsr_facts.specs.declared.router.Router.{Router}
use Rattle.bypass_shares.specs.declared.wish.Wish.{Wish}
use Rattle.abstract_router.specs.Assigning.{wish_on}
use Rattle.abstract_router.specs.Lsps.{Around, around_of}
use Rattle.abstract_router.specs.States.{State}

-- what an LSP asks for, by its path and its reservation: it has both
abbrev pub wish_by : Around → Key → Option PathFact → Option ResvFact → Option Wish
wish_by a key path resv = option_and_then (λ resv. option_and_then (wish_on a key resv) path) resv

-- what the LSP of a key asks for
abbrev pub wish_at : Router → State → Key → Option Wish
wish_at r s key = wish_by (around_of r s) key (find key_cmp key s.facts.paths) (find key_cmp key s.resvs)
