-- Which repairs a message is for.
use Rattle.std.specs.Prelude.{◌&&◌, Bool, true, Option}
use Rattle.std.specs.Option.{option_map_or}
use Rattle.std.specs.declared.net.ipv4_addr.Ipv4Addr.{Ipv4Addr}
use Rattle.lsr_facts.specs.declared.key.Key.{Key}
use Rattle.lsr_facts.specs.declared.router.Router.{Router}
use Rattle.lsr_facts.specs.declared.repair.Repair.{Repair}
use Rattle.abstract_router.specs.Returning.{ends_at, is_known_as}
use Rattle.abstract_router.specs.States.{State}

-- the repair is of the LSP that the message names, and of a bypass that ends at the router that sent it, if it says which
abbrev pub is_for : Router → State → Option Ipv4Addr → Key → Key × Repair → Bool
is_for r s hop key repair = is_known_as r key repair && option_map_or (λ address. ends_at r s address repair) hop true
