-- An LSP that is held, with what is known of it.
use Rattle.std.specs.Prelude.{Option}
use Rattle.std.specs.FinMap.Entries.{find}
use Rattle.std.specs.Option.{option_and_then, option_map}
use Rattle.lsr_facts.specs.Orders.{key_cmp}
use Rattle.lsr_facts.specs.declared.key.Key.{Key}
use Rattle.lsr_facts.specs.declared.path_fact.PathFact.{PathFact}
use Rattle.lsr_facts.specs.declared.resv_fact.ResvFact.{ResvFact}
use Rattle.abstract_router.specs.States.{State}

-- the LSP, with its path and its reservation, if it has both
abbrev pub held_lsp : State → Key → Option (Key × PathFact × ResvFact)
held_lsp s key = option_and_then (λ resv. option_map (λ path. (key, path, resv)) (find key_cmp key s.facts.paths)) (find key_cmp key s.resvs)
