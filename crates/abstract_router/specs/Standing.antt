-- When a reservation stands.
use Rattle.std.specs.Prelude.{◌&&◌, Bool, false}
use Rattle.std.specs.FinMap.Entries.{find}
use Rattle.std.specs.Option.{option_map_or}
use Rattle.lsr_facts.specs.Orders.{key_cmp}
use Rattle.lsr_facts.specs.declared.facts.Facts.{Facts}
use Rattle.lsr_facts.specs.declared.key.Key.{Key}
use Rattle.lsr_facts.specs.declared.resv_fact.ResvFact.{ResvFact}
use Rattle.abstract_paths.specs.Places.{is_up}
use Rattle.abstract_paths.specs.Tears.{leaves_by}

-- A reservation stands on its path: on the link that this leaves by, which is up.
abbrev pub stands : Facts → Key × ResvFact → Bool
stands facts resv = is_up facts.up resv.1.link && option_map_or (leaves_by resv.1.link) (find key_cmp resv.0 facts.paths) false
