-- LSPs of which nothing changes that bears on what is promised.
use Rattle.std.specs.Prelude.{◌≡◌, ◌&&◌, not, Bool, true, false, is_none, is_some}
use Rattle.std.specs.FinMap.Entries.{find}
use Rattle.std.specs.Option.{option_map_or}
use Rattle.lsr_facts.specs.Orders.{key_cmp}
use Rattle.lsr_facts.specs.declared.key.Key.{Key}
use Rattle.abstract_router.specs.Assigning.{is_in_use, wants_bandwidth}
use Rattle.abstract_router.specs.Lsps.{Around}
use Rattle.abstract_router.specs.States.{State}
use Rattle.bandwidth_protection.specs.Wishing.{wish_by}

-- a path is known of the LSP whose head wants its bandwidth protected
abbrev pub is_wanted : State → Key → Bool
is_wanted s key = option_map_or wants_bandwidth (find key_cmp key s.facts.paths) false

-- it is reserved, too: so it asks for bandwidth
abbrev pub is_asking : State → Key → Bool
is_asking s key = is_wanted s key && is_some (find key_cmp key s.resvs)

-- it asks for nothing before and after, and was promised nothing
abbrev pub is_unconcerned : State → State → Key → Bool
is_unconcerned s t key = not (is_asking t key) && (not (is_asking s key) && is_none (find key_cmp key s.assignments))

-- The LSP asks for the same before and after, where all LSPs share the same, and uses what it was promised before and after, or
-- neither.
pub record IsAtRest (s t : State) (key : Key) : Type 0 where
  pub asks : (a : Around) → wish_by a key (find key_cmp key s.facts.paths) (find key_cmp key s.resvs) ≡ wish_by a key (find key_cmp key t.facts.paths) (find key_cmp key t.resvs)
  pub uses : is_some (find key_cmp key s.assignments) ≡ true → is_in_use s key ≡ is_in_use t key
