-- Which LSPs a ResvTear takes the reservation from, by what its filters name (RFC 2205, 3.1.6).
use Rattle.std.specs.Prelude.{ℕ, ◌==◌, Bool, false, List, filter, map}
use Rattle.std.specs.FinMap.Entries.{find}
use Rattle.std.specs.Option.{option_map_or}
use Rattle.rsvp_contents.specs.declared.messages.ResvTear.{ResvTear}
use Rattle.lsr_facts.specs.Orders.{key_cmp}
use Rattle.lsr_facts.specs.declared.key.Key.{Key}
use Rattle.lsr_facts.specs.declared.resv_fact.ResvFact.{ResvFact}
use Rattle.abstract_paths.specs.Outcomes.{lsp}

-- the LSP is reserved on the link
abbrev pub is_reserved_on : ℕ → List (Key × ResvFact) → Key → Bool
is_reserved_on link resvs key = option_map_or (λ resv. resv.link == link) (find key_cmp key resvs) false

-- the LSPs that the filters name, of which each is reserved on the link
abbrev pub torn_keys : ℕ → ResvTear → List (Key × ResvFact) → List Key
torn_keys link t resvs = filter (is_reserved_on link resvs) (map (lsp t.session) t.filters)
