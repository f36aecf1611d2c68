-- What a moment takes away, of paths by LSP.
use Rattle.std.specs.Prelude.{ℕ, if◌then◌else◌, List, Option, Some, None}
use Rattle.std.specs.FinMap.Entries.{find}
use Rattle.std.specs.Option.{option_map}
use Rattle.lsr_facts.specs.Lifetimes.{expire, lives_on, living}
use Rattle.lsr_facts.specs.Orders.{key_cmp}
use Rattle.lsr_facts.specs.declared.key.Key.{Key}
use Rattle.lsr_facts.specs.declared.path_fact.PathFact.{PathFact}
use Rattle.lsr_facts.specs.Reservations as resvs
use Rattle.label_space.specs.Rests.{resting_past}
use Rattle.abstract_router.specs.States.{State}

-- what a moment leaves of a path: nothing, or the path with the origins that live past it
abbrev pub left_of : ℕ → Key × PathFact → Option PathFact
left_of moment path = if lives_on moment path then Some (living moment path.1) else None

-- what it leaves of an LSP's path, if one is known
abbrev pub left_at : ℕ → List (Key × PathFact) → Key → Option (Option PathFact)
left_at moment paths key = option_map (λ fact. left_of moment (key, fact)) (find key_cmp key paths)

-- and so as an edit
abbrev pub expiry_at : ℕ → List (Key × PathFact) → Key → Option (Key × Option PathFact)
expiry_at moment paths key = option_map (λ left. (key, left)) (left_at moment paths key)

-- what a moment leaves of all that is known: what expires of paths, of reservations and of repairs goes, and labels are free
-- whose rest is over
abbrev pub expired : ℕ → State → State
expired moment s = record s {
  facts = record s.facts { moment = moment; paths = expire moment s.facts.paths };
  resvs = resvs.expire_resvs moment s.resvs;
  repairs = resvs.expire_repairs moment s.repairs;
  resting = resting_past moment s.resting;
}
