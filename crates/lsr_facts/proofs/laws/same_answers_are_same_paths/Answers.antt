use Rattle.std.specs.FinMap.Entries.{same_entries}
use Rattle.lsr_facts.specs.Orders.{key_cmp}
use Rattle.lsr_facts.specs.OrderLaws.{key_total, key_exact}
use Rattle.lsr_facts.proofs.laws.same_answers_are_same_paths.Goals as goal

pub returns : goal.returns
returns c = same_entries key_cmp key_total key_exact
