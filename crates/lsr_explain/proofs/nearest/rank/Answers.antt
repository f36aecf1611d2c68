-- The headings of all kinds are found, and sorted.
use Rattle.std.proofs.Common.{rules, ap, map}
use Rattle.std.proofs.lemmas.List.Sorted.{IsNonDecreasingBy-from_sort_by_key}
use Rattle.lsr_explain.specs.Nearest.{shown}
use Rattle.lsr_explain.specs.declared.nearest.Near.{Near}
use Rattle.lsr_explain.proofs.Nearness.{five}
use Rattle.lsr_explain.proofs.nearest.rank.Goals as goal

pub returns : goal.returns
returns c =
    record {
      found = c.push_kind-5.new.near.items;
      all = five _ _ _ _ _ _ _ _ _ _ _ (ap (map shown) c.new-near.ensures.items) c.in_ok-push_kind.ensures c.in_ok-push_kind-2.ensures c.in_ok-push_kind-3.ensures c.in_ok-push_kind-4.ensures c.in_ok-push_kind-5.ensures;
      same = c.sort_by_key.ensures.permutation;
      sorted = IsNonDecreasingBy-from_sort_by_key (λ (near : Near). near.edits) c.sort_by_key.new.self.items c.in_ok-sort_by_key.ensures.sorted (λ a r q k. search rules);
    }
