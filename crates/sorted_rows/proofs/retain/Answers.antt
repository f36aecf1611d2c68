use Rattle.std.proofs.Common.{rules}
use Rattle.std.proofs.lemmas.Fn.{filter_same}
use Rattle.sorted_rows.proofs.retain.Goals as goal

pub returns-clause-kept : goal.returns-clause-kept
returns-clause-kept g c =
    λ passes computes. filter_same _ passes _ (λ x b f' k. search (rules, computes)) _ _ c.retain.ensures.filtered

pub returns-clause-picked : goal.returns-clause-picked
returns-clause-picked g c = (c.retain.ensures.filtered.0, c.retain.ensures.filtered.4)
