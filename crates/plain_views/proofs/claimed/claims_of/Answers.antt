use Rattle.std.proofs.Common.{T, ◌∙◌, ap, subst, sym}
use Rattle.std.specs.FinMap.Entries.{is_sorted}
use Rattle.lsr_facts.specs.Orders.{key_cmp}
use Rattle.abstract_router.specs.ClaimsLaws.{sorted-claims}
use Rattle.abstract_router.specs.Preempting.{claims_of}
use Rattle.plain_views.proofs.claimed.claims_of.Goals as goal

pub from_rows-requires : goal.from_rows-requires
from_rows-requires c =
    let paths = c.args.paths.now in
    subst (λ rows. T (is_sorted key_cmp rows)) (sym (c.in_ok-claims_of_rows.ensures ∙ ap (claims_of paths) c.as_slice.ensures.rows)) (sorted-claims paths c.args.resvs.now c.as_slice.ensures.sorted)
