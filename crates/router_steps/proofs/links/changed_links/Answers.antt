use Rattle.std.proofs.Common.{◌≡◌, Some, rules, sym}
use Rattle.std.proofs.lemmas.Cmp.{nat_cmp_total}
use Rattle.std.specs.FinMap.Entries.{find}
use Rattle.std.specs.Ordering.{nat_cmp}
use Rattle.sorted_rows.specs.RowsLaws.{put-found}
use Rattle.router_steps.proofs.links.changed_links.Goals as goal

-- A link that is as it was told to be already is found so.
pub returns-then-eq : goal.returns-then-eq
returns-then-eq c =
    let found : find nat_cmp c.args.number c.args.up.now ≡ Some c.args.is_up = search rules in
    sym (put-found nat_cmp nat_cmp_total c.args.number c.args.is_up c.args.up.now c.as_slice.ensures.sorted found)
