use Rattle.std.proofs.Common.{◌≡◌, ◌≤◌, ◌^◌, is_some, length, ap, arith, subst, sym, ◌∙◌}
use Rattle.std.specs.FinMap.Entries.{find}
use Rattle.std.proofs.lemmas.List.{map-id}
use Rattle.sorted_rows.specs.ListLaws.{all-filter}
use Rattle.lsr_facts.specs.Orders.{key_cmp}
use Rattle.lsr_facts.specs.declared.key.Key.{Key}
use Rattle.lsr_facts.specs.declared.claim.Claim.{Claim}
use Rattle.admission.specs.Bandwidths.{AreRated, claims_of}
use Rattle.admission.specs.Running.{AreSums}
use Rattle.admission.proofs.Claiming.{filter-full}
use Rattle.admission.proofs.Keeping.{sums_anew}
use Rattle.admission.proofs.claims.Claims.keep_reserving.Goals as goal
use Rattle.admission.proofs.claims.Claims.keep_reserving.Goals.{After-sweep}

-- the claims that are left
left : (c : After-sweep) → c.sweep.new.self ≡ claims_of c.args.resvs.now c.self.inside.rows
left c = c.sweep.ensures ∙ map-id (claims_of c.args.resvs.now c.self.inside.rows)

-- have their rates in range
rated : (c : After-sweep) → AreRated c.sweep.new.self
rated c =
    subst AreRated (sym (left c)) (all-filter (λ (row : Key × Claim). row.1.rate ≤ 2 ^ 50) (λ (row : Key × Claim). is_some (find key_cmp row.0 c.args.resvs.now)) c.self.inside.rows c.self.invariant.0)

pub add_up-requires-clause-rated : goal.add_up-requires-clause-rated
add_up-requires-clause-rated c = subst AreRated (sym c.as_slice.ensures.rows) (rated ((goal.at.add_up-requires-clause-rated c).After-sweep))

pub invariant_of-self : goal.invariant_of-self
invariant_of-self c =
    let sums = c.add_up.new.sums.items in
    (rated ((goal.at.invariant_of-self c).After-sweep), subst (λ rows. AreSums rows sums) c.as_slice.ensures.rows (sums_anew c.as_slice.result.now c.self.inside.sums.items sums c.add_up.ensures))

pub invariant_of-self-else-len-count : goal.invariant_of-self-else-len-count
invariant_of-self-else-len-count c =
    let at = (goal.at.invariant_of-self-else-len-count c).After-sweep in
    let rows = c.self.inside.rows in
    let is = left at in
    let all : length rows ≤ length (claims_of c.args.resvs.now rows) = omega (arith, c.if-len-count.false, c.len.ensures, c.len-count.ensures, ap length is) in
    let full = is ∙ filter-full (λ (row : Key × Claim). is_some (find key_cmp row.0 c.args.resvs.now)) rows all in
    (rated at, subst (λ kept. AreSums kept c.self.inside.sums.items) (sym full) c.self.invariant.1)

pub returns-then-len-count : goal.returns-then-len-count
returns-then-len-count c = left ((goal.at.returns-then-len-count c).After-sweep) ∙ ap (claims_of c.args.resvs.now) c.self.view_is

pub returns-else-len-count : goal.returns-else-len-count
returns-else-len-count c = left ((goal.at.returns-else-len-count c).After-sweep) ∙ ap (claims_of c.args.resvs.now) c.self.view_is
