use Rattle.std.proofs.Common.{◌≡◌, ◌≤◌, ◌^◌, not, refl, ap, subst, sym, ◌∙◌}
use Rattle.std.specs.FinMap.Entries.{where_key}
use Rattle.std.specs.Ordering.{is_eq}
use Rattle.sorted_rows.specs.ListLaws.{all-filter}
use Rattle.sorted_rows.specs.RowsLaws.{where_key-absent}
use Rattle.lsr_facts.specs.Orders.{key_cmp}
use Rattle.lsr_facts.specs.declared.key.Key.{Key}
use Rattle.lsr_facts.specs.declared.claim.Claim.{Claim}
use Rattle.admission.specs.Bandwidths.{AreRated}
use Rattle.admission.specs.Running.{AreSums}
use Rattle.admission.specs.declared.running.Touched.{Touched}
use Rattle.admission.proofs.Claiming.{removal_keeps}
use Rattle.admission.proofs.Moving.{find_mine, mine}
use Rattle.admission.proofs.claims.Claims.remove.Goals as goal

pub returns-in_default : goal.returns-in_default
returns-in_default c =
    let key = c.args.key.now in
    let own = c.run_from-run.ensures.run ∙ ap (mine key.session) c.as_slice-2.ensures.rows in
    let absent = find_mine key c.self.inside.rows c.run_from-run.result.now own ∙ sym c.get_ref.ensures.found ∙ sym c.copied.ensures ∙ c.in_default.is in
    subst (λ rows. rows ≡ where_key key_cmp (λ k. not (is_eq (key_cmp key k))) rows) c.self.view_is (sym (where_key-absent key_cmp key c.self.inside.rows absent))

pub run_of-requires-clause-rated : goal.run_of-requires-clause-rated
run_of-requires-clause-rated c =
    subst AreRated (sym (c.as_slice-3.ensures.rows ∙ c.remove.ensures)) (all-filter (λ (row : Key × Claim). row.1.rate ≤ 2 ^ 50) (λ (row : Key × Claim). not (is_eq (key_cmp c.args.key.now row.0))) c.self.inside.rows c.self.invariant.0)

pub invariant_of-self : goal.invariant_of-self
invariant_of-self c =
    let key = c.args.key.now in
    let rows = c.self.inside.rows in
    let was = c.in-Some.was in
    let touched : Touched = record { before = was.link; after = was.link } in
    let own = c.run_from-run.ensures.run ∙ ap (mine key.session) c.as_slice-2.ensures.rows in
    let found = find_mine key rows c.run_from-run.result.now own ∙ sym c.get_ref.ensures.found ∙ sym c.copied.ensures ∙ c.in-Some.is in
    let is = c.run_of.ensures.run ∙ ap (mine key.session) (c.as_slice-3.ensures.rows ∙ c.remove.ensures) in
    let now = c.add.new.sums.items in
    subst (λ left. AreRated left × AreSums left now) (sym c.remove.ensures)
    (removal_keeps key rows c.as_slice.ensures.sorted touched c.self.inside.sums.items c.take_off.new.sums.items now c.run_from-run.result.now c.run_of.result.now own c.self.invariant.1 c.take_off.ensures c.add.ensures was is found refl c.self.invariant.0 c.as_slice.ensures.few)
