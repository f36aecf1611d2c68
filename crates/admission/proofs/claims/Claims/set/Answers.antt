use Rattle.std.proofs.Common.{◌≡◌, ◌≤◌, ◌^◌, Some, length, ap, subst, sym, ◌∙◌, rules}
use Rattle.std.specs.FinMap.Entries.{put}
use Rattle.sorted_rows.specs.RowsLaws.{all-put, put-found}
use Rattle.lsr_facts.specs.Orders.{key_cmp}
use Rattle.lsr_facts.specs.OrderLaws.{key_total}
use Rattle.lsr_facts.specs.declared.claim.Claim.{Claim}
use Rattle.admission.specs.Bandwidths.{AreRated}
use Rattle.admission.specs.Running.{AreSums}
use Rattle.admission.proofs.Claiming.{put_keeps}
use Rattle.admission.proofs.Moving.{find_mine, mine}
use Rattle.admission.proofs.claims.Claims.set.Goals as goal

pub returns-then-takes : goal.returns-then-takes
returns-then-takes c =
    let key = c.args.key in
    let claim = c.args.claim in
    let same : c.copied-was.result ≡ Some claim = search rules in
    let own = c.run_from-run.ensures.run ∙ ap (mine key.session) c.as_slice-2.ensures.rows in
    let found = find_mine key c.self.inside.rows c.run_from-run.result.now own ∙ sym c.get_ref.ensures.found ∙ sym c.copied-was.ensures ∙ same in
    subst (λ rows. rows ≡ put key_cmp key claim rows) c.self.view_is (sym (put-found key_cmp key_total key claim c.self.inside.rows c.as_slice.ensures.sorted found))

pub run_of-requires-clause-rated : goal.run_of-requires-clause-rated
run_of-requires-clause-rated c =
    subst AreRated (sym (c.as_slice-3.ensures.rows ∙ c.set.ensures)) (all-put key_cmp (λ (one : Claim). one.rate ≤ 2 ^ 50) c.args.key c.args.claim c.requires.most c.self.inside.rows c.self.invariant.0)

pub invariant_of-self : goal.invariant_of-self
invariant_of-self c =
    let key = c.args.key in
    let claim = c.args.claim in
    let rows = c.self.inside.rows in
    let was = c.copied-was.result in
    let touched = c.by-touched.result in
    let own = c.run_from-run.ensures.run ∙ ap (mine key.session) c.as_slice-2.ensures.rows in
    let found = find_mine key rows c.run_from-run.result.now own ∙ sym c.get_ref.ensures.found ∙ sym c.copied-was.ensures in
    let is = c.run_of.ensures.run ∙ ap (mine key.session) (c.as_slice-3.ensures.rows ∙ c.set.ensures) in
    let now = c.add.new.sums.items in
    let room = subst (λ held. length (put key_cmp key claim held) ≤ 1024) (sym c.self.view_is) c.requires.room in
    subst (λ left. AreRated left × AreSums left now) (sym c.set.ensures)
    (put_keeps key rows c.as_slice.ensures.sorted touched c.self.inside.sums.items c.take_off.new.sums.items now c.run_from-run.result.now c.run_of.result.now own c.self.invariant.1 c.take_off.ensures c.add.ensures claim was is found c.by-touched.ensures.before c.by-touched.ensures.after c.requires.most c.self.invariant.0 room)
