use Rattle.std.proofs.Common.{◌≡◌, ℕ, ◌+◌, ◌-◌, ◌<◌, ◌≤◌, ◌^◌, length, refl, arith, ap, sym, ◌∙◌}
use Rattle.std.specs.FinMap.Entries.{is_sorted-put}
use Rattle.sorted_rows.specs.RowsLaws.{all-put, length-put-le}
use Rattle.lsr_facts.specs.Orders.{key_cmp}
use Rattle.lsr_facts.specs.OrderLaws.{key_total}
use Rattle.lsr_facts.specs.Admission.{granted}
use Rattle.lsr_facts.specs.Claims.{reserved_of}
use Rattle.lsr_facts.specs.declared.claim.Claim.{Claim}
use Rattle.admission.proofs.Claiming.{exchanged}
use Rattle.admission.proofs.Moving.{mine, mine_granted, others_put}
use Rattle.admission.proofs.claims.Claims.reserved_with.Goals as goal
use Rattle.admission.proofs.claims.Claims.reserved_with.Goals.{After-part_of}

-- what is reserved with the request granted, from what is reserved and from what its session takes then
changed : (c : After-part_of) (more : ℕ) → more ≡ reserved_of c.args.request.now.claim.link c.args.priority (mine c.args.request.now.key.session (granted c.args.request.now c.self.inside.rows)) → (c.part_of.result ≤ c.reserved.result) × ((c.reserved.result - c.part_of.result) + more ≡ reserved_of c.args.request.now.claim.link c.args.priority (granted c.args.request.now c.self.inside.rows)) × ((c.reserved.result - c.part_of.result) + more < 2 ^ 64)
changed c more is =
    let request = c.args.request.now in
    let link = request.claim.link in
    let p = c.args.priority in
    let rows = c.self.inside.rows in
    let h = c.as_slice.ensures.sorted in
    let few = c.as_slice.ensures.few in
    let sorted = is_sorted-put key_cmp key_total request.key request.claim rows h in
    let rated = all-put key_cmp (λ (one : Claim). one.rate ≤ 2 ^ 50) request.key request.claim c.requires rows c.self.invariant.0 in
    let room : length (granted request rows) ≤ 1025 = omega (arith, few, length-put-le key_cmp request.key request.claim rows) in
    let all = c.reserved.ensures ∙ ap (reserved_of link p) (sym c.self.view_is) in
    let own = c.part_of.ensures ∙ ap (reserved_of link p) (c.run_of-run.ensures.run ∙ ap (mine request.key.session) c.as_slice.ensures.rows) in
    exchanged link p request.key.session rows (granted request rows) h sorted (others_put request.key request.claim rows) rated room c.reserved.result c.part_of.result more all own is

pub overflow_sub-others : goal.overflow_sub-others
overflow_sub-others c = (changed ((goal.at.overflow_sub-others c).After-part_of) _ refl).0

pub overflow_add-result : goal.overflow_add-result
overflow_add-result c =
    let request = c.args.request.now in
    let run = c.run_of-run.ensures.run ∙ ap (mine request.key.session) c.as_slice.ensures.rows in
    let more = c.reserved_with.ensures ∙ ap (λ rows. reserved_of request.claim.link c.args.priority (granted request rows)) run ∙ ap (reserved_of request.claim.link c.args.priority) (sym (mine_granted request c.self.inside.rows c.as_slice.ensures.sorted)) in
    let fits = (changed ((goal.at.overflow_add-result c).After-part_of) c.reserved_with.result more).2 in
    omega (arith, fits)

pub returns : goal.returns
returns c =
    let request = c.args.request.now in
    let run = c.run_of-run.ensures.run ∙ ap (mine request.key.session) c.as_slice.ensures.rows in
    let more = c.reserved_with.ensures ∙ ap (λ rows. reserved_of request.claim.link c.args.priority (granted request rows)) run ∙ ap (reserved_of request.claim.link c.args.priority) (sym (mine_granted request c.self.inside.rows c.as_slice.ensures.sorted)) in
    (changed ((goal.at.returns c).After-part_of) c.reserved_with.result more).1
    ∙ ap (λ rows. reserved_of request.claim.link c.args.priority (granted request rows)) c.self.view_is
