use Rattle.std.proofs.Common.{◌≡◌, ◌≤◌, [], T, nat_le, drop, refl, sym, subst, take, length, ◌∙◌, ap}
use Rattle.std.specs.FinMap.Entries.{is_sorted}
use Rattle.std.proofs.lemmas.Bool.{le-leb, lt-leb}
use Rattle.lsr_facts.specs.Orders.{key_cmp}
use Rattle.lsr_facts.specs.Admission.{granted, is_enough, shortest}
use Rattle.lsr_facts.specs.Claims.{reserved_of}
use Rattle.admission.specs.Bandwidths.{AreRated}
use Rattle.lsr_facts.specs.TurnLaws.{shortest-none}
use Rattle.admission.specs.RoomLaws.{without_none}
use Rattle.admission.proofs.Leaving.{granted_few, granted_next, granted_rated, granted_sorted}
use Rattle.admission.proofs.Turns.{turn_last, turn_next}
use Rattle.admission.proofs.victims.count_needed.Goals as goal
use Rattle.admission.proofs.victims.count_needed.Goals.{In_ok-set}

-- the claims once the request is granted
start : (c : In_ok-set) → c.set.new.rows.items ≡ granted c.args.request.now c.args.claims.now
start c = c.in_ok-set.ensures.ok ∙ ap (granted c.args.request.now) c.in_ok-left.ensures.items

pub loop-count-init : goal.loop-count-init
loop-count-init c =
    let request = c.args.request.now in
    let rows = start ((goal.at.loop-count-init c).In_ok-set) in
    (rows ∙ ap (granted request) (without_none c.args.claims.now), c.requires.total ∙ ap (reserved_of request.claim.link 7) (sym rows), refl {a = shortest (is_enough c.args.limit request c.args.claims.now) [] c.args.keys.now})

pub take_away-reserved-requires-clause-sorted : goal.take_away-reserved-requires-clause-sorted
take_away-reserved-requires-clause-sorted c =
    subst (λ rows. T (is_sorted key_cmp rows)) (sym c.loop-count.invariant.0) (granted_sorted c.args.request.now (take c.loop-count.count c.args.keys.now) c.args.claims.now c.requires.sorted)

pub take_away-reserved-requires-clause-rated : goal.take_away-reserved-requires-clause-rated
take_away-reserved-requires-clause-rated c =
    subst AreRated (sym c.loop-count.invariant.0) (granted_rated c.args.request.now (take c.loop-count.count c.args.keys.now) c.args.claims.now c.requires.most c.requires.rated)

pub take_away-reserved-requires-clause-few : goal.take_away-reserved-requires-clause-few
take_away-reserved-requires-clause-few c =
    subst (λ rows. length rows ≤ 1025) (sym c.loop-count.invariant.0) (granted_few c.args.request.now (take c.loop-count.count c.args.keys.now) c.args.claims.now c.requires.few)

pub returns-then-reserved-limit : goal.returns-then-reserved-limit
unfolding is_enough
returns-then-reserved-limit c =
    let request = c.args.request.now in
    let gone = take c.loop-count.count c.args.keys.now in
    let rate = c.loop-count.invariant.1 ∙ ap (reserved_of request.claim.link 7) c.loop-count.invariant.0 in
    let enough = sym (ap (λ n. nat_le n c.args.limit) rate) ∙ le-leb c.loop-count.reserved c.args.limit c.if-reserved-limit.true in
    sym (shortest-none (is_enough c.args.limit request c.args.claims.now) gone (drop c.loop-count.count c.args.keys.now) enough) ∙ c.loop-count.invariant.2

pub loop-count-preserved : goal.loop-count-preserved
unfolding is_enough
loop-count-preserved c =
    let request = c.args.request.now in
    let claims = c.args.claims.now in
    let keys = c.args.keys.now in
    let i = c.loop-count.count in
    let within = c.loop-count-test.true in
    let rate = c.loop-count.invariant.1 ∙ ap (reserved_of request.claim.link 7) c.loop-count.invariant.0 in
    let enough = sym (ap (λ n. nat_le n c.args.limit) rate) ∙ lt-leb c.loop-count.reserved c.args.limit c.if-reserved-limit.false in
    (granted_next request keys i _ within (c.requires.apart i _ within) claims c.loop-count.left.items c.take_away-reserved.new.left.items c.requires.sorted c.loop-count.invariant.0 c.take_away-reserved.ensures.left, c.take_away-reserved.ensures.total, turn_next keys i within (is_enough c.args.limit request claims) _ enough c.loop-count.invariant.2)

pub returns : goal.returns
returns c = turn_last c.args.keys.now c.loop-count.count c.loop-count-test.false (is_enough c.args.limit c.args.request.now c.args.claims.now) _ c.loop-count.invariant.2
