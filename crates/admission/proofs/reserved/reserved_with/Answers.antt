use Rattle.std.proofs.Common.{◌≡◌, [], ◌∷◌, ◌++◌, T, subst, sym, ap, ◌∙◌, arith}
use Rattle.std.specs.FinMap.Entries.{is_sorted, is_sorted-put}
use Rattle.std.specs.List.{filter}
use Rattle.std.proofs.lemmas.List.Elements.{filter-append}
use Rattle.lsr_facts.specs.Orders.{key_cmp}
use Rattle.lsr_facts.specs.OrderLaws.{key_total}
use Rattle.lsr_facts.specs.Admission.{granted}
use Rattle.lsr_facts.specs.Claims.{counts, rate_of_all, reserved_of}
use Rattle.sorted_rows.specs.RowsLaws.{is_sorted-filter}
use Rattle.admission.specs.Sums.{AddsClaims}
use Rattle.admission.proofs.Around.{parts_few, parts_rated}
use Rattle.admission.proofs.Summing.{adds_both}
use Rattle.admission.proofs.reserved.reserved_with.Goals as goal

pub add_counting-requires-clause-rated : goal.add_counting-requires-clause-rated
add_counting-requires-clause-rated c =
    let r = c.args.request.now in
    (parts_rated r.key r.claim c.args.claims.now c.around.result.0.now c.around.result.1.now (c.around.ensures r.claim) c.requires.most c.requires.rated).0

pub add_counting-requires-clause-room : goal.add_counting-requires-clause-room
add_counting-requires-clause-room c =
    let r = c.args.request.now in
    let few = parts_few r.key r.claim c.args.claims.now c.around.result.0.now c.around.result.1.now (c.around.ensures r.claim) in
    let zero = c.new-sum.ensures.zero in
    let most = c.requires.few in
    omega (arith, few, zero, most)

pub add_counting-requires-2-clause-room : goal.add_counting-requires-2-clause-room
add_counting-requires-2-clause-room c =
    let r = c.args.request.now in
    let few = parts_few r.key r.claim c.args.claims.now c.around.result.0.now c.around.result.1.now (c.around.ensures r.claim) in
    let zero = c.new-sum.ensures.zero in
    let most = c.requires.few in
    let before = c.add_counting.ensures.most in
    omega (arith, few, zero, most, before)

pub add_counting-requires-3-clause-rated : goal.add_counting-requires-3-clause-rated
add_counting-requires-3-clause-rated c =
    let r = c.args.request.now in
    (parts_rated r.key r.claim c.args.claims.now c.around.result.0.now c.around.result.1.now (c.around.ensures r.claim) c.requires.most c.requires.rated).1

pub add_counting-requires-3-clause-room : goal.add_counting-requires-3-clause-room
add_counting-requires-3-clause-room c =
    let r = c.args.request.now in
    let few = parts_few r.key r.claim c.args.claims.now c.around.result.0.now c.around.result.1.now (c.around.ensures r.claim) in
    let zero = c.new-sum.ensures.zero in
    let most = c.requires.few in
    let before = c.add_counting.ensures.most in
    let here = c.add_counting-2.ensures.most in
    omega (arith, few, zero, most, before, here)

pub returns : goal.returns
unfolding reserved_of
returns c =
    let r = c.args.request.now in
    let counted = counts r.claim.link c.args.priority in
    let before = c.around.result.0.now in
    let behind = c.around.result.1.now in
    let one = (r.key, r.claim) ∷ [] in
    let all = filter counted before ++ (filter counted one ++ filter counted behind) in
    let is : filter counted (granted r c.args.claims.now) ≡ all =
    ap (filter counted) (c.around.ensures r.claim)
    ∙ filter-append counted before ((r.key, r.claim) ∷ behind)
    ∙ ap (λ rows. filter counted before ++ rows) (filter-append counted one behind) in
    let sorted = is_sorted-filter key_cmp counted (granted r c.args.claims.now) (is_sorted-put key_cmp key_total r.key r.claim c.args.claims.now c.requires.sorted) in
    let added : AddsClaims c.new-sum.result all c.add_counting-3.new.self =
    adds_both c.new-sum.result c.add_counting.new.self c.add_counting-3.new.self (filter counted before) (filter counted one ++ filter counted behind) c.add_counting.ensures.added
    (adds_both c.add_counting.new.self c.add_counting-2.new.self c.add_counting-3.new.self (filter counted one) (filter counted behind) c.add_counting-2.ensures.added c.add_counting-3.ensures.added) in
    let sum = added [] (subst (λ rows. T (is_sorted key_cmp rows)) is sorted) c.new-sum.ensures.none in
    c.total.ensures ∙ sum.total ∙ ap rate_of_all (sym is)
