use Rattle.std.proofs.Common.{◌≡◌, ◌≤◌, ◌^◌, ◌-◌, T, List, arith, drop, length, refl, subst, sym, take, true}
use Rattle.std.specs.FinMap.Entries.{is_sorted}
use Rattle.std.specs.List.{AllByRecursion, filter}
use Rattle.std.proofs.lemmas.List.Sums.{count_by-le-length, length-filter}
use Rattle.sorted_rows.specs.ListLaws.{all-filter, all-filter_passes}
use Rattle.sorted_rows.specs.RowsLaws.{is_sorted-filter}
use Rattle.lsr_facts.specs.Orders.{key_cmp}
use Rattle.lsr_facts.specs.declared.key.Key.{Key}
use Rattle.lsr_facts.specs.Claims.{is_of}
use Rattle.lsr_facts.specs.declared.claim.Claim.{Claim}
use Rattle.admission.specs.Bandwidths.{AreRated}
use Rattle.admission.proofs.Runs.{from_sorted, run_is}
use Rattle.admission.proofs.run.run_from.Goals as goal
use Rattle.admission.proofs.run.run_from.Goals.{After-count_upto-end}

pub count_upto-end-requires : goal.count_upto-end-requires
count_upto-end-requires c =
    let session = c.args.session.now in
    let claims = c.args.claims.now in
    let start = c.args.start in
    from_sorted session claims c.requires.sorted start c.requires.bound c.requires.start _ refl

-- the claims that are handed out are those of the session
run : (c : After-count_upto-end) → take c.count_upto-end.result (take (length c.args.claims.now - c.args.start) (drop c.args.start c.args.claims.now)) ≡ filter (is_of c.args.session.now) c.args.claims.now
run c =
    let session = c.args.session.now in
    let claims = c.args.claims.now in
    let h = c.requires.sorted in
    let start = c.args.start in
    let within = c.requires.bound in
    let from = take (length claims - start) (drop start claims) in
    run_is session claims h start within c.requires.start from refl c.count_upto-end.result c.count_upto-end.ensures.bound c.count_upto-end.ensures.upto

pub returns-clause-run : goal.returns-clause-run
returns-clause-run c = run ((goal.at.returns-clause-run c).After-count_upto-end)

pub returns-clause-sorted : goal.returns-clause-sorted
returns-clause-sorted c =
    subst (λ rows. T (is_sorted key_cmp rows)) (sym (run ((goal.at.returns-clause-sorted c).After-count_upto-end))) (is_sorted-filter key_cmp (is_of c.args.session.now) c.args.claims.now c.requires.sorted)

pub returns-clause-rated : goal.returns-clause-rated
returns-clause-rated c =
    subst AreRated (sym (run ((goal.at.returns-clause-rated c).After-count_upto-end))) (all-filter (λ (row : Key × Claim). row.1.rate ≤ 2 ^ 50) (is_of c.args.session.now) c.args.claims.now c.requires.rated)

pub returns-clause-few : goal.returns-clause-few
returns-clause-few c =
    subst (λ (rows : List (Key × Claim)). length rows ≤ length c.args.claims.now) (sym (run ((goal.at.returns-clause-few c).After-count_upto-end))) (omega (arith, length-filter (is_of c.args.session.now) c.args.claims.now, count_by-le-length (is_of c.args.session.now) c.args.claims.now))

pub returns-clause-own : goal.returns-clause-own
returns-clause-own c =
    let own = λ (row : Key × Claim). is_of c.args.session.now row ≡ true in
    subst (AllByRecursion own) (sym (run ((goal.at.returns-clause-own c).After-count_upto-end))) (all-filter_passes own (is_of c.args.session.now) (λ row passes. passes) c.args.claims.now)
