use Rattle.std.proofs.Common.{◌≡◌, ℕ, ◌+◌, ◌-◌, ◌<◌, ◌≤◌, ◌^◌, T, List, not, length, refl, arith, ap, subst, sym, ◌∙◌}
use Rattle.std.specs.FinMap.Entries.{is_sorted, is_sorted-where_key, where_key}
use Rattle.std.specs.Ordering.{is_eq}
use Rattle.std.proofs.lemmas.List.Sums.{count_by-le-length, length-filter}
use Rattle.sorted_rows.specs.ListLaws.{all-filter}
use Rattle.lsr_facts.specs.Orders.{key_cmp}
use Rattle.lsr_facts.specs.declared.key.Key.{Key}
use Rattle.lsr_facts.specs.Claims.{reserved_of}
use Rattle.lsr_facts.specs.declared.claim.Claim.{Claim}
use Rattle.admission.specs.Bandwidths.{AreRated}
use Rattle.admission.proofs.Claiming.{exchanged}
use Rattle.admission.proofs.Moving.{mine, others_removed}
use Rattle.admission.proofs.victims.take_away.Goals as goal
use Rattle.admission.proofs.victims.take_away.Goals.{After-own_part}

-- the claims that are left
abbrev left_rows : After-own_part → List (Key × Claim)
left_rows c = where_key key_cmp (λ other. not (is_eq (key_cmp c.args.key.now other))) c.args.left.now.items

-- are in order, with their rates in range, and not more
sorted : (c : After-own_part) → T (is_sorted key_cmp (left_rows c))
sorted c = is_sorted-where_key key_cmp (λ other. not (is_eq (key_cmp c.args.key.now other))) c.args.left.now.items c.requires.sorted

rated : (c : After-own_part) → AreRated (left_rows c)
rated c = all-filter (λ (row : Key × Claim). row.1.rate ≤ 2 ^ 50) (λ (row : Key × Claim). not (is_eq (key_cmp c.args.key.now row.0))) c.args.left.now.items c.requires.rated

few : (c : After-own_part) → length (left_rows c) ≤ 1025
few c =
    let stays = λ (row : Key × Claim). not (is_eq (key_cmp c.args.key.now row.0)) in
    let before = c.requires.few in
    omega (arith, before, length-filter stays c.args.left.now.items, count_by-le-length stays c.args.left.now.items)

-- what is reserved of them, from what was and from what the session takes now
changed : (c : After-own_part) (more : ℕ) → more ≡ reserved_of c.args.link 7 (mine c.args.key.now.session (left_rows c)) → (c.own_part.result ≤ c.args.total) × ((c.args.total - c.own_part.result) + more ≡ reserved_of c.args.link 7 (left_rows c)) × ((c.args.total - c.own_part.result) + more < 2 ^ 64)
changed c more is =
    let key = c.args.key.now in
    let rows = c.args.left.now.items in
    let own = c.own_part.ensures ∙ ap (λ held. reserved_of c.args.link 7 (mine key.session held)) c.deref-2.ensures.value in
    exchanged c.args.link 7 key.session rows (left_rows c) c.requires.sorted (sorted c) (others_removed key rows) (rated c) (few c) c.args.total c.own_part.result more c.requires.total own is

pub overflow_sub-others : goal.overflow_sub-others
overflow_sub-others c = (changed ((goal.at.overflow_sub-others c).After-own_part) _ refl).0

pub own_part-requires-2-clause-sorted : goal.own_part-requires-2-clause-sorted
own_part-requires-2-clause-sorted c =
    subst (λ rows. T (is_sorted key_cmp rows)) (sym (c.deref-3.ensures.value ∙ c.remove.ensures.removed)) (sorted ((goal.at.own_part-requires-2-clause-sorted c).After-own_part))

pub own_part-requires-2-clause-rated : goal.own_part-requires-2-clause-rated
own_part-requires-2-clause-rated c =
    subst AreRated (sym (c.deref-3.ensures.value ∙ c.remove.ensures.removed)) (rated ((goal.at.own_part-requires-2-clause-rated c).After-own_part))

pub own_part-requires-2-clause-few : goal.own_part-requires-2-clause-few
own_part-requires-2-clause-few c =
    subst (λ (rows : List (Key × Claim)). length rows ≤ 1025) (sym (c.deref-3.ensures.value ∙ c.remove.ensures.removed)) (few ((goal.at.own_part-requires-2-clause-few c).After-own_part))

pub overflow_add-result : goal.overflow_add-result
overflow_add-result c =
    let key = c.args.key.now in
    let left = c.deref-3.ensures.value ∙ c.remove.ensures.removed in
    let more = c.own_part-2.ensures ∙ ap (λ held. reserved_of c.args.link 7 (mine key.session held)) left in
    let fits = (changed ((goal.at.overflow_add-result c).After-own_part) c.own_part-2.result more).2 in
    omega (arith, fits)

pub returns-clause-total : goal.returns-clause-total
returns-clause-total c =
    let key = c.args.key.now in
    let left = c.deref-3.ensures.value ∙ c.remove.ensures.removed in
    let more = c.own_part-2.ensures ∙ ap (λ held. reserved_of c.args.link 7 (mine key.session held)) left in
    (changed ((goal.at.returns-clause-total c).After-own_part) c.own_part-2.result more).1 ∙ ap (reserved_of c.args.link 7) (sym c.remove.ensures.removed)
