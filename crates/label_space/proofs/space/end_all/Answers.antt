use Rattle.std.proofs.Common.{◌≡◌, ◌+◌, ◌++◌, ◌<◌, ℕ, List, ap, arith, drop, get_or, length, map, min, set, take, ◌∙◌}
use Rattle.std.proofs.lemmas.List.{get_or_default}
use Rattle.std.proofs.lemmas.List.Edits.{map_over_more}
use Rattle.label_space.proofs.space.end_all.Goals as goal

map_next : (f : ℕ → ℕ) (xs ys : List ℕ) (i v : ℕ) → i < length xs → i < length ys → ys ≡ map f (take i xs) ++ drop i xs → v ≡ f (get_or ys i 0) → set ys i v ≡ map f (take (i + 1) xs) ++ drop (i + 1) xs
map_next f xs ys i v within inside so_far is =
    ap (set ys i) is ∙ map_over_more f xs ys i (get_or ys i 0) within so_far (get_or_default ys i 0 (get_or ys i 0) inside)

pub loop-until-preserved : goal.loop-until-preserved
loop-until-preserved c =
    let before = c.args.untils.now.items in
    let untils = c.loop-until.until-items in
    let at = c.loop-until.until-index in
    let within : at < length before = omega arith in
    let inside : at < length untils = omega arith in
    map_next (λ until. min until c.args.moment) before untils at c.min.result within inside c.loop-until.invariant c.min.ensures
