use Rattle.std.proofs.Common.{◌≡◌, ◌+◌, ◌++◌, ◌∷◌, [], ap, sym, ◌∙◌, arith}
use Rattle.std.specs.List.{range_with_len}
use Rattle.label_space.proofs.Relinked.{all_in_line, range_with_len-more}
use Rattle.label_space.proofs.line.Line.new.Goals as goal

pub loop-place-preserved : goal.loop-place-preserved
loop-place-preserved c =
    let place = c.loop-place.place in
    let behind : place + 1 ≡ 1 + place = omega arith in
    let here : place ≡ 0 + place = omega arith in (
      c.in_ok-push-2.ensures.items ∙ ap (λ xs. xs ++ (place + 1) ∷ []) c.loop-place.invariant.0 ∙ ap (λ x. range_with_len 1 place ++ x ∷ []) behind ∙ sym (range_with_len-more 1 place),
      c.in_ok-push-3.ensures.items ∙ ap (λ xs. xs ++ place ∷ []) c.loop-place.invariant.1 ∙ ap (λ x. c.args.count ∷ (range_with_len 0 place ++ x ∷ [])) here ∙ ap (λ xs. c.args.count ∷ xs) (sym (range_with_len-more 0 place)),
    )

pub invariant_of-result : goal.invariant_of-result
invariant_of-result c =
    let count = c.args.count in
    let all : c.loop-place.place ≡ count = omega arith in
    let next = c.in_ok-push-4.ensures.items ∙ ap (λ xs. xs ++ 0 ∷ []) c.loop-place.invariant.0 ∙ ap (λ n. range_with_len 1 n ++ 0 ∷ []) all in
    let previous = c.loop-place.invariant.1 ∙ ap (λ n. count ∷ range_with_len 0 n) all in
    (all_in_line count _ _ next previous).0

pub returns : goal.returns
returns c =
    let count = c.args.count in
    let all : c.loop-place.place ≡ count = omega arith in
    let next = c.in_ok-push-4.ensures.items ∙ ap (λ xs. xs ++ 0 ∷ []) c.loop-place.invariant.0 ∙ ap (λ n. range_with_len 1 n ++ 0 ∷ []) all in
    let previous = c.loop-place.invariant.1 ∙ ap (λ n. count ∷ range_with_len 0 n) all in
    ap (λ line. record { count = count; line = line }) (all_in_line count _ _ next previous).1
