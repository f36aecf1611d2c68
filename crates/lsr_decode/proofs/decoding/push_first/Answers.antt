-- The first object and what stands after it are the bytes.
use Rattle.std.proofs.Common.{ap, sym, ◌∙◌, ◌++◌, ℕ, List, take}
use Rattle.std.proofs.lemmas.List.{take-append-drop}
use Rattle.lsr_decode.proofs.decoding.push_first.Goals as goal

pub returns-in-Ok-clause-found : goal.returns-in-Ok-clause-found
returns-in-Ok-clause-found c =
    let lines = c.in-Ok.ensures.lines in
    let rest = c.split_at.result.1.now in
    let first : List ℕ = take c.in_ok-object.len c.args.bytes.now in
    let front = sym c.split_at.ensures.front ∙ lines.1 in
    let whole = sym (take-append-drop c.in_ok-object.len c.args.bytes.now) ∙ ap (λ (back : List ℕ). first ++ back) (sym c.split_at.ensures.back) ∙ ap (λ (l : List ℕ). l ++ rest) front in
    ((lines.0, c.in_ok-object.object), whole, lines.2, lines.3)
