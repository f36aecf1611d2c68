-- What is left is cut at its first newline, if it has one.
use Rattle.std.proofs.Common.{rules, ◌≡◌, ap, sym, ◌∙◌, ◌-◌, ◌++◌, ◌∷◌, ℕ, drop, length}
use Rattle.line_streams.proofs.Reading.{rest_left}
use Rattle.line_streams.proofs.reader.LineReader.take_line.Goals as goal

pub returns-in_ok-extend-in-Some-clause-front : goal.returns-in_ok-extend-in-Some-clause-front
returns-in_ok-extend-in-Some-clause-front c =
    let came = c.args.self.now.came.items in
    let front = c.in-Some.front.now in
    let parts = c.in-Some.ensures.parts in
    let len : c.len.result ≡ length came = search rules in
    let kept = ap (λ (n : ℕ). drop (n - length c.in-Some.rest.now) came) len ∙ rest_left came c.args.self.now.given front c.in-Some.rest.now c.left-left.result.now c.left-left.ensures parts.1 in
    (front, parts.0, c.in_ok-extend-in-Some.ensures.whole, sym c.left-left.ensures ∙ parts.1 ∙ ap (λ l. front ++ (10 ∷ l)) (sym kept))

pub returns-in_ok-extend-in-None-clause-front : goal.returns-in_ok-extend-in-None-clause-front
returns-in_ok-extend-in-None-clause-front c = (c.left-left.result.now, c.in-None.ensures.parts, c.in_ok-extend-in-None.ensures.whole, sym c.left-left.ensures)
