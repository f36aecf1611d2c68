-- What is told is what is found first.
use Rattle.std.proofs.Common.{true, false, codes, refl, sym}
use Rattle.std.proofs.lemmas.Str.Pattern.{ends_text, starts_text}
use Rattle.lsr_lines.specs.Forms.{unseen_end}
use Rattle.lsr_lines.proofs.Ends.{two_blanks}
use Rattle.lsr_lines.proofs.forms.unseen_end.Goals as goal

pub returns-then-ends_with : goal.returns-then-ends_with
unfolding unseen_end
returns-then-ends_with c =
    let return_last = sym (ends_text true (codes "\r") c.args.line.now c.if-ends_with.ensures.cases) in
    rw return_last refl

pub returns-then-ends_with-2 : goal.returns-then-ends_with-2
unfolding unseen_end
returns-then-ends_with-2 c =
    let return_last = sym (ends_text false (codes "\r") c.args.line.now c.if-ends_with.ensures.cases) in
    let blank_last = sym (ends_text true (codes " ") c.args.line.now c.if-ends_with-2.ensures.cases) in
    rw (return_last, blank_last) refl

pub returns-then-starts_with : goal.returns-then-starts_with
unfolding unseen_end
returns-then-starts_with c =
    let return_last = sym (ends_text false (codes "\r") c.args.line.now c.if-ends_with.ensures.cases) in
    let blank_last = sym (ends_text false (codes " ") c.args.line.now c.if-ends_with-2.ensures.cases) in
    let blank_first = sym (starts_text true (codes " ") c.args.line.now c.if-starts_with.ensures.cases) in
    rw (return_last, blank_last, blank_first) refl

pub returns-then-contains : goal.returns-then-contains
unfolding unseen_end
returns-then-contains c =
    let return_last = sym (ends_text false (codes "\r") c.args.line.now c.if-ends_with.ensures.cases) in
    let blank_last = sym (ends_text false (codes " ") c.args.line.now c.if-ends_with-2.ensures.cases) in
    let blank_first = sym (starts_text false (codes " ") c.args.line.now c.if-starts_with.ensures.cases) in
    let two = two_blanks true c.args.line.now c.if-contains.ensures.cases in
    rw (return_last, blank_last, blank_first, two) refl

pub returns : goal.returns
unfolding unseen_end
returns c =
    let return_last = sym (ends_text false (codes "\r") c.args.line.now c.if-ends_with.ensures.cases) in
    let blank_last = sym (ends_text false (codes " ") c.args.line.now c.if-ends_with-2.ensures.cases) in
    let blank_first = sym (starts_text false (codes " ") c.args.line.now c.if-starts_with.ensures.cases) in
    let two = two_blanks false c.args.line.now c.if-contains.ensures.cases in
    rw (return_last, blank_last, blank_first, two) refl
