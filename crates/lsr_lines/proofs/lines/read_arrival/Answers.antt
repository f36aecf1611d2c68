-- A line asks for no more than one arrival.
use Rattle.std.proofs.Common.{arith, sym, Some, ap, ◌∙◌, ◌++◌}
use Rattle.std.proofs.lemmas.Str.Pattern.{split_parts}
use Rattle.lsr_lines.proofs.LineLaws.{brings, for_error, parts_of, no_parts, no_name, no_bytes}
use Rattle.lsr_lines.proofs.lines.read_arrival.Goals as goal

pub returns-in_default-split_once-clause-arrival : goal.returns-in_default-split_once-clause-arrival
returns-in_default-split_once-clause-arrival c = λ link bytes a.
    let front = c.in-Some.ensures.cases in
    let words = front.1.1 ∙ ap (λ w. c.args.word.now ++ w) (sym front.2) in
    no_parts c.args.word.now c.args.line.now c.in-Some.words.now link bytes c.split_once.result c.in_default-split_once.not-Some words c.split_once.ensures.cases a

pub returns-in_default-read_link-clause-arrival : goal.returns-in_default-read_link-clause-arrival
returns-in_default-read_link-clause-arrival c = λ link bytes a.
    let front = c.in-Some.ensures.cases in
    let words = front.1.1 ∙ ap (λ w. c.args.word.now ++ w) (sym front.2) in
    let same = parts_of c.args.word.now c.in-Some.words.now c.args.line.now link bytes (Some (c.in-Some-split_once.link_digits, c.in-Some-split_once.hex_digits)) words c.in-Some-split_once.ensures.cases a in
    no_name c.in-Some-split_once.link_digits.now a.link_digits link c.read_link.result c.in_default-read_link.not-Some c.read_link.ensures same.0 a.names

pub returns-in_err-bytes-clause-memory : goal.returns-in_err-bytes-clause-memory
returns-in_err-bytes-clause-memory c =
    let front = c.in-Some.ensures.cases in
    let words = front.1.1 ∙ ap (λ w. c.args.word.now ++ w) (sym front.2) in
    let parts = (split_parts 32 c.in-Some.words.now (Some (c.in-Some-split_once.link_digits, c.in-Some-split_once.hex_digits)) c.in-Some-split_once.ensures.cases (omega arith)).0 in
    for_error c.from_residual.result (brings c.args.word.now c.args.line.now c.in-Some.words.now c.in-Some-split_once.link_digits.now c.in-Some-split_once.hex_digits.now c.in-Some-read_link.link words parts c.in-Some-read_link.ensures c.in_err-bytes.ensures.memory)

pub returns-in-None-clause-arrival : goal.returns-in-None-clause-arrival
returns-in-None-clause-arrival c = λ link bytes a.
    let front = c.in-Some.ensures.cases in
    let words = front.1.1 ∙ ap (λ w. c.args.word.now ++ w) (sym front.2) in
    let same = parts_of c.args.word.now c.in-Some.words.now c.args.line.now link bytes (Some (c.in-Some-split_once.link_digits, c.in-Some-split_once.hex_digits)) words c.in-Some-split_once.ensures.cases a in
    no_bytes c.in-Some-split_once.hex_digits.now a.hex_digits bytes (rw c.in-None.is at c.in_ok-bytes.ensures.bytes) same.1 a.spelled
