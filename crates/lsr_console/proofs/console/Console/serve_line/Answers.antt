-- The answer is printed, or that memory ran out for it, and then the mark.
use Rattle.std.proofs.Common.{◌++◌, ℕ, List, ap, inl, inr, refl, string_bytes}
use Rattle.lsr_console.specs.Answers.{OperatorState, lack_text}
use Rattle.lsr_console.specs.Consoles.{PrintsLine, end_mark}
use Rattle.lsr_console.proofs.Written.{written}
use Rattle.lsr_console.proofs.console.Console.serve_line.Goals as goal

pub returns-in-Ok-clause-told : goal.returns-in-Ok-clause-told
returns-in-Ok-clause-told g c =
    let mark : List ℕ = end_mark c.args.self.now.manner.marks in
    let before : OperatorState = record { work = c.args.work.now; recent = c.args.self.now.recent } in
    let after : OperatorState = record { work = c.answer_line.new.work; recent = c.answer_line.new.recent } in
    written c.put.result _ _ (c.as_str.result.now ++ mark) (string_bytes c.in-Ok.text ++ mark)
    (λ t. PrintsLine g.L.CoreName.config c.args.self.now.manner c.args.self.now.counters.ports.items c.args.self.now.number c.args.line.now before t after)
    (ap (λ (bytes : List ℕ). bytes ++ mark) c.as_str.ensures.value) (record { answer = string_bytes c.in-Ok.text; tells = inl c.in-Ok.ensures.told; marked = refl }) c.put.ensures

pub returns-in-Err-clause-told : goal.returns-in-Err-clause-told
returns-in-Err-clause-told g c =
    let mark : List ℕ = end_mark c.args.self.now.manner.marks in
    let before : OperatorState = record { work = c.args.work.now; recent = c.args.self.now.recent } in
    let after : OperatorState = record { work = c.answer_line.new.work; recent = c.answer_line.new.recent } in
    written c.put-in-Err.result _ _ (c.text.result.now ++ mark) (lack_text c.in-Err.lack ++ mark)
    (λ t. PrintsLine g.L.CoreName.config c.args.self.now.manner c.args.self.now.counters.ports.items c.args.self.now.number c.args.line.now before t after)
    (ap (λ (bytes : List ℕ). bytes ++ mark) c.text.ensures) (record { answer = lack_text c.in-Err.lack; tells = inr (c.in-Err.lack, refl, c.in-Err.ensures.lack); marked = refl }) c.put-in-Err.ensures
