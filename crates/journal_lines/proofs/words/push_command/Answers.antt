use Rattle.std.proofs.Common.{rules, ◌≡◌, ◌++◌, string_bytes}
use Rattle.std.specs.Prelude.{codes}
use Rattle.std.specs.Fmt.{decimal}
use Rattle.std.proofs.lemmas.Result.{on_ok_weaker}
use Rattle.journal_lines.specs.Words.{rate_word}
use Rattle.journal_lines.proofs.Naming.{change_told}
use Rattle.journal_lines.proofs.words.push_command.Goals as goal

pub returns-in_ok-write-in-ChangeTunnel : goal.returns-in_ok-write-in-ChangeTunnel
returns-in_ok-write-in-ChangeTunnel c =
    let change = c.in-ChangeTunnel.change in
    let written : string_bytes c.write.new.self ≡ string_bytes c.args.text.now ++ (codes "change " ++ (decimal change.number ++ (codes " " ++ rate_word change.tspec))) = search rules in
    let route : c.as_slice-in-ChangeTunnel.result.now ≡ change.route = search rules in
    on_ok_weaker c.push_steps.result (λ steps. change_told c.args.command.now change (string_bytes c.args.text.now) (string_bytes c.write.new.self) (string_bytes c.push_steps.new.text) c.as_slice-in-ChangeTunnel.result.now
    c.in-ChangeTunnel.is written route steps) c.push_steps.ensures
