-- Words behind `router` that are no name and no file name none.
use Rattle.std.proofs.Common.{ap, sym, ◌∙◌}
use Rattle.std.specs.Option.{option_map}
use Rattle.lsr_lines.specs.Commands.{words_left}
use Rattle.world_lines.specs.Named.{file_in}
use Rattle.world_lines.proofs.NamedLaws.{no_file}
use Rattle.world_lines.proofs.named.file_of.Goals as goal

pub returns-in_err-_name : goal.returns-in_err-_name
returns-in_err-_name c =
    ap (option_map (λ file. file.now)) c.from_residual-in_err-_name.ensures ∙ sym (ap file_in c.in_ok-word.ensures ∙ no_file c.in_ok-word.word.now (words_left c.in_ok-word.left) c.in_err-_name.ensures)
