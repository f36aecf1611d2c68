-- An even number of digits spells bytes, and nothing else does.
use Rattle.std.proofs.Common.{rules, ap, ◌∙◌}
use Rattle.std.specs.Char.{is_ascii_hexdigit}
use Rattle.std.specs.List.{list_all}
use Rattle.lsr_lines.proofs.LineLaws.{spelled_where}
use Rattle.lsr_lines.proofs.lines.spells_bytes.Goals as goal

pub returns-then-digits-eq0 : goal.returns-then-digits-eq0
returns-then-digits-eq0 c =
    spelled_where c.args.digits.now c.are_hex_digits.result (search rules) (c.are_hex_digits.ensures ∙ ap (list_all is_ascii_hexdigit) c.as_bytes.ensures.value)
