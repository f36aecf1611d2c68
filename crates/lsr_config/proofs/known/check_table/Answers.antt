use Rattle.std.proofs.Common.{sym, subst}
use Rattle.lsr_config.specs.Reading.{Judges}
use Rattle.lsr_config.proofs.Naming.{known_rules-table, known_rules-other}
use Rattle.lsr_config.proofs.known.check_table.Goals as goal

pub returns-in-Some : goal.returns-in-Some
returns-in-Some c =
    subst (λ rules. Judges rules (λ x. Unit {0}) c.check_names.result) (sym (known_rules-table c.args.keys.now _ _ c.in-Some.ensures)) c.check_names.ensures

pub returns-in-None : goal.returns-in-None
returns-in-None c = (known_rules-other c.args.keys.now _ c.in-None.ensures, tt)
