use Rattle.std.proofs.Common.{refl}
use Rattle.std.proofs.lemmas.Result.{err_from_is_err_and}
use Rattle.lsr_config.specs.Documents.{attribute_rules}
use Rattle.lsr_config.proofs.Judging.{turn_front, turn_past, turn_kept, turn_end}
use Rattle.lsr_config.proofs.tunnels.read_attributes.Goals as goal

pub returns-in_err-setup : goal.returns-in_err-setup
unfolding attribute_rules
returns-in_err-setup c =
    let p = err_from_is_err_and c.from_residual.result c.from_residual.ensures.1 in
    rw (p.1, p.2)
    (turn_front _ _ _ c.in_err-setup.ensures)

pub returns-in_err-hold : goal.returns-in_err-hold
unfolding attribute_rules
returns-in_err-hold c =
    let p = err_from_is_err_and c.from_residual-in_err-hold.result c.from_residual-in_err-hold.ensures.1 in
    rw (p.1, p.2)
    (turn_past _ _ _ c.in_ok-setup.ensures.0
    (turn_front _ _ _ c.in_err-hold.ensures))

pub returns-in_err-flags : goal.returns-in_err-flags
unfolding attribute_rules
returns-in_err-flags c =
    let p = err_from_is_err_and c.from_residual-in_err-flags.result c.from_residual-in_err-flags.ensures.1 in
    rw (p.1, p.2)
    (turn_past _ _ _ c.in_ok-setup.ensures.0
    (turn_past _ _ _ c.in_ok-hold.ensures.0
    (turn_front _ _ _ c.in_err-flags.ensures)))

pub returns-in_err-name : goal.returns-in_err-name
unfolding attribute_rules
returns-in_err-name c =
    let p = err_from_is_err_and c.from_residual-in_err-name.result c.from_residual-in_err-name.ensures.1 in
    rw (p.1, p.2)
    (turn_past _ _ _ c.in_ok-setup.ensures.0
    (turn_past _ _ _ c.in_ok-hold.ensures.0
    (turn_past _ _ _ c.in_ok-flags.ensures.0
    (turn_front _ _ _ c.in_err-name.ensures))))

pub returns : goal.returns
unfolding attribute_rules
returns c = (
  (turn_kept _ _ c.in_ok-setup.ensures.0
      (turn_kept _ _ c.in_ok-hold.ensures.0
      (turn_kept _ _ c.in_ok-flags.ensures.0
      (turn_kept _ _ c.in_ok-name.ensures.0
      turn_end)))),
  record {
    affinities = refl;
    setup = c.in_ok-setup.ensures.1;
    hold = c.in_ok-hold.ensures.1;
    flags = c.in_ok-flags.ensures.1;
    name = c.in_ok-name.ensures.1;
  },
)
