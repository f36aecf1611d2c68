-- Where the fault stands, after the fault.
use Rattle.std.proofs.KnownBytes.{Appends-trans}
use Rattle.std.proofs.lemmas.Result.{on_ok_weaker}
use Rattle.lsr_runs.specs.Endings.{config_fault_text, fault_line, place_lines}
use Rattle.lsr_runs.proofs.endings.tell_config_fault.Goals as goal

pub returns : goal.returns
unfolding config_fault_text
returns g c =
    on_ok_weaker c.tell_known_place.result
    (λ told. Appends-trans _ _ _ (fault_line c.args.fault.now) (place_lines c.args.fault.now c.args.place.now) c.in_ok-tell_fault.ensures told) c.tell_known_place.ensures
