use Rattle.std.proofs.Common.{◌≤◌}
use Rattle.std.proofs.lemmas.List.Elements.{recursion_from_All}
use Rattle.lsr_facts.specs.AdmissionLaws.{reserved_of-but_holding}
use Rattle.lsr_facts.proofs.bandwidth_laws.holding_priorities_take_nothing.Goals as goal

pub returns : goal.returns
returns c = λ link priority claims others low lows same.
    reserved_of-but_holding link priority claims others (recursion_from_All (λ claim. claim.1.holding ≤ priority) claims low) (recursion_from_All (λ claim. claim.1.holding ≤ priority) others lows) same
