use Rattle.lsr_facts.specs.AdmissionLaws.{granted-elsewhere-le, granted-within, victims_of-is_enough}
use Rattle.lsr_facts.specs.Admission.{victims_of}
use Rattle.lsr_facts.proofs.bandwidth_laws.what_fits_can_be_granted.Goals as goal

pub returns-clause-enough : goal.returns-clause-enough
returns-clause-enough c = victims_of-is_enough

pub returns-clause-within : goal.returns-clause-within
returns-clause-within c = λ limit priority request claims h holding setup fit low.
    granted-within limit priority request claims (victims_of limit request claims) h (victims_of-is_enough limit request claims h holding setup fit) low

pub returns-clause-elsewhere : goal.returns-clause-elsewhere
returns-clause-elsewhere c = λ limit link priority request claims h other.
    granted-elsewhere-le link priority request claims (victims_of limit request claims) h other
