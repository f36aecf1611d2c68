use Rattle.lsr_facts.specs.AdmissionLaws.{victims_can_give_way, victims_of-front, victims_of-least}
use Rattle.lsr_facts.proofs.bandwidth_laws.victims_are_as_few_as_can_be.Goals as goal

pub returns-clause-can_give_way : goal.returns-clause-can_give_way
returns-clause-can_give_way c = victims_can_give_way

pub returns-clause-front : goal.returns-clause-front
returns-clause-front c = victims_of-front

pub returns-clause-fewest : goal.returns-clause-fewest
returns-clause-fewest c = victims_of-least
