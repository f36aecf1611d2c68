-- One after the other.
use Rattle.lsr_explain.specs.Answers.{answers_text, faults_text}
use Rattle.lsr_explain.proofs.Printing.{appends_after}
use Rattle.lsr_explain.proofs.telling.put_topics.Goals as goal

pub returns : goal.returns
returns g c = appends_after c.put_faults.result _ _ _ answers_text faults_text c.in_ok-put_answers.ensures c.put_faults.ensures
