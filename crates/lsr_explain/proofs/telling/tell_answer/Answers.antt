-- What an error about an object is told with stands after its topic.
use Rattle.lsr_explain.proofs.telling.tell_answer.Goals as goal

pub returns-in_ok-put_object_topic-in-Object-clause-shown :
    goal.returns-in_ok-put_object_topic-in-Object-clause-shown
returns-in_ok-put_object_topic-in-Object-clause-shown g c = rw c.in-Object.is c.in_ok-put_object_topic-in-Object.ensures
