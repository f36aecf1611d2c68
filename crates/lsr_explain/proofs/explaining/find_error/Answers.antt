-- A word that names no value names no error.
use Rattle.lsr_explain.proofs.explaining.find_error.Goals as goal

pub returns-in-None : goal.returns-in-None
returns-in-None c = λ found value h. c.in-None.ensures value h.0
