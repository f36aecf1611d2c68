-- By format.
use Rattle.journal_files.proofs.reading.read_base.Goals as goal

pub returns-in-First : goal.returns-in-First
returns-in-First c = rw c.in-First.is c.read.ensures

pub returns-in-Second : goal.returns-in-Second
returns-in-Second c = rw c.in-Second.is c.read-in-Second.ensures

pub returns-in-Third : goal.returns-in-Third
returns-in-Third c = rw c.in-Third.is c.read-in-Third.ensures
