-- By the LSP's own entry.
use Rattle.router_laws.proofs.OwnEntries.{both_written, forwarded_ends, forwarded_repaired, forwarded_reserved}
use Rattle.router_laws.proofs.frames.frames_leave_as_their_lsp_does.Goals as goal

pub returns-clause-reserved : goal.returns-clause-reserved
returns-clause-reserved c = λ r s key resv top below router is held found lives room. forwarded_reserved r s router is key top below held resv found lives room

pub returns-clause-repaired : goal.returns-clause-repaired
returns-clause-repaired c = λ r s key repair top below router is held found lives room. forwarded_repaired r s router is key top below held repair found lives room

pub returns-clause-written : goal.returns-clause-written
returns-clause-written c = both_written

pub returns-clause-ends : goal.returns-clause-ends
returns-clause-ends c = λ r s key path top below router is held known ends. forwarded_ends r s router is key top below held path known ends
