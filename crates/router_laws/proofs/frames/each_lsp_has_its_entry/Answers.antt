-- By the one entry that stands under the LSP's label.
use Rattle.router_laws.proofs.OwnEntries.{look_ends, look_neither, look_repaired, look_reserved}
use Rattle.router_laws.proofs.frames.each_lsp_has_its_entry.Goals as goal

pub returns-clause-ends : goal.returns-clause-ends
returns-clause-ends c = λ r s key label path is held known ends. look_ends r s is key path label known held ends

pub returns-clause-reserved : goal.returns-clause-reserved
returns-clause-reserved c = λ r s key label resv is held found. look_reserved r s is key label held resv found

pub returns-clause-repaired : goal.returns-clause-repaired
returns-clause-repaired c = λ r s key label repair is held found. look_repaired r s is key label held repair found

pub returns-clause-neither : goal.returns-clause-neither
returns-clause-neither c = λ r s key label path is held known goes unreserved unrepaired. look_neither r s is key path label known held goes unreserved unrepaired
