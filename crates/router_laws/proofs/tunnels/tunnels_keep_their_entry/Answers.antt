-- The table of tunnels has a row for each tunnel whose current LSP is reserved or repaired; the reservation that a tunnel
-- goes over to stands, for its path is none that is given up; and a command touches no current LSP of another tunnel than it
-- drops, and no bypass that an LSP runs over.
use Rattle.router_laws.proofs.Commanded.{command_entry, command_leaves}
use Rattle.router_laws.proofs.GoingOver.{goes_from, goes_over, stays_current, stays_entry, stays_repaired}
use Rattle.router_laws.proofs.Pushing.{entry_is, entry_none, entry_repaired, entry_unknown}
use Rattle.router_laws.proofs.tunnels.tunnels_keep_their_entry.Goals as goal

pub returns-clause-entry : goal.returns-clause-entry
returns-clause-entry c r s number tunnel resv sorted found reserved = entry_is r s number tunnel sorted found resv reserved

pub returns-clause-repaired : goal.returns-clause-repaired
returns-clause-repaired c r s number tunnel repair is found repairs = entry_repaired r s is number tunnel repair found repairs

pub returns-clause-neither : goal.returns-clause-neither
returns-clause-neither c = entry_none

pub returns-clause-unknown : goal.returns-clause-unknown
returns-clause-unknown c = entry_unknown

pub returns-clause-switch : goal.returns-clause-switch
returns-clause-switch c r before after made number old new is rests x was found other = goes_over r before after made is rests x number old new was found other

pub returns-clause-old_goes : goal.returns-clause-old_goes
returns-clause-old_goes c r before after made number old new is rests x was found other = goes_from r before after made is rests x number old new was found other

pub returns-clause-kept : goal.returns-clause-kept
returns-clause-kept c r before after made number old new is rests x was found own = stays_current r before after made is rests x number old new was found own

pub returns-clause-kept_entry : goal.returns-clause-kept_entry
returns-clause-kept_entry c r before after made number old new resv is rests x was found own reserved = stays_entry r before after made is rests x number old new was found resv own reserved

pub returns-clause-kept_repaired : goal.returns-clause-kept_repaired
returns-clause-kept_repaired c r before after made number old new repair router is rests x was found own repairs = stays_repaired r before after made is rests x number old new was found router repair own repairs

pub returns-clause-change : goal.returns-clause-change
returns-clause-change c r before after made command number tunnel is rests x event other was = command_leaves r before after made command is rests x event number tunnel was other

pub returns-clause-change_entry : goal.returns-clause-change_entry
returns-clause-change_entry c r before after made command number is rests x event other = command_entry r before after made command is rests x event number other
