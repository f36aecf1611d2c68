-- What is wrong with a recorded run, in words.
use Rattle.std.specs.Prelude.{ℕ, List, ◌++◌, codes}
use Rattle.std.specs.Fmt.{decimal}
use Rattle.run_checker.specs.declared.fault.EntryFault.{EntryFault}
use Rattle.run_checker.specs.declared.fault.EntryFault.TheVariants as faults
use Rattle.run_checker.specs.declared.fault.RunFault.{RunFault}
use Rattle.run_checker.specs.declared.fault.RunFault.TheVariants as runs

-- what is wrong with an entry: what happened, the labels that were chosen, or what was answered and sent
abbrev pub entry_fault_name : EntryFault → List ℕ
entry_fault_name faults.Unread = codes "Event"
entry_fault_name (faults.Event refusal) = codes "Event"
entry_fault_name (faults.Choice labels) = codes "Choice"
entry_fault_name (faults.Reply reply) = codes "Output"
entry_fault_name (faults.Output frames) = codes "Output"

-- the number of the entry that is at fault, from 1; 0 where none is
abbrev pub fault_number : RunFault → ℕ
fault_number runs.Memory = 0
fault_number (runs.Base clause) = 0
fault_number (runs.Entry number fault) = number

-- the fault's name
abbrev pub fault_name : RunFault → List ℕ
fault_name runs.Memory = codes "Memory"
fault_name (runs.Base clause) = codes "Base"
fault_name (runs.Entry number fault) = entry_fault_name fault

-- `entry NUMBER: FAULT`
abbrev pub fault_words : RunFault → List ℕ
fault_words fault = codes "entry " ++ (decimal (fault_number fault) ++ (codes ": " ++ fault_name fault))
