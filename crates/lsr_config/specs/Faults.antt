-- The words that an operator reads of a fault.
use Rattle.std.specs.Prelude.{ℕ, List, codes, Option, Some, None}
use Rattle.lsr_config.specs.Keys.{key_name}
use Rattle.lsr_config.specs.declared.fault.ConfigFault.{ConfigFault}
use Rattle.lsr_config.specs.declared.fault.ConfigFault.TheVariants as fault

-- the kind of a fault
abbrev pub fault_word : ConfigFault → List ℕ
fault_word fault.Text = codes "Text"
fault_word (fault.Missing key) = codes "Missing"
fault_word (fault.BadValue key) = codes "BadValue"
fault_word (fault.Repeated key) = codes "Repeated"
fault_word (fault.UnknownName key) = codes "UnknownName"
fault_word (fault.TooMany key) = codes "TooMany"
fault_word (fault.UnknownKey name) = codes "UnknownKey"
fault_word fault.Memory = codes "Memory"

-- the key that is at fault, as the text spells it
abbrev pub fault_name : ConfigFault → Option (List ℕ)
fault_name fault.Text = None
fault_name (fault.Missing key) = Some (key_name key)
fault_name (fault.BadValue key) = Some (key_name key)
fault_name (fault.Repeated key) = Some (key_name key)
fault_name (fault.UnknownName key) = Some (key_name key)
fault_name (fault.TooMany key) = Some (key_name key)
fault_name (fault.UnknownKey name) = Some name
fault_name fault.Memory = None
