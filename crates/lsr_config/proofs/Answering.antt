-- A document that is judged answers the text that spells it.
use Rattle.std.proofs.Common.{◌≡◌, ℕ, List, [], ◌∷◌, Some, None, Result, Ok, Err, inl, inr}
use Rattle.toml.specs.Data.{Members, table}
use Rattle.toml.specs.Parse.{parse_document}
use Rattle.lsr_config.specs.Rules.{Rule, given, fitting, new_number, new_address, new_prefix, elsewhere, known_number, carried, few, known, fault_of, FirstBroken}
use Rattle.lsr_config.specs.Documents.{rules_of, Says}
use Rattle.lsr_config.specs.Reading.{IsFault, Judges, IsRefused, IsRead}
use Rattle.lsr_config.specs.Configs.{Setup}
use Rattle.lsr_config.specs.declared.fault.ConfigFault.{ConfigFault}
use Rattle.lsr_config.specs.declared.fault.ConfigFault.TheVariants as fault

-- no rule has the fault of a text that isn't TOML
not_text : (rule : Rule) → ¬ (fault.Text ≡ fault_of rule)
unfolding fault_of
not_text (given key d) e = cc
not_text (fitting kind key d) e = cc
not_text (new_number first before d) e = cc
not_text (new_address document before link) e = cc
not_text (new_prefix before route) e = cc
not_text (elsewhere document links tunnel) e = cc
not_text (known_number first under others d) e = cc
not_text (carried tunnels bypass) e = cc
not_text (few key most before) e = cc
not_text (known keys name) e = cc

none_broken : (rules : List Rule) → ¬ (FirstBroken rules fault.Text)
unfolding FirstBroken
none_broken [] h = h
none_broken (rule ∷ rules) (inl h) = not_text rule h.1
none_broken (rule ∷ rules) (inr h) = none_broken rules h.1

refused : (text : List ℕ) (members : Members) (f : ConfigFault) → parse_document text ≡ Some members → IsFault (rules_of (table members)) f → IsRefused text f
unfolding IsFault IsRefused
refused text ms fault.Text spells h = absurd (none_broken _ h)
refused text ms (fault.Missing key) spells h = (ms, spells, h)
refused text ms (fault.BadValue key) spells h = (ms, spells, h)
refused text ms (fault.Repeated key) spells h = (ms, spells, h)
refused text ms (fault.UnknownName key) spells h = (ms, spells, h)
refused text ms (fault.TooMany key) spells h = (ms, spells, h)
refused text ms (fault.UnknownKey name) spells h = (ms, spells, h)
refused text ms fault.Memory spells h = tt

pub document_read : (text : List ℕ) (members : Members) (r : Result Setup ConfigFault) → parse_document text ≡ Some members → Judges (rules_of (table members)) (Says (table members)) r → IsRead text r
document_read text ms (Ok c) spells h = (ms, spells, h)
document_read text ms (Err f) spells h = refused text ms f spells h

-- a text that isn't TOML
pub not_read : (text : List ℕ) (f : ConfigFault) → f ≡ fault.Text → parse_document text ≡ None → IsRefused text f
unfolding IsRefused
not_read text f is none = rw is none

-- out of memory
pub no_memory : (text : List ℕ) (f : ConfigFault) → f ≡ fault.Memory → IsRefused text f
unfolding IsRefused
no_memory text f is = rw is tt
