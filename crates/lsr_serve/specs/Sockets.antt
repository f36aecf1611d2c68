-- What a configuration says of the sockets of its links.
use Rattle.std.specs.Prelude.{◌≡◌, ◌⊎◌, ℕ, List, [], ◌∷◌, None}
use Rattle.std.specs.List.{AllByRecursion}
use Rattle.std.specs.Ordering.{nat_cmp}
use Rattle.toml.specs.Data.{Data}
use Rattle.toml.specs.Parse.{parse_document}
use Rattle.lsr_config.specs.Documents.{SaysTable, each_record, in_turn, needed, records}
use Rattle.lsr_config.specs.Reading.{IsFault, IsOfDocument}
use Rattle.lsr_config.specs.Rules.{Has, HasNumber, Holds, Rule, a_socket, a_whole, few}
use Rattle.lsr_config.specs.Values.{SaysSocket}
use Rattle.lsr_config.specs.declared.fault.ConfigFault.{ConfigFault}
use Rattle.lsr_config.specs.declared.fault.ConfigFault.TheVariants as fault
use Rattle.lsr_config.specs.declared.key.Key.TheVariants as key
use Rattle.lsr_config.specs.declared.sockets.LinkSockets.{LinkSockets}

-- the record says the sockets of the link of this number
pub record SaysSockets (d : Data) (row : ℕ × LinkSockets) : Type 0 where
  pub number : HasNumber 1 key.Number d row.0
  pub listen : Has key.Listen d (λ v. SaysSocket v row.1.listen)
  pub send : Has key.Send d (λ v. SaysSocket v row.1.send)

-- what the record of a link has to keep, after those before it, so that it says its sockets
unfoldable pub socket_rules : List Data → Data → List Rule
socket_rules before link = in_turn (
    needed (a_whole 1 65535) key.Number link
    ∷ needed a_socket key.Listen link
    ∷ needed a_socket key.Send link
    ∷ (few key.Link 16 before ∷ [])
    ∷ [])

-- what all records of links have to keep, in the order of the text
abbrev pub all_socket_rules : Data → List Rule
all_socket_rules document = each_record socket_rules [] (records key.Link document)

-- The text gives each of its links both sockets: these, in the order of the links' numbers.
abbrev pub GivesSockets : List ℕ → List (ℕ × LinkSockets) → Type 0
GivesSockets text sockets =
    IsOfDocument text (λ document. AllByRecursion Holds (all_socket_rules document) × SaysTable nat_cmp SaysSockets (records key.Link document) sockets)

-- It doesn't: it isn't TOML, or this is the fault of the first rule of its links that isn't kept. Out of memory may come at any point.
abbrev pub LacksSockets : List ℕ → ConfigFault → Type 0
LacksSockets text f =
    (f ≡ fault.Memory) ⊎ (((f ≡ fault.Text) × (parse_document text ≡ None)) ⊎ IsOfDocument text (λ document. IsFault (all_socket_rules document) f))
