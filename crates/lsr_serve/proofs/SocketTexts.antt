-- A document that is judged answers the text that spells it.
use Rattle.std.proofs.Common.{◌≡◌, ℕ, List, Some, Result, Ok, Err, inr}
use Rattle.std.specs.Prelude.{IfErr, IfOk}
use Rattle.std.specs.Ordering.{nat_cmp}
use Rattle.toml.specs.Data.{Members, table}
use Rattle.toml.specs.Parse.{parse_document}
use Rattle.lsr_config.specs.Documents.{SaysTable, records}
use Rattle.lsr_config.specs.Reading.{Judges}
use Rattle.lsr_config.specs.declared.fault.ConfigFault.{ConfigFault}
use Rattle.lsr_config.specs.declared.key.Key.TheVariants as key
use Rattle.lsr_config.specs.declared.sockets.LinkSockets.{LinkSockets}
use Rattle.lsr_serve.specs.Sockets.{GivesSockets, LacksSockets, SaysSockets, all_socket_rules}

pub sockets_given : (text : List ℕ) (members : Members) (r : Result (List (ℕ × LinkSockets)) ConfigFault) → parse_document text ≡ Some members
    → Judges (all_socket_rules (table members)) (SaysTable nat_cmp SaysSockets (records key.Link (table members))) r → IfOk r (GivesSockets text)
sockets_given text ms (Ok sockets) spells h = (ms, spells, h)
sockets_given text ms (Err f) spells h = tt

pub sockets_lacking : (text : List ℕ) (members : Members) (r : Result (List (ℕ × LinkSockets)) ConfigFault) → parse_document text ≡ Some members
    → Judges (all_socket_rules (table members)) (SaysTable nat_cmp SaysSockets (records key.Link (table members))) r → IfErr r (LacksSockets text)
sockets_lacking text ms (Ok sockets) spells h = tt
sockets_lacking text ms (Err f) spells h = inr (inr (ms, spells, h))
