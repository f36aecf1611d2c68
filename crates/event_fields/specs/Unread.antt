-- Events as their fields tell them, messages unread, and the bytes that spell them.
use Rattle.std.specs.Prelude.{◌≡◌, ◌≢◌, ◌==◌, ◌++◌, ◌∷◌, [], ℕ, List, Option, Some, None, if◌then◌else◌, refl}
use Rattle.std.specs.declared.net.ipv4_addr.Ipv4Addr.{Ipv4Addr}
use Rattle.std.specs.Net.Addr.{ipv4_octets}
use Rattle.std.proofs.Common.{sym}
use Rattle.byteorder.specs.Endian.{big_bytes}
use Rattle.field_bytes.specs.Making.{IsToldApart, told_by}
use Rattle.field_bytes.specs.OptionLaws.{option_bytes}
use Rattle.field_bytes.specs.declared.cases.OneOf.{OneOf}
use Rattle.field_bytes.specs.declared.cases.OneOf.TheVariants.{This, Other}
use Rattle.abstract_paths.specs.declared.commands.Command.{Command}
use Rattle.abstract_paths.specs.declared.ways.ArrivalWay.{ArrivalWay}
use Rattle.abstract_paths.specs.declared.ways.ArrivalWay.TheVariants as ways
use Rattle.journal_bytes.specs.Events.{counted_bytes, way_number}
use Rattle.event_fields.specs.Commands.{command_bytes}
use Rattle.event_fields.specs.declared.unread.UnreadArrive.{UnreadArrive}
use Rattle.event_fields.specs.declared.unread.UnreadRelay.{UnreadRelay}
use Rattle.event_fields.specs.declared.unread.UnreadEvent.{UnreadEvent}
use Rattle.event_fields.specs.declared.unread.UnreadEvent.TheVariants as unread

-- the way of a message that came, in 1 byte
abbrev pub way_bytes : ArrivalWay → List ℕ
way_bytes way = way_number way ∷ []

-- the way of this number
abbrev pub way_of : ℕ → ArrivalWay
way_of number = if number == 1 then ways.Hop else if number == 2 then ways.Stack else ways.Routed

way_again : (way : ArrivalWay) → way_of (way_number way) ≡ way
way_again ways.Hop = refl
way_again ways.Stack = refl
way_again ways.Routed = refl

pub way_told : IsToldApart (λ (w : ArrivalWay). Unit {0}) way_number
way_told = told_by (λ (w : ArrivalWay). Unit {0}) way_number way_of way_again

-- no way has another number
pub no_way : (number : ℕ) → number ≢ 1 → number ≢ 2 → number ≢ 3 → (way : ArrivalWay) → Unit {0} → way_number way ≡ number → ⊥
no_way number hop stack routed ways.Hop _ e = hop (sym e)
no_way number hop stack routed ways.Stack _ e = stack (sym e)
no_way number hop stack routed ways.Routed _ e = routed (sym e)

-- the class and the C-Type of an object that a message's type doesn't know
abbrev pub kind_bytes : ℕ × ℕ → List ℕ
kind_bytes kind = kind.0 ∷ kind.1 ∷ []

-- A message for this router: its link, its way, its bytes, and the object that its type doesn't know.
abbrev pub unread_arrive_bytes : UnreadArrive → List ℕ
unread_arrive_bytes a = big_bytes 2 a.link ++ (way_number a.way ∷ (counted_bytes a.message ++ option_bytes kind_bytes a.unknown))

abbrev pub arrive_parts : UnreadArrive → ℕ × (ArrivalWay × (List ℕ × Option (ℕ × ℕ)))
arrive_parts a = (a.link, (a.way, (a.message, a.unknown)))

-- the message of these
abbrev pub arrive_of : ℕ × (ArrivalWay × (List ℕ × Option (ℕ × ℕ))) → UnreadArrive
arrive_of parts = record { link = parts.0; way = parts.1.0; message = parts.1.1.0; unknown = parts.1.1.1 }

pub arrive_told : IsToldApart (λ (a : UnreadArrive). Unit {0}) arrive_parts
arrive_told = told_by (λ (a : UnreadArrive). Unit {0}) arrive_parts arrive_of (λ a. refl)

-- A message for another router: its link, where it is to go, its limit and its bytes.
abbrev pub unread_relay_bytes : UnreadRelay → List ℕ
unread_relay_bytes r = big_bytes 2 r.link ++ (ipv4_octets r.to ++ (r.limit ∷ counted_bytes r.message))

abbrev pub relay_parts : UnreadRelay → ℕ × (Ipv4Addr × (ℕ × List ℕ))
relay_parts r = (r.link, (r.to, (r.limit, r.message)))

-- the message of these
abbrev pub relay_of : ℕ × (Ipv4Addr × (ℕ × List ℕ)) → UnreadRelay
relay_of parts = record { link = parts.0; to = parts.1.0; limit = parts.1.1.0; message = parts.1.1.1 }

pub relay_told : IsToldApart (λ (r : UnreadRelay). Unit {0}) relay_parts
relay_told = told_by (λ (r : UnreadRelay). Unit {0}) relay_parts relay_of (λ r. refl)

-- An event begins with its kind, in 1 byte; what stands after it is by the kind.
abbrev pub unread_bytes : UnreadEvent → List ℕ
unread_bytes (unread.Arrive a) = 1 ∷ unread_arrive_bytes a
unread_bytes (unread.Relay r) = 2 ∷ unread_relay_bytes r
unread_bytes (unread.Tick moment) = 3 ∷ big_bytes 8 moment
unread_bytes (unread.LinkUp link) = 4 ∷ big_bytes 2 link
unread_bytes (unread.LinkDown link) = 5 ∷ big_bytes 2 link
unread_bytes unread.Restart = 6 ∷ []
unread_bytes unread.Start = 7 ∷ []
unread_bytes (unread.Command c) = 8 ∷ command_bytes c

-- what the kinds say, by halves
abbrev pub EventParts : Type 0
EventParts = OneOf (OneOf (OneOf UnreadArrive UnreadRelay) (OneOf ℕ ℕ)) (OneOf (OneOf ℕ (Unit {0})) (OneOf (Unit {0}) Command))

abbrev pub unread_parts : UnreadEvent → EventParts
unread_parts (unread.Arrive a) = This (This (This a))
unread_parts (unread.Relay r) = This (This (Other r))
unread_parts (unread.Tick moment) = This (Other (This moment))
unread_parts (unread.LinkUp link) = This (Other (Other link))
unread_parts (unread.LinkDown link) = Other (This (This link))
unread_parts unread.Restart = Other (This (Other tt))
unread_parts unread.Start = Other (Other (This tt))
unread_parts (unread.Command c) = Other (Other (Other c))

-- any event may be told
abbrev pub AnyUnread : UnreadEvent → Type 0
AnyUnread e = Unit {0}

-- the event of these
abbrev pub unread_of : EventParts → UnreadEvent
unread_of (This (This (This a))) = unread.Arrive a
unread_of (This (This (Other r))) = unread.Relay r
unread_of (This (Other (This moment))) = unread.Tick moment
unread_of (This (Other (Other link))) = unread.LinkUp link
unread_of (Other (This (This link))) = unread.LinkDown link
unread_of (Other (This (Other _))) = unread.Restart
unread_of (Other (Other (This _))) = unread.Start
unread_of (Other (Other (Other c))) = unread.Command c

unread_again : (event : UnreadEvent) → unread_of (unread_parts event) ≡ event
unread_again (unread.Arrive a) = refl
unread_again (unread.Relay r) = refl
unread_again (unread.Tick moment) = refl
unread_again (unread.LinkUp link) = refl
unread_again (unread.LinkDown link) = refl
unread_again unread.Restart = refl
unread_again unread.Start = refl
unread_again (unread.Command c) = refl

pub unread_told : IsToldApart AnyUnread unread_parts
unread_told = told_by AnyUnread unread_parts unread_of unread_again
