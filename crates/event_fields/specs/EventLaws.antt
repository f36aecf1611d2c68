-- No bytes begin with two events.
use Rattle.std.specs.Prelude.{◌≡◌, ◌++◌, ◌∷◌, [], ℕ, List, refl}
use Rattle.std.specs.Net.Addr.{ipv4_octets}
use Rattle.std.specs.declared.net.ipv4_addr.Ipv4Addr.{Ipv4Addr}
use Rattle.field_bytes.specs.CaseLaws.{IsOneCase, both_fields, choice_bytes, one_both, one_choice}
use Rattle.field_bytes.specs.ListLaws.{one_octets}
use Rattle.field_bytes.specs.Making.{MadeFits, one_made}
use Rattle.field_bytes.specs.NumberLaws.{one_address, one_byte, one_long, one_nothing, one_short}
use Rattle.field_bytes.specs.OptionLaws.{OptionFits, one_option, option_bytes}
use Rattle.field_bytes.specs.PairLaws.{PairFits, one_pair, pair_bytes}
use Rattle.field_bytes.specs.Spelling.{IsOne, octet_bytes}
use Rattle.abstract_paths.specs.declared.ways.ArrivalWay.{ArrivalWay}
use Rattle.journal_bytes.specs.Events.{way_number}
use Rattle.event_fields.specs.Commands.{command_bytes}
use Rattle.event_fields.specs.Fitting.{CommandFits, EightFit, FourFit, HasOctets, IsByte, IsLong, IsShort, TwoFit, eight_tag, four_tag}
use Rattle.event_fields.specs.Laws.{Counts, IsAny, byte_bytes, long_bytes, one_command, one_four, one_two, short_bytes}
use Rattle.event_fields.specs.Unread.{AnyUnread, EventParts, arrive_parts, arrive_told, kind_bytes, relay_parts, relay_told, unread_arrive_bytes, unread_bytes, unread_parts, unread_relay_bytes, unread_told, way_bytes, way_told}
use Rattle.event_fields.specs.declared.unread.UnreadArrive.{UnreadArrive}
use Rattle.event_fields.specs.declared.unread.UnreadRelay.{UnreadRelay}
use Rattle.event_fields.specs.declared.unread.UnreadEvent.{UnreadEvent}
use Rattle.event_fields.specs.declared.unread.UnreadEvent.TheVariants as unread

abbrev pub WayFits : ArrivalWay → Type 0
WayFits = MadeFits IsAny way_number IsByte

abbrev pub KindFits : ℕ × ℕ → Type 0
KindFits = PairFits IsByte IsByte

abbrev pub ArriveFits : UnreadArrive → Type 0
ArriveFits = MadeFits IsAny arrive_parts (PairFits IsShort (PairFits WayFits (PairFits Counts (OptionFits KindFits))))

abbrev pub RelayFits : UnreadRelay → Type 0
RelayFits = MadeFits IsAny relay_parts (PairFits IsShort (PairFits HasOctets (PairFits IsByte Counts)))

abbrev pub NothingFits : Unit {0} → Type 0
NothingFits x = Unit {0}

abbrev pub nothing_bytes : Unit {0} → List ℕ
nothing_bytes x = []

abbrev pub EventPartsFit : EventParts → Type 0
EventPartsFit = EightFit (FourFit (TwoFit ArriveFits RelayFits) (TwoFit IsLong IsShort)) (FourFit (TwoFit IsShort NothingFits) (TwoFit NothingFits CommandFits))

abbrev pub UnreadFits : UnreadEvent → Type 0
UnreadFits = MadeFits AnyUnread unread_parts EventPartsFit

one_way : IsOne WayFits way_bytes
one_way = one_made IsAny way_number way_bytes IsByte byte_bytes way_told (λ w. refl) one_byte

one_arrive : IsOne ArriveFits unread_arrive_bytes
one_arrive = one_made IsAny arrive_parts unread_arrive_bytes (PairFits IsShort (PairFits WayFits (PairFits Counts (OptionFits KindFits))))
    (pair_bytes short_bytes (pair_bytes way_bytes (pair_bytes octet_bytes (option_bytes kind_bytes)))) arrive_told (λ a. refl)
    (one_pair IsShort (PairFits WayFits (PairFits Counts (OptionFits KindFits))) short_bytes (pair_bytes way_bytes (pair_bytes octet_bytes (option_bytes kind_bytes))) one_short
    (one_pair WayFits (PairFits Counts (OptionFits KindFits)) way_bytes (pair_bytes octet_bytes (option_bytes kind_bytes)) one_way
    (one_pair Counts (OptionFits KindFits) octet_bytes (option_bytes kind_bytes) one_octets
    (one_option KindFits kind_bytes (one_pair IsByte IsByte byte_bytes byte_bytes one_byte one_byte)))))

one_relay : IsOne RelayFits unread_relay_bytes
one_relay = one_made IsAny relay_parts unread_relay_bytes (PairFits IsShort (PairFits HasOctets (PairFits IsByte Counts)))
    (pair_bytes short_bytes (pair_bytes ipv4_octets (pair_bytes byte_bytes octet_bytes))) relay_told (λ r. refl)
    (one_pair IsShort (PairFits HasOctets (PairFits IsByte Counts)) short_bytes (pair_bytes ipv4_octets (pair_bytes byte_bytes octet_bytes)) one_short
    (one_pair HasOctets (PairFits IsByte Counts) ipv4_octets (pair_bytes byte_bytes octet_bytes) one_address
    (one_pair IsByte Counts byte_bytes octet_bytes one_byte one_octets)))

abbrev pub event_fields_by : EventParts → List ℕ
event_fields_by = both_fields
    (both_fields (both_fields unread_arrive_bytes unread_relay_bytes) (both_fields long_bytes short_bytes))
    (both_fields (both_fields short_bytes nothing_bytes) (both_fields nothing_bytes command_bytes))

pub event_spelled : (e : UnreadEvent) → unread_bytes e ≡ choice_bytes 1 eight_tag event_fields_by (unread_parts e)
event_spelled (unread.Arrive a) = refl
event_spelled (unread.Relay r) = refl
event_spelled (unread.Tick n) = refl
event_spelled (unread.LinkUp n) = refl
event_spelled (unread.LinkDown n) = refl
event_spelled unread.Restart = refl
event_spelled unread.Start = refl
event_spelled (unread.Command c) = refl

one_event_case : IsOneCase EventPartsFit eight_tag event_fields_by
one_event_case =
    one_both 4 (FourFit (TwoFit ArriveFits RelayFits) (TwoFit IsLong IsShort)) (FourFit (TwoFit IsShort NothingFits) (TwoFit NothingFits CommandFits)) four_tag four_tag
    (both_fields (both_fields unread_arrive_bytes unread_relay_bytes) (both_fields long_bytes short_bytes))
    (both_fields (both_fields short_bytes nothing_bytes) (both_fields nothing_bytes command_bytes))
    (one_four (TwoFit ArriveFits RelayFits) (TwoFit IsLong IsShort) (both_fields unread_arrive_bytes unread_relay_bytes) (both_fields long_bytes short_bytes)
    (one_two ArriveFits RelayFits unread_arrive_bytes unread_relay_bytes one_arrive one_relay)
    (one_two IsLong IsShort long_bytes short_bytes one_long one_short))
    (one_four (TwoFit IsShort NothingFits) (TwoFit NothingFits CommandFits) (both_fields short_bytes nothing_bytes) (both_fields nothing_bytes command_bytes)
    (one_two IsShort NothingFits short_bytes nothing_bytes one_short one_nothing)
    (one_two NothingFits CommandFits nothing_bytes command_bytes one_nothing one_command))

pub one_unread : IsOne UnreadFits unread_bytes
one_unread = one_made AnyUnread unread_parts unread_bytes EventPartsFit (choice_bytes 1 eight_tag event_fields_by) unread_told event_spelled
    (one_choice 1 EventPartsFit eight_tag event_fields_by one_event_case)
