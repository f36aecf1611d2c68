-- What a packet carries for RSVP.
use Rattle.std.specs.Prelude.{ℕ, ◌-◌, ◌*◌, ◌/◌, ◌%◌, ◌^◌, ◌==◌, ◌&&◌, ◌||◌, not, nat_le, nat_lt, if◌then◌else◌, Bool, List, length, take, drop, slice_index}
use Rattle.std.specs.Option.{option_map_or}
use Rattle.byteorder.specs.Endian.{big_number}
use Rattle.capture_files.specs.declared.datagram.PacketContent.{PacketContent}
use Rattle.capture_files.specs.declared.datagram.PacketContent.TheVariants as contents
use Rattle.capture_files.specs.Links.{ip_in}

-- a content as the definitions see it
pub data Carried : Type 0 where
  rsvp : List ℕ → Carried
  udp : ℕ → ℕ → List ℕ → Carried
  fragment : Carried
  cut : Carried
  other : Carried

abbrev pub carried : PacketContent → Carried
carried (contents.Rsvp message) = rsvp message.now
carried (contents.Udp source_port destination_port payload) = udp source_port destination_port payload.now
carried contents.Fragment = fragment
carried contents.Cut = cut
carried contents.Other = other

-- The header of an IPv4 packet (RFC 791, 3.1): version and the header's length in words 4 bits each, total length 2 from
-- byte 2, don't-fragment, more-fragments and the fragment's offset in 15 bits from byte 6, protocol 1 in byte 9. Options, of
-- which Router Alert is one, make it longer than 20 bytes.
abbrev pub header_len : List ℕ → ℕ
header_len ip = slice_index ip 0 % 16 * 4

abbrev pub total_len : List ℕ → ℕ
total_len ip = big_number 2 (drop 2 ip)

abbrev pub protocol_of : List ℕ → ℕ
protocol_of ip = slice_index ip 9

abbrev pub is_fragment : List ℕ → Bool
is_fragment ip = not (big_number 2 (drop 6 ip) % 2 ^ 14 == 0)

abbrev pub has_header : List ℕ → Bool
has_header ip = nat_le 20 (length ip) && (slice_index ip 0 / 16 == 4 && (nat_le 20 (header_len ip) && nat_le (header_len ip) (total_len ip)))

-- what the packet carries: its total length counts it, and bytes of the link after that don't belong to it
abbrev pub payload_of : List ℕ → List ℕ
payload_of ip = take (total_len ip - header_len ip) (drop (header_len ip) ip)

-- A UDP datagram (RFC 768): source port 2, destination port 2, length with this header 2, checksum 2, payload. The checksum
-- isn't looked at.
abbrev pub udp_len : List ℕ → ℕ
udp_len datagram = big_number 2 (drop 4 datagram)

unfoldable pub udp_in : List ℕ → Carried
udp_in datagram =
    if nat_lt (length datagram) 8 then other
    else if nat_lt (udp_len datagram) 8 then other
    else if nat_lt (length datagram) (udp_len datagram) then other
    else udp (big_number 2 datagram) (big_number 2 (drop 2 datagram)) (take (udp_len datagram - 8) (drop 8 datagram))

-- RSVP is protocol 46, and UDP 17. Neither a fragment nor a packet of which bytes weren't captured is read.
unfoldable pub datagram_in : List ℕ → Carried
datagram_in ip =
    if not (has_header ip) then other
    else if not (protocol_of ip == 46 || protocol_of ip == 17) then other
    else if is_fragment ip then fragment
    else if nat_lt (length ip) (total_len ip) then cut
    else if protocol_of ip == 46 then rsvp (payload_of ip)
    else udp_in (payload_of ip)

-- what a packet of this link type carries
abbrev pub content_in : ℕ → List ℕ → Carried
content_in link_type bytes = option_map_or datagram_in (ip_in link_type bytes) other
