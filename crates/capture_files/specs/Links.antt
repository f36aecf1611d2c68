-- Where the IP packet begins in a packet of each link type that is known.
use Rattle.std.specs.Prelude.{ℕ, zero, suc, ◌==◌, ◌&&◌, ◌||◌, nat_le, if◌then◌else◌, Bool, List, length, drop, Option, Some, None}
use Rattle.byteorder.specs.Endian.{big_number}

-- An EtherType stands before what it is of: 0800 before an IPv4 packet (RFC 894), 8100 or 88a8 before two bytes of an IEEE
-- 802.1Q tag and the next EtherType.
abbrev pub is_tag : ℕ → Bool
is_tag ethertype = ethertype == 0x8100 || ethertype == 0x88a8

abbrev pub has_tag : List ℕ → Bool
has_tag bytes = nat_le 4 (length bytes) && is_tag (big_number 2 bytes)

-- what stands after at most n tags
abbrev pub after_tags : ℕ → List ℕ → List ℕ
after_tags zero bytes = bytes
after_tags (suc n) bytes = if has_tag bytes then after_tags n (drop 4 bytes) else bytes

-- the IPv4 packet after a header of so many bytes, which begins with its EtherType
abbrev pub ip_after : ℕ → List ℕ → Option (List ℕ)
ip_after len bytes = if nat_le len (length bytes) && (big_number 2 bytes == 0x0800) then Some (drop len bytes) else None

-- from an EtherType on, with at most eight tags
abbrev pub ip_from : List ℕ → Option (List ℕ)
ip_from bytes = ip_after 2 (after_tags 8 bytes)

-- The link types (draft-ietf-opsawg-pcaplinktype): 1 Ethernet, two addresses of 6 bytes before the EtherType; 113 Linux's
-- cooked packets, 14 bytes before it; 276 their version 2, whose header of 20 bytes begins with it; 101, 228 and, on some
-- systems, 12 and 14 raw IP.
unfoldable pub ip_in : ℕ → List ℕ → Option (List ℕ)
ip_in link_type bytes =
    if link_type == 1 then ip_from (drop 12 bytes)
    else if link_type == 113 then ip_from (drop 14 bytes)
    else if link_type == 276 then ip_after 20 bytes
    else if link_type == 101 || (link_type == 228 || (link_type == 12 || link_type == 14)) then Some bytes
    else None
