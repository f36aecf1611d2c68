-- The orders of keys and of items, by what names a session and a sender (RFC 3209, 4.6.1 and 4.6.2).
use Rattle.std.specs.Prelude.{Bool, List}
use Rattle.std.specs.List.{list_any}
use Rattle.std.specs.Ordering.{is_eq, nat_cmp, ordering_then}
use Rattle.std.specs.Cmp.Lexicographic.{slice_cmp}
use Rattle.std.specs.Net.Addr.{ipv4_octets}
use Rattle.std.specs.declared.cmp.Ordering.{Ordering}
use Rattle.std.specs.declared.cmp.Ordering.TheVariants.{Less, Greater}
use Rattle.std.specs.declared.net.ipv4_addr.Ipv4Addr.{Ipv4Addr}
use Rattle.rsvp_contents.specs.Below.objects.declared.values.Session.{Session}
use Rattle.rsvp_contents.specs.Below.objects.declared.values.Template.{Template}
use Rattle.rsvp_contents.specs.Below.bodies.declared.prefix.Prefix.{Prefix}
use Rattle.lsr_facts.specs.declared.key.Key.{Key}
use Rattle.lsr_facts.specs.declared.key.Item.{Item}
use Rattle.lsr_facts.specs.declared.key.Item.TheVariants.{Down, Backup}

-- addresses by their octets, the first octet first
abbrev pub address_cmp : Ipv4Addr → Ipv4Addr → Ordering
address_cmp a b = slice_cmp nat_cmp (ipv4_octets a) (ipv4_octets b)

-- sessions by endpoint, tunnel, extended tunnel ID
abbrev pub session_cmp : Session → Session → Ordering
session_cmp a b =
    ordering_then (address_cmp a.endpoint b.endpoint) (ordering_then (nat_cmp a.tunnel b.tunnel) (address_cmp a.extended b.extended))

-- heads of LSPs by address, LSP ID
abbrev pub template_cmp : Template → Template → Ordering
template_cmp a b = ordering_then (address_cmp a.sender b.sender) (nat_cmp a.lsp b.lsp)

-- keys by session, sender
abbrev pub key_cmp : Key → Key → Ordering
key_cmp a b = ordering_then (session_cmp a.session b.session) (template_cmp a.sender b.sender)

-- the key is one of these
abbrev pub is_one_of : List Key → Key → Bool
is_one_of keys key = list_any (λ k. is_eq (key_cmp k key)) keys

-- items by kind, key, and then link or bypass
abbrev pub item_cmp : Item → Item → Ordering
item_cmp (Down a link) (Down b other) = ordering_then (key_cmp a b) (nat_cmp link other)
item_cmp (Down a link) (Backup b other) = Less
item_cmp (Backup a bypass) (Down b other) = Greater
item_cmp (Backup a bypass) (Backup b other) = ordering_then (key_cmp a b) (nat_cmp bypass other)

-- the LSP of an item
abbrev pub key_of_item : Item → Key
key_of_item (Down key link) = key
key_of_item (Backup key bypass) = key

-- prefixes by address, length
abbrev pub prefix_cmp : Prefix → Prefix → Ordering
prefix_cmp a b = ordering_then (address_cmp a.address b.address) (nat_cmp a.length b.length)
