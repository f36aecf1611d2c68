-- IPv4 addresses as objects carry them.
use Rattle.std.specs.Prelude.{List, ℕ, take}
use Rattle.std.specs.declared.net.Ipv4Addr.{Ipv4Addr}

-- the address in the first four bytes, the highest first
abbrev pub address_at : List ℕ → Ipv4Addr
address_at bytes = record { octets = take 4 bytes }
