-- Addresses of this machine alone.
use Rattle.std.specs.Prelude.{◌≡◌, ℕ, All, List}
use Rattle.std.specs.Net.Addr.{IsLoopbackV4, IsLoopbackV6, MatchIp, is_ipv4}
use Rattle.std.specs.Net.Socket.{socket_ip}
use Rattle.std.specs.declared.net.socket_addr.SocketAddr.{SocketAddr}
use Rattle.lsr_config.specs.declared.sockets.LinkSockets.{LinkSockets}

-- the address is one of this machine's alone, of the family of the other
abbrev pub IsLocal : SocketAddr → SocketAddr → Type 0
IsLocal like address = MatchIp (socket_ip address) IsLoopbackV4 IsLoopbackV6 × (is_ipv4 (socket_ip address) ≡ is_ipv4 (socket_ip like))

-- a link's frames come at such an address, and go to such a one
abbrev pub AreLinkLocal : SocketAddr → LinkSockets → Type 0
AreLinkLocal like sockets = IsLocal like sockets.listen × IsLocal like sockets.send

-- all addresses of all links are this machine's alone, and of one family
abbrev pub AreLocal : List (ℕ × LinkSockets) → Type 0
AreLocal links = (like : SocketAddr) × All (λ row. AreLinkLocal like row.1) links
