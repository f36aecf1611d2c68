-- Traffic descriptions of a whole length.
use Rattle.std.specs.Prelude.{◌≡◌, ℕ, List, length}

-- it has 32 bytes (RFC 2210, 3.1 and 3.2)
abbrev pub IsTraffic : List ℕ → Type 0
IsTraffic bytes = length bytes ≡ 32

-- its bytes
abbrev pub same_traffic : List ℕ → List ℕ
same_traffic bytes = bytes
