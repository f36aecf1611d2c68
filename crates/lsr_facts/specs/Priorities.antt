-- The priorities of an LSP (RFC 3209, 4.7.1): 0 is the best, 7 the worst.
use Rattle.std.specs.Prelude.{ℕ, nat_lt, if◌then◌else◌, Option}
use Rattle.std.specs.Option.{option_map_or}
use Rattle.rsvp_bodies.specs.declared.attr.Attr.{Attr}

-- the lesser of two numbers
abbrev pub lesser : ℕ → ℕ → ℕ
lesser a b = if nat_lt b a then b else a

-- a priority above 7 counts as 7
abbrev pub counted : ℕ → ℕ
counted priority = lesser priority 7

-- The priority at which an LSP takes bandwidth from others: the worst, where it says none.
unfoldable pub setup_of : Option Attr → ℕ
setup_of attr = option_map_or (λ a. counted a.setup) attr 7

-- The priority at which it keeps what it has: the better of the two that it names. Otherwise two LSPs could take the
-- same bandwidth from each other without end.
unfoldable pub holding_of : Option Attr → ℕ
holding_of attr = option_map_or (λ a. lesser (counted a.setup) (counted a.hold)) attr 7
