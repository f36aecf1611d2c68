-- Reservation styles: the low five bits of STYLE's option vector (RFC 2205, A.7).
use Rattle.std.specs.Prelude.{◌%◌, ◌==◌, ◌||◌, Bool, not}
use Rattle.rsvp_objects.specs.declared.values.Style.{Style}

-- fixed filter, FF: 01010
abbrev pub is_fixed : Style → Bool
is_fixed style = style.word % 32 == 10

-- shared explicit, SE: 10010
abbrev pub is_shared : Style → Bool
is_shared style = style.word % 32 == 18

-- any other style
abbrev pub is_other : Style → Bool
is_other style = not (is_fixed style || is_shared style)
