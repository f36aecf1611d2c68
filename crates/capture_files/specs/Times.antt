-- When a packet was captured, in nanoseconds since the beginning of 1970.
use Rattle.std.specs.Prelude.{ℕ, ◌-◌, ◌*◌, ◌/◌, ◌^◌, nat_lt, nat_le, if◌then◌else◌, ◌&&◌, Option, Some, None, option_map, option_and_then}

-- The units in a second, by the value of the option if_tsresol (draft-ietf-opsawg-pcapng, 4.2): a power of 10, or with
-- the top bit one of 2. None where there are more of them than 64 bits count.
abbrev pub units_in : ℕ → Option ℕ
units_in resolution =
    if nat_lt resolution 20 then Some (10 ^ resolution)
    else if nat_le 128 resolution && nat_lt resolution 192 then Some (2 ^ (resolution - 128))
    else None

-- the nanoseconds of so many units
abbrev pub nanos_in : ℕ → ℕ → Option ℕ
nanos_in resolution count = option_map (λ units. count * 1_000_000_000 / units) (units_in resolution)

-- the same, where the resolution is known
abbrev pub time_in : Option ℕ → ℕ → Option ℕ
time_in resolution count = option_and_then (λ r. nanos_in r count) resolution
