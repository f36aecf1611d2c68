-- A packet as the definitions see it, without its number.
use Rattle.std.specs.Prelude.{ℕ, List, Option, option_map}
use Rattle.std.specs.Duration.{as_nanos}
use Rattle.capture_files.specs.declared.packet.Packet.{Packet}

-- its time in nanoseconds since the beginning of 1970, its link type, what was captured of it, and its length on its link
pub record Seen : Type 0 where
  pub time : Option ℕ
  pub link_type : ℕ
  pub bytes : List ℕ
  pub original_len : ℕ

abbrev pub seen : Packet → Seen
seen p = record { time = option_map as_nanos p.time; link_type = p.link_type; bytes = p.bytes.now; original_len = p.original_len }
