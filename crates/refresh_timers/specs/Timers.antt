-- What timers say (RFC 2205, 3.7).
use Rattle.std.specs.Prelude.{ℕ, ◌+◌, ◌^◌, cond, nat_lt, List, Option, None, Some}

-- the refresh period in milliseconds, and the moment at which each message was last sent
pub record Timers (I : Type 0) : Type 0 where
  pub refresh_ms : ℕ
  pub sent : List (I × ℕ)

-- The moment at which a message is to be sent again; none where it is past all that a clock tells.
abbrev pub again_at : ℕ → ℕ → Option ℕ
again_at refresh_ms sent = cond (nat_lt (sent + refresh_ms) (2 ^ 64)) (Some (sent + refresh_ms)) None
