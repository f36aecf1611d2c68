-- When a message is due again.
use Rattle.std.proofs.Common.{◌≡◌, ◌<◌, ◌^◌, ◌+◌, ℕ, None, Some, true, false, cond, refl, nat_le, nat_lt, arith}
use Rattle.std.proofs.lemmas.Bool.Decides.{nat_tests}
use Rattle.timer_wheel.specs.Due.{has_come}
use Rattle.lsr_facts.specs.Lifetimes.{has_waited}
use Rattle.refresh_timers.specs.Timers.{again_at}

-- the moment at which it is to be sent again has come where it has waited for a refresh period
pub come_waited : (refresh_ms sent now : ℕ) → now < 2 ^ 64 → has_come now (again_at refresh_ms sent) ≡ has_waited refresh_ms sent now
come_waited refresh_ms sent now fits =
    elim (nat_lt (sent + refresh_ms) (2 ^ 64)) as (λ b. nat_lt (sent + refresh_ms) (2 ^ 64) ≡ b → has_come now (cond b (Some (sent + refresh_ms)) None) ≡ nat_le (sent + refresh_ms) now) [
      | true ↦ λ e. refl
      | false ↦ λ e. grind (arith, nat_tests)
    ] refl
