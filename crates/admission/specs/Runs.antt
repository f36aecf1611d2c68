-- Where the claims of a session stand in the order of keys.
use Rattle.std.specs.Prelude.{◌≡◌, ℕ, true, false, Bool, List}
use Rattle.std.specs.List.Sorted.{IsPartitionPoint}
use Rattle.std.specs.Ordering.{is_lt}
use Rattle.rsvp_objects.specs.declared.values.Session.{Session}
use Rattle.lsr_facts.specs.Orders.{session_cmp}
use Rattle.lsr_facts.specs.declared.key.Key.{Key}
use Rattle.lsr_facts.specs.declared.claim.Claim.{Claim}

-- the claim is of a lesser session
abbrev pub comes_before : Session → Key × Claim → Bool
comes_before session row = is_lt (session_cmp row.0.session session)

-- the place where a session's claims begin: those of lesser sessions stand before it, and no others
abbrev pub IsStart : Session → List (Key × Claim) → ℕ → Type 0
IsStart session claims start = IsPartitionPoint (λ row. comes_before session row ≡ true) (λ row. comes_before session row ≡ false) claims start
