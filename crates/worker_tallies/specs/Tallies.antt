-- What became of what a worker took, and how it is counted.
use Rattle.std.specs.Prelude.{◌≡◌, ◌+◌, ◌-◌, ◌^◌, ◌&&◌, if◌then◌else◌, ℕ, min, nat_le}
use Rattle.lsr_facts.specs.Refusals.{number_of}
use Rattle.lsr_facts.specs.declared.refusal.Refusal.{Refusal}
use Rattle.worker_tallies.specs.declared.handled.Handled.{Handled}
use Rattle.worker_tallies.specs.declared.handled.Handled.TheVariants.{Nothing, WireFailed, Fed, Dropped, Refused, Forwarded, Delivered, NotShown, NotCarried}
use Rattle.worker_tallies.specs.declared.handled.Tally.{Tally}

-- what becomes of what is refused: for the router's own reasons, numbers 40 to 43; by every other number it is dropped
abbrev pub handled_for : Refusal → Handled
handled_for refusal = if nat_le 40 (number_of refusal) && nat_le (number_of refusal) 43 then Refused refusal else Dropped refusal

-- one, where it was a datagram or an event
abbrev pub taken_as : Handled → ℕ
taken_as Nothing = 0
taken_as WireFailed = 0
taken_as handled = 1

-- one, where the wire failed that was asked for a frame
abbrev pub faults_as : Handled → ℕ
faults_as WireFailed = 1
faults_as handled = 0

-- one, where it left a receipt
abbrev pub receipts_as : Handled → ℕ
receipts_as Fed = 1
receipts_as handled = 0

abbrev pub with_dropped : Tally → Tally
with_dropped t = record t { datagrams = t.datagrams + 1; dropped = t.dropped + 1 }

abbrev pub with_passed : Tally → Tally
with_passed t = record t { datagrams = t.datagrams + 1; passed = t.passed + 1 }

abbrev pub with_fed : Tally → Tally
with_fed t = record t { datagrams = t.datagrams + 1; fed = t.fed + 1 }

abbrev pub with_refused : Tally → Tally
with_refused t = record t { datagrams = t.datagrams + 1; refused = t.refused + 1 }

-- faults are counted up to the greatest number of their width
abbrev pub with_fault : Tally → Tally
with_fault t = record t { faults = min (t.faults + 1) (2 ^ 64 - 1) }

-- and so are frames that are lost
abbrev pub with_lost : Tally → ℕ → Tally
with_lost t lost = record t { lost = min (t.lost + lost) (2 ^ 64 - 1) }

-- which count rises for what was taken
abbrev pub counted : Tally → Handled → Tally
counted t Nothing = t
counted t WireFailed = with_fault t
counted t Fed = with_fed t
counted t (Dropped refusal) = with_dropped t
counted t (Refused refusal) = with_refused t
counted t Forwarded = with_passed t
counted t Delivered = with_passed t
counted t NotShown = with_dropped t
counted t NotCarried = with_dropped t

-- nothing is counted yet
abbrev pub no_tally : Tally
no_tally = record { datagrams = 0; dropped = 0; passed = 0; fed = 0; refused = 0; lost = 0; faults = 0 }

-- The tally adds up beside so many receipts: each datagram is counted as one of four kinds, and each that was fed has a receipt.
pub record IsSum (t : Tally) (receipts : ℕ) : Type 0 where
  pub datagrams : t.datagrams ≡ t.dropped + t.passed + t.fed + t.refused
  pub fed : t.fed ≡ receipts
