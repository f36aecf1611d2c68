-- What the parts of the reader of datagrams answer.
use Rattle.std.specs.Prelude.{◌≡◌, ◌⊎◌, Result, Err}
use Rattle.rsvp_contents.specs.declared.dropped.Dropped.{Dropped}
use Rattle.rsvp_contents.specs.declared.dropped.Dropped.TheVariants as dropped
use Rattle.lsr_facts.specs.declared.refusal.Refusal.{Refusal}
use Rattle.lsr_facts.specs.declared.refusal.Refusal.TheVariants as refusals
use Rattle.datagrams.specs.declared.datagram.Datagram.{Datagram}

-- the answer is right, or memory ran out
abbrev pub OrNoMemory : (Result Datagram Refusal → Type 0) → Result Datagram Refusal → Type 0
OrNoMemory IsRight answer = IsRight answer ⊎ (answer ≡ Err refusals.NoMemory)

-- why a datagram is refused, by what its reader answers: that memory ran out is no fault of it
abbrev pub refusal_for : Dropped → Refusal
refusal_for dropped.NoMemory = refusals.NoMemory
refusal_for fault = refusals.Unread fault
