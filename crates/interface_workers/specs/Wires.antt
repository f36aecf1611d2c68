-- What happened on a wire, and how often it failed.
use Rattle.std.specs.Prelude.{◌≡◌, ◌+◌, ◌-◌, ◌^◌, ◌<◌, ◌++◌, ℕ, Bool, if◌then◌else◌, List, [], is_ok, map, sum_by, take, Option, Some, None, Result, Ok, Err}
use Rattle.journal_bytes.specs.declared.entry.WrittenFrame.{WrittenFrame}

-- What a wire answered that was asked for a frame: none came in its time; it failed; or a datagram came, with these bytes.
pub data Arrival : Type 0 where
  Silence : Arrival
  Fault : Arrival
  Came : List ℕ → Arrival

-- A frame that a wire was given, and whether the wire carried it over its link; else the frame is lost.
pub record Sending : Type 0 where
  pub frame : WrittenFrame
  pub is_carried : Bool

-- What happened on a wire so far: how often it failed; what it answered, and what it was given, each in its order, where a record is kept
-- of them.
pub record WireHistory : Type 0 where
  pub failed : ℕ
  pub answered : Option (List Arrival)
  pub given : Option (List Sending)

-- one, where the wire failed
abbrev pub fault_of : Arrival → ℕ
fault_of Silence = 0
fault_of Fault = 1
fault_of (Came bytes) = 0

-- one, where a datagram came
abbrev pub datagram_of : Arrival → ℕ
datagram_of Silence = 0
datagram_of Fault = 0
datagram_of (Came bytes) = 1

-- one, where the frame is lost
abbrev pub loss_of : Sending → ℕ
loss_of sending = if sending.is_carried then 0 else 1

-- how often a wire failed that answered so, how many datagrams came, and how many frames are lost
abbrev pub faults_in : List Arrival → ℕ
faults_in arrivals = sum_by fault_of arrivals

abbrev pub datagrams_in : List Arrival → ℕ
datagrams_in arrivals = sum_by datagram_of arrivals

abbrev pub lost_in : List Sending → ℕ
lost_in sendings = sum_by loss_of sendings

-- what is known, and more
abbrev pub known_with : {X : Type 0} → Option (List X) → List X → Option (List X)
known_with None more = None
known_with (Some known) more = Some (known ++ more)

-- The history goes on: the wire answered so, and was given this. It failed once more for each fault, and for each frame that is lost.
abbrev pub after : WireHistory → List Arrival → List Sending → WireHistory
after h arrivals sendings = record {
  failed = h.failed + (faults_in arrivals + lost_in sendings);
  answered = known_with h.answered arrivals;
  given = known_with h.given sendings;
}

-- what it is that a wire answered which was asked for a frame: the bytes that came stand at the front of the buffer
abbrev pub arrival_of : {E : Type 0} → Result (Option ℕ) E → List ℕ → Arrival
arrival_of (Ok None) buffer = Silence
arrival_of (Ok (Some len)) buffer = Came (take len buffer)
arrival_of (Err fault) buffer = Fault

-- what became of a frame that a wire was given
abbrev pub sending_of : {X E : Type 0} → ℕ → List ℕ → Result X E → Sending
sending_of link bytes answer = record { frame = record { link = link; bytes = bytes }; is_carried = is_ok answer }

-- Frames were given to a wire, each once and in their order, also those after one that is lost. Where the wire has failed as often as can
-- be counted, the rest of them were not.
pub record AreGiven (frames : List WrittenFrame) (sendings : List Sending) (failed : ℕ) : Type 0 where
  pub rest : List WrittenFrame
  pub order : frames ≡ map (λ s. s.frame) sendings ++ rest
  pub whole : failed < 2 ^ 64 - 1 → rest ≡ []

-- These frames were given to a wire, with this success, and nothing else happened on it.
pub record AreSent (frames : List WrittenFrame) (sendings : List Sending) (before now : WireHistory) : Type 0 where
  pub given : AreGiven frames sendings now.failed
  pub history : now ≡ after before [] sendings
