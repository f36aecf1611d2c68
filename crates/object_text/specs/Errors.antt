-- The names of the errors of RSVP, by code and value (RFC 2205, B; RFC 2750, A; RFC 3209, 7.3). Others have none.
use Rattle.std.specs.Prelude.{ℕ, ◌==◌, List, [], codes, if◌then◌else◌}

-- an error that one value of its code has
abbrev pub named : ℕ → ℕ → List ℕ → List ℕ
named value wanted name = if value == wanted then name else []

-- code 1, admission control failure
unfoldable pub admission_error : ℕ → List ℕ
admission_error value =
    if value == 1 then codes "DelayBound" else
    if value == 2 then codes "NoBandwidth" else
    if value == 3 then codes "MtuTooLarge" else
    []

-- code 5, conflicting reservation style: the value is the option vector of the style that it conflicts with
unfoldable pub style_error : ℕ → List ℕ
style_error value =
    if value == 10 then codes "ConflictsWithFixed" else
    if value == 18 then codes "ConflictsWithShared" else
    []

-- code 21, traffic control error
unfoldable pub traffic_error : ℕ → List ℕ
traffic_error value =
    if value == 1 then codes "ServiceConflict" else
    if value == 2 then codes "ServiceUnsupported" else
    if value == 3 then codes "BadFlowspec" else
    if value == 4 then codes "BadTspec" else
    if value == 5 then codes "BadAdspec" else
    []

-- code 24, routing problem
unfoldable pub routing_error : ℕ → List ℕ
routing_error value =
    if value == 1 then codes "BadExplicitRoute" else
    if value == 2 then codes "BadStrictNode" else
    if value == 3 then codes "BadLooseNode" else
    if value == 4 then codes "BadInitialSubobject" else
    if value == 5 then codes "NoRoute" else
    if value == 6 then codes "BadLabel" else
    if value == 7 then codes "RoutingLoop" else
    if value == 8 then codes "NonRsvpRouter" else
    if value == 9 then codes "LabelsTaken" else
    if value == 10 then codes "UnsupportedL3pid" else
    []

-- code 25, notify
unfoldable pub notice : ℕ → List ℕ
notice value =
    if value == 1 then codes "RecordTooLong" else
    if value == 2 then codes "RecordNotified" else
    if value == 3 then codes "LocallyRepaired" else
    []

-- Codes 13 and 14, an object of an unknown class or C-Type, have one name for all values.
unfoldable pub error_name : ℕ → ℕ → List ℕ
error_name code value =
    if code == 1 then admission_error value else
    if code == 2 then named value 5 (codes "PreemptedByPolicy") else
    if code == 3 then named value 0 (codes "NoPath") else
    if code == 4 then named value 0 (codes "NoSender") else
    if code == 5 then style_error value else
    if code == 6 then named value 0 (codes "UnknownStyle") else
    if code == 12 then named value 0 (codes "Preempted") else
    if code == 13 then codes "UnknownClass" else
    if code == 14 then codes "UnknownCType" else
    if code == 21 then traffic_error value else
    if code == 23 then named value 0 (codes "SystemError") else
    if code == 24 then routing_error value else
    if code == 25 then notice value else
    []
