-- The rate of a SENDER_TSPEC and of a FLOWSPEC, and the fault of one that has none.
use Rattle.std.specs.Prelude.{ℕ, ◌==◌, nat_lt, if◌then◌else◌, List, drop, length, Result, Err, ok_or}
use Rattle.std.specs.Option.{unwrap_or}
use Rattle.byteorder.specs.Endian.{big_number}
use Rattle.rsvp_bodies.specs.Rates.{rate_of}
use Rattle.rsvp_bodies.specs.declared.traffic_fault.TrafficFault.{TrafficFault}
use Rattle.rsvp_bodies.specs.declared.traffic_fault.TrafficFault.TheVariants.{ServiceUnsupported, BadFlowspec, BadTspec}
use Rattle.rsvp_bodies.specs.TokenBuckets.{service_of, token_rate, with_service}

-- The rate of a SENDER_TSPEC, a token bucket for service 1, generic information (RFC 2210, 3.1), in whole
-- bytes per second, or what is wrong with it.
unfoldable pub tspec_rate : List ℕ → Result ℕ TrafficFault
tspec_rate body = ok_or (token_rate 1 body) BadTspec

-- The rate of a FLOWSPEC, a token bucket for service 5, controlled load (RFC 2210, 3.2.1), in whole bytes
-- per second, or what is wrong with it. The service comes first, where there are two words and so a service.
unfoldable pub flowspec_rate : List ℕ → Result ℕ TrafficFault
flowspec_rate body =
    if nat_lt (length body) 8 then Err BadFlowspec
    else if service_of body == 5 then ok_or (token_rate 5 body) BadFlowspec
    else Err ServiceUnsupported

-- the FLOWSPEC that asks for controlled load for the traffic of a SENDER_TSPEC
abbrev pub flowspec_of : List ℕ → List ℕ
flowspec_of tspec = with_service 5 tspec

-- the rate word of a SENDER_TSPEC of 32 bytes, whatever stands beside it (RFC 2210, 3.1)
abbrev pub rate_word : List ℕ → ℕ
rate_word tspec = big_number 4 (drop 12 tspec)

-- the rate that it asks for: 0 where its word stands for none
abbrev pub rate_asked : List ℕ → ℕ
rate_asked tspec = unwrap_or (rate_of (rate_word tspec)) 0
