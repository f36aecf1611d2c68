-- The body of a SENDER_TSPEC, and of a FLOWSPEC for controlled load: three words of headers, and the
-- five words r, b, p, m and M of a token bucket (RFC 2210, 3.1 and 3.2.1).
use Rattle.std.specs.Prelude.{ℕ, ◌/◌, ◌==◌, ◌&&◌, Bool, if◌then◌else◌, List, length, drop, slice_index, slice_set, Option, Some, None, option_and_then}
use Rattle.byteorder.specs.Endian.{big_number}
use Rattle.rsvp_bodies.specs.Rates.{rate_of}

-- word 1: the version in its top 4 bits
abbrev pub version_of : List ℕ → ℕ
version_of body = slice_index body 0 / 16

-- word 1: how many words follow it, in the low 16 bits
abbrev pub overall_words_of : List ℕ → ℕ
overall_words_of body = big_number 2 (drop 2 body)

-- word 2: the service in its top byte
abbrev pub service_of : List ℕ → ℕ
service_of body = slice_index body 4

-- word 2: how many words the service has after it, in the low 16 bits
abbrev pub service_words_of : List ℕ → ℕ
service_words_of body = big_number 2 (drop 6 body)

-- word 3: the parameter in its top byte
abbrev pub parameter_of : List ℕ → ℕ
parameter_of body = slice_index body 8

-- word 3: how many words the parameter has after it, in the low 16 bits
abbrev pub parameter_words_of : List ℕ → ℕ
parameter_words_of body = big_number 2 (drop 10 body)

-- the body is a token bucket, parameter 127, for the service
unfoldable pub has_shape : ℕ → List ℕ → Bool
has_shape service body =
    (length body == 32)
    && (version_of body == 0) && (overall_words_of body == 7)
    && (service_of body == service) && (service_words_of body == 6)
    && (parameter_of body == 127) && (parameter_words_of body == 5)

-- word 4: the rate r, where the body has the shape
unfoldable pub rate_word_of : ℕ → List ℕ → Option ℕ
rate_word_of service body = if has_shape service body then Some (big_number 4 (drop 12 body)) else None

-- its rate in whole bytes per second, rounded up
unfoldable pub token_rate : ℕ → List ℕ → Option ℕ
token_rate service body = option_and_then rate_of (rate_word_of service body)

-- the same body for another service
abbrev pub with_service : ℕ → List ℕ → List ℕ
with_service service body = slice_set body 4 service
