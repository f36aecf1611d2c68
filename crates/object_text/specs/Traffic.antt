-- What a SENDER_TSPEC and a FLOWSPEC say (RFC 2210, 3.1 and 3.2).
use Rattle.std.specs.Prelude.{ℕ, ◌==◌, List, [], ◌++◌, codes, length, drop, take, slice_index, Option, Some, None, if◌then◌else◌}
use Rattle.std.specs.Fmt.{decimal}
use Rattle.byteorder.specs.Endian.{big_number}
use Rattle.rsvp_bodies.specs.Rates.{rate_of}
use Rattle.object_text.specs.Words.{next_word, word_text}

-- the IEEE 754 word of plus infinity
abbrev pub infinity : ℕ
infinity = 0x7f800000

-- the token bucket rate of a SENDER_TSPEC or a FLOWSPEC: the fourth word of its body (RFC 2210, 3.1 and 3.2)
abbrev pub rate_bytes : List ℕ → List ℕ
rate_bytes body = take 4 (drop 12 body)

-- a whole number
abbrev pub whole_text : Option ℕ → List ℕ
whole_text None = codes "none"
whole_text (Some number) = decimal number

-- what an IEEE 754 word stands for, as a whole number, rounded up; `none` where it is negative, no number, or 2^50 or more
unfoldable pub amount_text : ℕ → List ℕ
amount_text word = if word == infinity then codes "infinite" else whole_text (rate_of word)

-- a rate or a size under its name: the word's hexadecimal digits, and what it stands for in bytes
unfoldable pub amount_words : List ℕ → ℕ → List ℕ
amount_words name word = codes " " ++ (name ++ (codes " " ++ (word_text word ++ (codes " " ++ amount_text word))))

-- the services that are known (RFC 2210, 3.1; RFC 2212; RFC 2211)
unfoldable pub service_name : ℕ → List ℕ
service_name service =
    if service == 1 then codes "general" else
    if service == 2 then codes "guaranteed" else
    if service == 5 then codes "controlled-load" else
    []

unfoldable pub service_words : ℕ → List ℕ
service_words service = codes " service " ++ (decimal service ++ next_word (service_name service))

-- the word that begins at this place
abbrev pub word_at : ℕ → List ℕ → ℕ
word_at place body = big_number 4 (drop place body)

-- the token bucket's rates and its size: r, b and p
unfoldable pub bucket_words : List ℕ → List ℕ
bucket_words body =
    amount_words (codes "rate") (word_at 12 body) ++ (amount_words (codes "bucket") (word_at 16 body) ++ amount_words (codes "peak") (word_at 20 body))

-- the sizes of packets: m and M
unfoldable pub sizes_words : List ℕ → List ℕ
sizes_words body = codes " min " ++ (decimal (word_at 24 body) ++ (codes " max " ++ decimal (word_at 28 body)))

-- A body of 32 bytes: the service, and the token bucket r, b, p, m and M. Of another body its length.
unfoldable pub traffic_words : List ℕ → List ℕ
traffic_words body =
    if length body == 32
    then service_words (slice_index body 4) ++ (bucket_words body ++ sizes_words body)
    else codes " length " ++ decimal (length body)
