-- Bodies that have a rate, and what another service leaves of them.
use Rattle.std.proofs.Common.{◌≡◌, ℕ, ◌<◌, ◌&&◌, Bool, true, false, nat_lt, nat_eq, List, [], ◌∷◌, length, drop, if◌then◌else◌, Option, Some, None, Ok, refl, eq-eqb, arith}
use Rattle.std.specs.Option.{ok_or, option_and_then}
use Rattle.std.proofs.lemmas.Bool.{and_parts, eqb-true, le-ltb}
use Rattle.std.proofs.lemmas.List.{length-set, get_or-set_same, drop-set-lt}
use Rattle.byteorder.specs.Endian.{big_number}
use Rattle.rsvp_bodies.specs.Rates.{rate_of}
use Rattle.rsvp_bodies.specs.TokenBuckets.{has_shape, rate_word_of, token_rate, service_of}
use Rattle.rsvp_bodies.specs.Traffic.{flowspec_of, flowspec_rate, tspec_rate}
use Rattle.rsvp_bodies.specs.declared.traffic_fault.TrafficFault.TheVariants.{BadTspec}

-- the answer was there
some_of_ok : {X E : Type 0} (found : Option X) (fault : E) (x : X) → ok_or found fault ≡ Ok x → found ≡ Some x
some_of_ok None fault x is = cc
some_of_ok (Some y) fault x is = cc

-- a SENDER_TSPEC with a rate has the shape of one, and the rate of its word r
pub tspec_with_rate : (body : List ℕ) (rate : ℕ) → tspec_rate body ≡ Ok rate
    → (has_shape 1 body ≡ true) × (rate_of (big_number 4 (drop 12 body)) ≡ Some rate)
unfolding tspec_rate token_rate rate_word_of
tspec_with_rate body rate is =
    elim (has_shape 1 body) as (λ shape. option_and_then rate_of (if shape then Some (big_number 4 (drop 12 body)) else None) ≡ Some rate
    → (shape ≡ true) × (rate_of (big_number 4 (drop 12 body)) ≡ Some rate))
    [ true ↦ λ found. (refl, found) | false ↦ λ found. absurd cc ]
    (some_of_ok (token_rate 1 body) BadTspec rate is)

-- the first of two tests
first : (x y : Bool) → (x && y) ≡ true → x ≡ true
first x y both = (and_parts x y both).0

-- a body of the shape is whole
pub has_shape-whole : (service : ℕ) (body : List ℕ) → has_shape service body ≡ true → length body ≡ 32
unfolding has_shape
has_shape-whole service body shape =
    eqb-true (length body) 32 (first _ _ (first _ _ (first _ _ (first _ _ (first _ _ (first _ _ shape))))))

-- a SENDER_TSPEC with a rate is whole
pub tspec_rate-whole : (body : List ℕ) (rate : ℕ) → tspec_rate body ≡ Ok rate → length body ≡ 32
tspec_rate-whole body rate is = has_shape-whole 1 body (tspec_with_rate body rate is).0

-- the test of the service, among the others, in place of one that passes too
other_service : (a s w p q : Bool) → (a && s && w && p && q) ≡ true → (a && true && w && p && q) ≡ true
other_service true true w p q all = all
other_service true false w p q all = absurd cc
other_service false s w p q all = absurd cc

-- the FLOWSPEC of a SENDER_TSPEC keeps its shape
pub has_shape-flowspec_of : (body : List ℕ) → has_shape 1 body ≡ true → has_shape 5 (flowspec_of body) ≡ true
unfolding has_shape
has_shape-flowspec_of [] shape = absurd cc
has_shape-flowspec_of (a ∷ []) shape = absurd cc
has_shape-flowspec_of (a ∷ b ∷ []) shape = absurd cc
has_shape-flowspec_of (a ∷ b ∷ c ∷ []) shape = absurd cc
has_shape-flowspec_of (a ∷ b ∷ c ∷ d ∷ []) shape = absurd cc
has_shape-flowspec_of (a ∷ b ∷ c ∷ d ∷ service ∷ rest) shape = other_service _ (nat_eq service 1) _ _ _ shape

-- the FLOWSPEC of a SENDER_TSPEC with a rate has that rate
pub flowspec_rate-flowspec_of : (body : List ℕ) (rate : ℕ) → tspec_rate body ≡ Ok rate
    → flowspec_rate (flowspec_of body) ≡ Ok rate
unfolding flowspec_rate token_rate rate_word_of
flowspec_rate-flowspec_of body rate is =
    let tspec = tspec_with_rate body rate is in
    let found : rate_of (big_number 4 (drop 12 body)) ≡ Some rate = tspec.1 in
    let whole : length body ≡ 32 = tspec_rate-whole body rate is in
    let room : 4 < length body = omega arith in
    let same_length : length (flowspec_of body) ≡ length body = length-set body 4 5 in
    let named : nat_lt (length (flowspec_of body)) 8 ≡ false = le-ltb (length (flowspec_of body)) 8 (omega arith) in
    let service : nat_eq (service_of (flowspec_of body)) 5 ≡ true = eq-eqb (service_of (flowspec_of body)) 5 (get_or-set_same body 4 5 0 room) in
    let shape : has_shape 5 (flowspec_of body) ≡ true = has_shape-flowspec_of body tspec.0 in
    let near : 4 < 12 = omega arith in
    let same_word : drop 12 (flowspec_of body) ≡ drop 12 body = drop-set-lt 12 body 4 5 near in
    rw (named, service, shape, same_word, found) refl
