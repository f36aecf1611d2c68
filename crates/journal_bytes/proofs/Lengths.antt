-- How long what is written is.
use Rattle.std.proofs.Common.{◌≡◌, ◌≤◌, ◌<◌, ◌+◌, ◌++◌, ℕ, List, [], ◌∷◌, length, get_or, take, Result, Ok, Err, OnOk, is_ok, if◌then◌else◌, refl, sym, ap, ◌∙◌, append_assoc, arith}
use Rattle.std.specs.List.{flat_map}
use Rattle.std.proofs.lemmas.List.{take_more, flat_map_more, length-append}
use Rattle.rsvp_bodies.proofs.Counts.{length-one_more}
use Rattle.rsvp_contents.specs.declared.message.Reading.{Reading}
use Rattle.rsvp_contents.specs.Spelling.{SpellsReading}
use Rattle.rsvp_messages.proofs.Written.{header_short}

-- what is a message's bytes can be counted in 4 bytes
pub message_countable : (bytes message : List ℕ) (reading : Reading) → bytes ≡ message → SpellsReading message reading → length bytes < 4294967296
message_countable bytes message reading same s =
    let short : length message ≤ 4096 = header_short message s.1.header in
    let e : length bytes ≡ length message = ap length same in
    omega arith

-- what is appended in two parts is appended
pub two_parts : (old mid new a b : List ℕ) → mid ≡ old ++ a → new ≡ mid ++ b → new ≡ old ++ (a ++ b)
two_parts old mid new a b p q = q ∙ (ap (λ (x : List ℕ). x ++ b) p ∙ append_assoc old a b)

-- where there is memory for the second
pub second_part : {A E : Type 0} (old mid new a b : List ℕ) (r : Result A E) → mid ≡ old ++ a → new ≡ (if is_ok r then mid ++ b else mid) → OnOk r (new ≡ old ++ (a ++ b))
second_part old mid new a b (Ok done) p q = two_parts old mid new a b p q
second_part old mid new a b (Err error) p q = tt

-- what is so is so then, too
pub then_too : {A E P : Type 0} (r : Result A E) → P → OnOk r P
then_too (Ok done) p = p
then_too (Err error) p = tt

-- one more item is written after those so far
pub one_more : {X : Type 0} (f : X → List ℕ) (before after : List ℕ) (xs : List X) (i : ℕ) (x : X) → i < length xs → x ≡ get_or xs i x →
    before ≡ flat_map f (take i xs) → after ≡ before ++ f x → after ≡ flat_map f (take (i + 1) xs)
one_more {X} f before after xs i x inside is e a =
    let items : take (i + 1) xs ≡ take i xs ++ x ∷ [] = take_more xs i x inside ∙ ap (λ (v : X). take i xs ++ v ∷ []) (sym is) in
    rw (items, ← flat_map_more f [] (take i xs) x, a, e) refl

-- and with a byte or more of it there are so many bytes as items
pub one_longer : {X : Type 0} (f : X → List ℕ) (xs : List X) (i : ℕ) (x : X) → i < length xs → x ≡ get_or xs i x →
    i ≤ length (flat_map f (take i xs)) → 1 ≤ length (f x) → i + 1 ≤ length (flat_map f (take (i + 1) xs))
one_longer {X} f xs i x inside is so_far long =
    let whole : flat_map f (take i xs) ++ f x ≡ flat_map f (take (i + 1) xs) = one_more f (flat_map f (take i xs)) (flat_map f (take i xs) ++ f x) xs i x inside is refl refl in
    omega (arith, ap length whole, length-append (flat_map f (take i xs)) (f x))

-- in a route that fits its object there is room for one more step
pub room_left : {X : Type 0} (f : X → List ℕ) (xs ys : List X) (i : ℕ) (x : X) → xs ≡ ys → length (flat_map f ys) ≤ 65528 → i < length xs → x ≡ get_or xs i x →
    length (flat_map f (take i xs)) + length (f x) ≤ 65528
room_left {X} f xs ys i x same fits inside is =
    let room = length-one_more f xs i x inside is in
    let e : length (flat_map f xs) ≡ length (flat_map f ys) = ap (λ (v : List X). length (flat_map f v)) same in
    omega (arith, room)
