-- What cuts a text at its first newline, what reads a link or a moment, and what a line asks for.
use Rattle.std.proofs.Common.{◌≡◌, ◌≢◌, ◌<◌, ◌≤◌, ◌^◌, ℕ, List, [], ◌∷◌, ◌++◌, Result, Ok, Err, true, refl, sym, ap, subst, ◌∙◌, arith, get_or, length, Bor, Bool, false, ap₂, ◌&&◌, ◌||◌, ◌-◌, ◌%◌, nat_le, is_some, if◌then◌else◌}
use Rattle.std.proofs.lemmas.List.{append_cancel_left}
use Rattle.std.specs.Prelude.{Option, Some, None}
use Rattle.std.specs.Option.{MatchOption}
use Rattle.std.specs.Result.{OkIff, OnErr}
use Rattle.std.specs.Str.{all_ascii_digits}
use Rattle.std.specs.Str.Parse.{digits_value, ParsesUnsigned}
use Rattle.std.proofs.lemmas.Str.Parse.{IsNumeralModel, numerals_by_value, tells_all_ascii_digits, parse_plain, not_in_digits}
use Rattle.std.proofs.lemmas.Str.Pattern.{IsSplitOnceResult, split_after}
use Rattle.std.specs.Bool.{MatchBool}
use Rattle.std.specs.Char.{is_ascii_hexdigit}
use Rattle.std.specs.List.{list_all}
use Rattle.std.proofs.lemmas.List.Sums.{AllPass-from_list_all, list_all-from_AllPass}
use Rattle.hex.specs.Hex.{decode_of, decode_pairs, is_hex_digit}
use Rattle.hex.proofs.HexLemmas.{decode_of-digits, decode_of-ok}
use Rattle.lsr_lines.specs.Lines.{AsksOf, AsksToTake, BringsAfter}
use Rattle.lsr_lines.specs.Numbers.{NamesLink, NamesWhole, NamesUpTo}

pub own : IsNumeralModel (λ ds. all_ascii_digits ds ≡ true) (digits_value 10)
own = numerals_by_value _ tells_all_ascii_digits

-- `parse` takes digits that begin with no sign
pub digits_parsed : {E : Type 0} (width : ℕ) (digits : List ℕ) (r : Result ℕ E) → get_or digits 0 0 ≢ 43 → ParsesUnsigned width 10 digits r → OkIff r ((all_ascii_digits digits ≡ true) × (0 < length digits) × (digits_value 10 digits < 2 ^ width)) (digits_value 10 digits)
digits_parsed width digits r plain h = parse_plain own width digits r h plain

no_sign : (digits : List ℕ) → all_ascii_digits digits ≡ true → get_or digits 0 0 ≡ 43 → ⊥
no_sign [] h e = absurd (omega (arith, e))
no_sign (d ∷ ds) h e = let p = tells_all_ascii_digits.parts d ds h in absurd (omega (arith, p.0.0, p.0.1, e))

pub no_link_signed : (digits : List ℕ) (link : ℕ) → get_or digits 0 0 ≡ 43 → NamesLink digits link → ⊥
no_link_signed digits link e n = no_sign digits n.decimal e

pub no_whole_signed : (digits : List ℕ) (moment : ℕ) → get_or digits 0 0 ≡ 43 → NamesWhole digits moment → ⊥
no_whole_signed digits moment e n = no_sign digits n.decimal e

digits_some : (digits : List ℕ) → 1 ≤ digits_value 10 digits → 0 < length digits
digits_some [] h = absurd (omega (arith, h))
digits_some (d ∷ ds) h = omega arith

pub no_link : {E : Type 0} (digits : List ℕ) (e : E) (link : ℕ) → get_or digits 0 0 ≢ 43 → ParsesUnsigned 16 10 digits (Err e) → NamesLink digits link → ⊥
no_link digits e link plain h n = digits_parsed 16 digits (Err e) plain h (n.decimal, digits_some digits (omega (arith, n.value, n.low)), omega (arith, n.value, n.high))

pub no_whole : {E : Type 0} (digits : List ℕ) (e : E) (moment : ℕ) → get_or digits 0 0 ≢ 43 → ParsesUnsigned 64 10 digits (Err e) → NamesWhole digits moment → ⊥
no_whole digits e moment plain h n = digits_parsed 64 digits (Err e) plain h (n.decimal, omega (arith, n.some), omega (arith, n.value, n.high))

pub no_number : {E : Type 0} (digits : List ℕ) (e : E) (most number : ℕ) → most < 2 ^ 16 → get_or digits 0 0 ≢ 43 → ParsesUnsigned 16 10 digits (Err e) → NamesUpTo most digits number → ⊥
no_number digits e most number low plain h n = digits_parsed 16 digits (Err e) plain h (n.decimal, omega (arith, n.some), omega (arith, n.value, n.high, low))

-- what is after the word is that of the line
pub words_of : (word line words : List ℕ) (link : ℕ) (bytes : List ℕ) → line ≡ word ++ words → (a : AsksToTake word line link bytes) → words ≡ a.link_digits ++ (32 ∷ a.hex_digits)
words_of word line words link bytes e a = append_cancel_left word words _ (sym e ∙ a.parts)

no_space : (digits : List ℕ) → all_ascii_digits digits ≡ true → (i : ℕ) → i < length digits → get_or digits i 0 ≢ 32
no_space digits h = not_in_digits own digits 32 h (λ r. absurd (omega (arith, r.0)))

-- so the first space parts them
pub parts_of : (word words : List ℕ) (line : List ℕ) (link : ℕ) (bytes : List ℕ) (r : Option (Bor (List ℕ) × Bor (List ℕ))) → line ≡ word ++ words → IsSplitOnceResult 32 words r → (a : AsksToTake word line link bytes) → MatchOption r ⊥ (λ x. (x.0.now ≡ a.link_digits) × (x.1.now ≡ a.hex_digits))
parts_of word words line link bytes r e h a = split_after 32 words a.link_digits a.hex_digits r h (omega arith) (words_of word line words link bytes e a) (no_space a.link_digits a.names.decimal)

-- so there is a space
pub no_parts : (word line words : List ℕ) (link : ℕ) (bytes : List ℕ) (r : Option (Bor (List ℕ) × Bor (List ℕ))) → ((x : Bor (List ℕ) × Bor (List ℕ)) → r ≡ Some x → ⊥) → line ≡ word ++ words → IsSplitOnceResult 32 words r → AsksToTake word line link bytes → ⊥
no_parts word line words link bytes None none e h a = parts_of word words line link bytes None e h a
no_parts word line words link bytes (Some x) none e h a = none x refl

-- and what stands before it is the link
pub same_names : (digits others : List ℕ) (link : ℕ) → digits ≡ others → NamesLink others link → NamesLink digits link
same_names digits others link e n = subst (λ d. NamesLink d link) (sym e) n

pub no_name : (digits others : List ℕ) (link : ℕ) (r : Option ℕ) → ((x : ℕ) → r ≡ Some x → ⊥) → MatchOption r ((l : ℕ) → NamesLink digits l → ⊥) (NamesLink digits) → digits ≡ others → NamesLink others link → ⊥
no_name digits others link None none h e n = h link (same_names digits others link e n)
no_name digits others link (Some x) none h e n = none x refl

-- where there is no memory for the bytes, the line brings some
pub brings : (word line words link_digits hex_digits : List ℕ) (link : ℕ) → line ≡ word ++ words → words ≡ link_digits ++ (32 ∷ hex_digits) → NamesLink link_digits link
    → (bytes : List ℕ) × (decode_of hex_digits ≡ Ok bytes) × (1 ≤ length bytes) → BringsAfter word line
brings word line words link_digits hex_digits link e f names h =
    record { link = link; bytes = h.0; asks = record { link_digits = link_digits; hex_digits = hex_digits; parts = e ∙ ap (λ w. word ++ w) f; names = names; spelled = h.1 }; some = h.2 }

pub for_error : {T E P : Type 0} (r : Result T E) → P → OnErr r P
for_error (Ok x) p = tt
for_error (Err e) p = p

-- and what stands after it are the bytes
pub no_bytes : (digits others message : List ℕ) → ((bytes : List ℕ) → decode_of digits ≡ Ok bytes → ⊥) → digits ≡ others → decode_of others ≡ Ok message → ⊥
no_bytes digits others message none e m = none message (ap decode_of e ∙ m)

-- a digit is one of the three ranges, in whatever order they are looked at
one_of_three : (a b c : Bool) (x y z : ℕ) → ((c || a) || b) ≡ is_some (if a then Some x else if b then Some y else if c then Some z else None)
one_of_three true b true x y z = refl
one_of_three true b false x y z = refl
one_of_three false true true x y z = refl
one_of_three false true false x y z = refl
one_of_three false false true x y z = refl
one_of_three false false false x y z = refl

same_digit : (c : ℕ) → is_ascii_hexdigit c ≡ is_hex_digit c
same_digit c = one_of_three (nat_le 65 c && nat_le c 70) (nat_le 97 c && nat_le c 102) (nat_le 48 c && nat_le c 57) (c - 55) (c - 87) (c - 48)

same_digits : (digits : List ℕ) → list_all is_ascii_hexdigit digits ≡ list_all is_hex_digit digits
same_digits [] = refl
same_digits (d ∷ ds) = ap₂ (λ (a b : Bool). a && b) (same_digit d) (same_digits ds)

-- an even number of digits spells bytes
pub spelled : (digits : List ℕ) → length digits % 2 ≡ 0 → list_all is_ascii_hexdigit digits ≡ true → (bytes : List ℕ) × (decode_of digits ≡ Ok bytes)
spelled digits even all = decode_of-digits digits even (AllPass-from_list_all is_hex_digit digits (sym (same_digits digits) ∙ all))

-- and nothing else does
pub spelled_by : (digits bytes : List ℕ) → decode_of digits ≡ Ok bytes → (length digits % 2 ≡ 0) × (list_all is_ascii_hexdigit digits ≡ true)
spelled_by digits bytes h = let ok = decode_of-ok digits bytes h in (ok.0, same_digits digits ∙ list_all-from_AllPass is_hex_digit digits ok.1)

-- so a test of both tells them apart
pub spelled_where : (digits : List ℕ) (r : Bool) → length digits % 2 ≡ 0 → r ≡ list_all is_ascii_hexdigit digits → MatchBool r ((bytes : List ℕ) × (decode_of digits ≡ Ok bytes)) ((bytes : List ℕ) → decode_of digits ≡ Ok bytes → ⊥)
spelled_where digits true even e = spelled digits even (sym e)
spelled_where digits false even e = λ bytes h. let t = e ∙ (spelled_by digits bytes h).1 in cc

-- no digits spell no byte
pub spelled_none : (digits : List ℕ) → length digits ≡ 0 → decode_of digits ≡ Ok []
unfolding decode_pairs
spelled_none [] e = refl
spelled_none (d ∷ ds) e = absurd (omega (arith, e))

-- some digits spell a byte or more
pub spelled_some : (digits bytes : List ℕ) → decode_of digits ≡ Ok bytes → 0 < length digits → 1 ≤ length bytes
spelled_some digits bytes h low = let ok = decode_of-ok digits bytes h in omega (arith, ok.2, low)

-- a line that names a number after a word names that of what is after it
pub number_after : (Names : List ℕ → ℕ → Type 0) (word line digits : List ℕ) (r : Option ℕ) → line ≡ word ++ digits → MatchOption r ((n : ℕ) → Names digits n → ⊥) (Names digits) → MatchOption r ((n : ℕ) → AsksOf Names word line n → ⊥) (AsksOf Names word line)
number_after Names word line digits None e h = λ n a. h n (subst (λ d. Names d n) (append_cancel_left word a.digits digits (sym a.parts ∙ e)) a.names)
number_after Names word line digits (Some n) e h = record { digits = digits; parts = e; names = h }
