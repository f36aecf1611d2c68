-- The frame that an object's length field makes, and the object's bytes.
use Rattle.std.proofs.Common.{◌≡◌, ℕ, suc, ◌+◌, ◌-◌, ◌*◌, ◌/◌, ◌%◌, ◌<◌, ◌≤◌, List, [], ◌∷◌, ◌++◌, length, take, drop, get_or, Some, None, true, refl, sym, ap, ◌∙◌, subst, arith, length-append}
use Rattle.std.proofs.lemmas.Bool.{and_parts, leb-true, eqb-true, le-leb, eq-eqb, and_from, cond-true}
use Rattle.std.proofs.lemmas.Option.{cond_some}
use Rattle.std.proofs.lemmas.List.{length-take-le, take-append-drop}
use Rattle.std.proofs.Math.Seq.{take-append_seam}
use Rattle.byteorder.specs.Endian.{big_number, big_bytes}
use Rattle.byteorder.specs.Numbers.{big_number-reads_back}
use Rattle.rsvp_objects.specs.Raw.{Raw, object_bytes, IsRaw}
use Rattle.rsvp_objects.specs.Framing.{has_frame, frame_at, frame_in}

-- every number is a byte
abbrev pub IsBytes : List ℕ → Type 0
IsBytes bytes = (i : ℕ) → get_or bytes i 0 < 256

-- the first bytes are the object raw
pub record IsFrame (bytes : List ℕ) (raw : Raw) : Type 0 where
  pub within : length raw.body + 4 ≤ length bytes
  pub front : take (length raw.body + 4) bytes ≡ object_bytes raw
  pub is_raw : IsRaw raw

-- what has_frame tests, as facts
pub record HasFrame (bytes : List ℕ) : Type 0 where
  pub header : 4 ≤ length bytes
  pub least : 4 ≤ big_number 2 bytes
  pub words : big_number 2 bytes % 4 ≡ 0
  pub within : big_number 2 bytes ≤ length bytes

pub HasFrame-from_test : (bytes : List ℕ) → has_frame bytes ≡ true → HasFrame bytes
HasFrame-from_test bytes t =
    let one = and_parts _ _ t in
    let two = and_parts _ _ one.1 in
    let three = and_parts _ _ two.1 in
    record { header = leb-true _ _ one.0; least = leb-true _ _ two.0; words = eqb-true _ _ three.0; within = leb-true _ _ three.1 }

pub has_frame-from_facts : (bytes : List ℕ) → HasFrame bytes → has_frame bytes ≡ true
has_frame-from_facts bytes h =
    and_from _ _ (le-leb _ _ h.header) (and_from _ _ (le-leb _ _ h.least) (and_from _ _ (eq-eqb _ _ h.words) (le-leb _ _ h.within)))

-- a length field of n + 4 frames n bytes of body
frame_cells : (a b class ctype n : ℕ) (rest : List ℕ) → a < 256 → b < 256 → class < 256 → ctype < 256 → a * 256 + b ≡ n + 4 → n % 4 ≡ 0 → n ≤ length rest →
    IsFrame (a ∷ b ∷ class ∷ ctype ∷ rest) (record { class = class; ctype = ctype; body = take n rest })
frame_cells a b class ctype n rest ha hb hc ht e w l =
    let len : length (take n rest) ≡ n = length-take-le n rest l in
    let four : n + 4 ≡ suc (suc (suc (suc n))) = omega arith in
    let high : (n + 4) / 256 % 256 ≡ a = omega arith in
    let low : (n + 4) % 256 ≡ b = omega arith in
    let first : take (n + 4) (a ∷ b ∷ class ∷ ctype ∷ rest) ≡ a ∷ b ∷ class ∷ ctype ∷ take n rest = rw four refl in
    let field : a ∷ b ∷ class ∷ ctype ∷ take n rest ≡ big_bytes 2 (n + 4) ++ (class ∷ ctype ∷ take n rest) =
    ap (λ (x : ℕ). x ∷ b ∷ class ∷ ctype ∷ take n rest) (sym high)
    ∙ ap (λ (x : ℕ). (n + 4) / 256 % 256 ∷ x ∷ class ∷ ctype ∷ take n rest) (sym low) in
    record {
      within = rw len (omega arith);
      front = rw len (first ∙ field);
      is_raw = record { class = hc; ctype = ht; body = record { whole_words = rw len w; fits = rw len (omega arith) } };
    }

framed_at : (bytes : List ℕ) → IsBytes bytes → HasFrame bytes → IsFrame bytes (frame_at bytes)
framed_at [] fits h = absurd (omega (arith, h.header))
framed_at (a ∷ []) fits h = absurd (omega (arith, h.header))
framed_at (a ∷ b ∷ []) fits h = absurd (omega (arith, h.header))
framed_at (a ∷ b ∷ c ∷ []) fits h = absurd (omega (arith, h.header))
framed_at (a ∷ b ∷ class ∷ ctype ∷ rest) fits h =
    let field : a * 256 + b ≡ big_number 2 (a ∷ b ∷ class ∷ ctype ∷ rest) = omega arith in
    frame_cells a b class ctype (big_number 2 (a ∷ b ∷ class ∷ ctype ∷ rest) - 4) rest (fits 0) (fits 1) (fits 2) (fits 3) (omega arith) (omega arith) (omega arith)

-- the frame that is read off the bytes is an object at their front
pub framed : (bytes : List ℕ) (raw : Raw) → IsBytes bytes → frame_in bytes ≡ Some raw → IsFrame bytes raw
unfolding frame_in
framed bytes raw fits e =
    let both = cond_some (has_frame bytes) (frame_at bytes) raw e in
    subst (λ (r : Raw). IsFrame bytes r) both.1 (framed_at bytes fits (HasFrame-from_test bytes both.0))

-- what is written is framed again, whatever follows it
pub frame_again : (raw : Raw) (rest : List ℕ) → IsRaw raw → frame_in (object_bytes raw ++ rest) ≡ Some raw
unfolding frame_in
frame_again raw rest r =
    let bytes = object_bytes raw ++ rest in
    let len : length (raw.body ++ rest) ≡ length raw.body + length rest = length-append raw.body rest in
    let number : big_number 2 (object_bytes raw ++ rest) ≡ length raw.body + 4 =
    big_number-reads_back 2 (length raw.body + 4) (raw.class ∷ raw.ctype ∷ (raw.body ++ rest)) (omega (arith, r.body.fits)) in
    let facts : HasFrame (object_bytes raw ++ rest) =
    record { header = omega arith; least = omega arith; words = omega (arith, r.body.whole_words); within = omega arith } in
    let size : big_number 2 (object_bytes raw ++ rest) - 4 ≡ length raw.body = omega arith in
    let body : take (big_number 2 (object_bytes raw ++ rest) - 4) (raw.body ++ rest) ≡ raw.body =
    ap (λ (n : ℕ). take n (raw.body ++ rest)) size ∙ take-append_seam raw.body rest in
    cond-true (has_frame (object_bytes raw ++ rest)) (Some (frame_at (object_bytes raw ++ rest))) None (has_frame-from_facts (object_bytes raw ++ rest) facts)
    ∙ ap (λ (b : List ℕ). Some (record { class = raw.class; ctype = raw.ctype; body = b })) body

-- an object at the front of the bytes is the frame that is read off them
pub reframed : (bytes : List ℕ) (raw : Raw) (n : ℕ) → n ≤ length bytes → IsRaw raw → take n bytes ≡ object_bytes raw →
    (frame_in bytes ≡ Some raw) × (n ≡ length raw.body + 4)
reframed bytes raw n l r e =
    let split : object_bytes raw ++ drop n bytes ≡ bytes = ap (λ (front : List ℕ). front ++ drop n bytes) (sym e) ∙ take-append-drop n bytes in
    let size : n ≡ length (object_bytes raw) = sym (length-take-le n bytes l) ∙ ap length e in
    (ap frame_in (sym split) ∙ frame_again raw (drop n bytes) r, omega arith)
