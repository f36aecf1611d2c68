-- What is made of parts that were read.
use Rattle.std.proofs.Common.{◌≡◌, ◌++◌, ℕ, List, sym, subst}
use Rattle.field_bytes.specs.Making.{IsSpelledBy, MadeFits, made_read}
use Rattle.fact_fields.specs.Fitting.{IsAny}

pub of_parts : {W P : Type 0} (back : W → P) (whole_bytes : W → List ℕ) (Fits : P → Type 0) (part_bytes : P → List ℕ) → IsSpelledBy back whole_bytes part_bytes →
    (bytes rest : List ℕ) (parts : P) (whole : W) → bytes ≡ part_bytes parts ++ rest → Fits parts → back whole ≡ parts → (bytes ≡ whole_bytes whole ++ rest) × MadeFits IsAny back Fits whole
of_parts back whole_bytes Fits part_bytes spelled bytes rest parts whole e fits same =
    (made_read IsAny back whole_bytes Fits part_bytes spelled bytes rest parts whole e same, (tt, subst Fits (sym same) fits))
