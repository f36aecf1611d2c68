-- What a format allows.
use Rattle.std.proofs.Common.{◌≡◌, ◌==◌, ℕ, Bool, List, T, true, false, Result, Ok, Err, refl, sym, ap, subst, ◌∙◌, eqb→eq}
use Rattle.std.specs.Prelude.{◌↔◌, IsTrue}
use Rattle.std.specs.Str.{IsUtf8}
use Rattle.field_bytes.specs.declared.fault.ReadFault.{ReadFault}
use Rattle.field_bytes.specs.declared.fault.ReadFault.TheVariants as faults
use Rattle.lsr_config.specs.Configs.{Setup}
use Rattle.lsr_config.specs.Reading.{IsRead}
use Rattle.journal_files.specs.Texts.{Allows, Answers, NamesNoCapacity, ReadsConfig, ReadsText, SaysConfig}
use Rattle.journal_files.specs.declared.formats.FileFormat.{FileFormat}
use Rattle.journal_files.proofs.Recorded.{disallowed, unread_text}

pub is_zero : (n m : ℕ) → n ≡ m → IsTrue (n == 0) ↔ (m ≡ 0)
is_zero n m same = (λ e. sym same ∙ eqb→eq n 0 (subst T (sym e) tt), λ e. ap (λ (v : ℕ). v == 0) (same ∙ e))

-- where labels rest the first format allows nothing
pub rests : (text : List ℕ) (n : ℕ) → (n ≡ 0 → ⊥) → IsTrue false ↔ ((n ≡ 0) × NamesNoCapacity text)
rests text n some = (λ e. cc, λ is. absurd (some is.0))

-- where none does it is a matter of capacities
pub none_rests : (text : List ℕ) (n : ℕ) → n ≡ 0 → (result : Result Bool ReadFault) → Answers (NamesNoCapacity text) result → Answers ((n ≡ 0) × NamesNoCapacity text) result
none_rests text n zero (Ok answer) is = (λ e. (zero, is.0 e), λ both. is.1 both.1)
none_rests text n zero (Err faults.Format) is = is
none_rests text n zero (Err faults.Memory) is = tt

-- a text that is allowed says its configuration
pub allowed_says : (format : FileFormat) (bytes text : List ℕ) (c : Setup) (answer : Bool) → text ≡ bytes → IsUtf8 bytes → IsRead text (Ok c) → IsTrue answer ↔ Allows format text c → answer ≡ true → SaysConfig format bytes c
allowed_says format bytes text c answer same utf8 read is yes_it_is =
    let P : List ℕ → Type 0 = λ v. IsRead v (Ok c) in
    let A : List ℕ → Type 0 = λ v. Allows format v c in
    record { utf8 = utf8; read = subst P same read; allowed = subst A same (is.0 yes_it_is) }

-- and one that isn't says none
pub refused_says_none : (format : FileFormat) (bytes text : List ℕ) (c : Setup) (answer : Bool) → text ≡ bytes → IsRead text (Ok c) → IsTrue answer ↔ Allows format text c → answer ≡ false → ReadsText format bytes (Err faults.Format)
refused_says_none format bytes text c answer same read is no_it_isnt =
    let P : List ℕ → Type 0 = λ v. IsRead v (Ok c) in
    disallowed format bytes c (subst P same read) (λ allowed. (let A : List ℕ → Type 0 = λ v. Allows format v c in let h : true ≡ false = sym (is.1 (subst A (sym same) allowed)) ∙ no_it_isnt in cc))

-- nor one that isn't read
pub unread_at : (format : FileFormat) (bytes text : List ℕ) (fault : ReadFault) → text ≡ bytes → ReadsConfig text (Err fault) → ReadsText format bytes (Err fault)
unread_at format bytes text fault same none = unread_text format bytes fault (subst (λ (v : List ℕ). ReadsConfig v (Err fault)) same none)
