-- From what a file has to a recording.
use Rattle.std.proofs.Common.{◌≡◌, ◌==◌, ◌∷◌, ◌++◌, [], ℕ, List, if◌then◌else◌, Result, Ok, Err, refl, sym, ap, subst, get_or, drop, ◌∙◌}
use Rattle.field_bytes.specs.Spelling.{IsOne}
use Rattle.field_bytes.specs.declared.fault.ReadFault.{ReadFault}
use Rattle.field_bytes.specs.declared.fault.ReadFault.TheVariants as faults
use Rattle.lsr_config.specs.Configs.{Setup}
use Rattle.lsr_config.specs.declared.fault.ConfigFault.{ConfigFault}
use Rattle.lsr_config.specs.Reading.{IsRead}
use Rattle.std.specs.Str.{IsUtf8}
use Rattle.lsr_facts.specs.declared.state.State.{State}
use Rattle.journal_bytes.specs.declared.entry.Entry.{Entry}
use Rattle.journal_files.specs.Pending.{ArePendingTold, AreUntold, told_state, untold_state}
use Rattle.event_fields.specs.Fitting.{IsShort}
use Rattle.fact_fields.specs.Fitting.{TunnelPartsFit}
use Rattle.journal_files.specs.Fitting.{BaseFits, FormatFits}
use Rattle.journal_files.specs.Recordings.{IsRecorded, IsRecording, IsToldBase, ReadsBody, ReadsFile, SpellsBody, SpellsFile, file_bytes, format_number, stored}
use Rattle.journal_files.specs.Formats.{Stored, format_bytes}
use Rattle.journal_files.specs.Texts.{Allows, Answers, ReadsConfig, ReadsText, SaysConfig}
use Rattle.field_bytes.specs.Wholes.{ReadsWhole}
use Rattle.journal_files.specs.declared.formats.FileFormat.{FileFormat}
use Rattle.journal_files.specs.declared.formats.FileFormat.TheVariants as formats
use Rattle.journal_files.specs.declared.recordings.Recording.{Recording}
use Rattle.journal_files.proofs.ConfigLaws.{allowed_alike}
use Rattle.journal_files.proofs.OneConfig.{one_config}
use Rattle.journal_files.proofs.PendingLaws.{fitting_untold, told_so, untold_told}

-- ---- the text

-- bytes that aren't a text say no configuration
pub no_text : (format : FileFormat) (bytes : List ℕ) → (IsUtf8 bytes → ⊥) → ReadsText format bytes (Err faults.Format)
no_text format bytes none = λ c is. none is.utf8

-- nor do those whose text says none
pub unread_text : (format : FileFormat) (bytes : List ℕ) (fault : ReadFault) → ReadsConfig bytes (Err fault) → ReadsText format bytes (Err fault)
unread_text format bytes faults.Memory none = tt
unread_text format bytes faults.Format none = λ c is. none c is.read

-- nor those whose document isn't read
pub unread_document : (format : FileFormat) (bytes : List ℕ) (P : Type 0) (fault : ReadFault) → Answers P (Err fault) → ReadsText format bytes (Err fault)
unread_document format bytes P faults.Memory none = tt
unread_document format bytes P faults.Format none = absurd none

-- nor those whose text the format doesn't allow
pub disallowed : (format : FileFormat) (bytes : List ℕ) (c : Setup) → IsRead bytes (Ok c) → (Allows format bytes c → ⊥) → ReadsText format bytes (Err faults.Format)
disallowed format bytes c is none = λ d other. none (allowed_alike format bytes d c other.read is other.allowed)

-- ---- the recording

-- where the text says no configuration no base is told
pub text_refused : (format : FileFormat) (text : List ℕ) (base : State) (fault : ReadFault) → ReadsText format text (Err fault) → IsToldBase format text base (Err fault)
text_refused format text base faults.Memory none = tt
text_refused format text base faults.Format none = none

-- where it says one this is told
pub text_told : (format : FileFormat) (text : List ℕ) (base told : State) (c : Setup) → SaysConfig format text c → AreUntold base.facts.tunnels → told ≡ told_state c.router base → IsToldBase format text base (Ok (c, told))
text_told format text base told c says all same = (
  says,
  ap untold_state same ∙ untold_told c.router base all,
  subst (ArePendingTold c.router) (sym same) (told_so c.router base all),
)

-- where no base is told there is no recording
pub base_refused : (format : FileFormat) (parts : Stored) (fault : ReadFault) → IsToldBase format parts.0 parts.1.0 (Err fault) → IsRecorded format parts (Err fault)
base_refused format parts faults.Memory none = tt
base_refused format parts faults.Format none = λ r is same.
    let P : List ℕ → Type 0 = λ text. SaysConfig format text r.config in
    none r.config (subst P (ap (λ (v : Stored). v.0) same) is.says)

-- where one is this is the recording
pub base_recorded : (format : FileFormat) (parts : Stored) (c : Setup) (told : State) → IsToldBase format parts.0 parts.1.0 (Ok (c, told)) →
    IsRecorded format parts (Ok (record { text = parts.0; config = c; base = told; entries = parts.1.1 }))
base_recorded format parts c told is = (
  (λ i. (parts.0, (is.1 i, parts.1.1))),
  record { says = is.0; pending = is.2 },
)

-- ---- what follows a format's number

-- of pending LSPs no format has more than the IDs
pub base_untold : (format : FileFormat) (s : State) → BaseFits format s → AreUntold s.facts.tunnels
base_untold formats.First s fits = fitting_untold IsShort TunnelPartsFit s.facts.tunnels fits.1.1.0.1.1.0.1.1
base_untold formats.Second s fits = fitting_untold IsShort TunnelPartsFit s.facts.tunnels fits.1.1.0.1.1.0.1.1
base_untold formats.Third s fits = fitting_untold IsShort TunnelPartsFit s.facts.tunnels fits.1.1.0.1.1.0.1.1

pub fits_untold : (format : FileFormat) (s : Stored) → FormatFits format s → AreUntold s.1.0.facts.tunnels
fits_untold format s fits = base_untold format s.1.0 fits.1.0

-- where nothing takes all of it no recording is spelled
pub body_unread : (format : FileFormat) (body : List ℕ) (fault : ReadFault) → ReadsWhole (FormatFits format) (format_bytes format) body (Err fault) → ReadsBody format body (Err fault)
body_unread format body faults.Memory none = tt
body_unread format body faults.Format none = λ r s. none (stored r) s.fits s.parts

-- where something does its recording is
pub body_read : (format : FileFormat) (body : List ℕ) (parts : Stored) → ReadsWhole (FormatFits format) (format_bytes format) body (Ok parts) → (result : Result Recording ReadFault) →
    IsRecorded format parts result → ReadsBody format body result
body_read format body parts reads (Ok r) is = record { parts = reads.0 ∙ sym (ap (format_bytes format) is.0); fits = subst (FormatFits format) (sym is.0) reads.1; recording = is.1 }
body_read format body parts reads (Err faults.Memory) is = tt
body_read format body parts reads (Err faults.Format) none = λ r s. none r s.recording (reads.2 (stored r) s.fits s.parts)

-- ---- the file

-- the format of this number
format_named : ℕ → FileFormat
format_named number = if number == 1 then formats.First else if number == 2 then formats.Second else formats.Third

named_again : (format : FileFormat) → format_named (format_number format) ≡ format
unfolding format_named
named_again formats.First = refl
named_again formats.Second = refl
named_again formats.Third = refl

pub same_format : (f g : FileFormat) (a b : List ℕ) → file_bytes f a ≡ file_bytes g b → f ≡ g
same_format f g a b e = sym (named_again f) ∙ (ap (λ (v : List ℕ). format_named (get_or v 5 0)) e ∙ named_again g)

pub same_body : (f g : FileFormat) (a b : List ℕ) → file_bytes f a ≡ file_bytes g b → a ≡ b
same_body f g a b e = ap (drop 6) e

-- a file spells a recording where what follows its format's number does
of_body : (f g : FileFormat) (body : List ℕ) (r : Recording) → f ≡ g → body ≡ format_bytes f (stored r) → FormatFits f (stored r) → IsRecording f r → SpellsBody g body r
of_body f g body r same =
    subst (λ (h : FileFormat). body ≡ format_bytes h (stored r) → FormatFits h (stored r) → IsRecording h r → SpellsBody g body r) (sym same)
    (λ parts fits is. record { parts = parts; fits = fits; recording = is })

pub file_read : (format : FileFormat) (bytes body : List ℕ) → bytes ≡ file_bytes format body → (result : Result Recording ReadFault) → ReadsBody format body result → ReadsFile bytes result
file_read format bytes body e (Ok r) is = record { format = format; parts = e ∙ ap (file_bytes format) is.parts; fits = is.fits; recording = is.recording }
file_read format bytes body e (Err faults.Memory) is = tt
file_read format bytes body e (Err faults.Format) none = λ r s.
    let same = sym s.parts ∙ e in
    let after = format_bytes s.format (stored r) in
    none r (of_body s.format format body r (same_format s.format format after body same) (sym (same_body s.format format after body same)) s.fits s.recording)

-- bytes that are a file of no format spell nothing
pub no_file : (bytes : List ℕ) → ((format : FileFormat) (body : List ℕ) → bytes ≡ file_bytes format body → ⊥) → ReadsFile bytes (Err faults.Format)
no_file bytes none = λ r s. none s.format (format_bytes s.format (stored r)) s.parts

-- ---- one recording

-- in each format no bytes begin with two bodies
pub one_in_each : IsOne (FormatFits formats.First) (format_bytes formats.First) → IsOne (FormatFits formats.Second) (format_bytes formats.Second) → IsOne (FormatFits formats.Third) (format_bytes formats.Third) →
    (format : FileFormat) → IsOne (FormatFits format) (format_bytes format)
one_in_each first second third formats.First = first
one_in_each first second third formats.Second = second
one_in_each first second third formats.Third = third

same_stored : ((format : FileFormat) → IsOne (FormatFits format) (format_bytes format)) → (f g : FileFormat) (x y : Stored) → FormatFits f x → FormatFits g y → file_bytes f (format_bytes f x) ≡ file_bytes g (format_bytes g y) → x ≡ y
same_stored one f g x y p q e =
    let P : FileFormat → Type 0 = λ h. FormatFits h y × (format_bytes f x ≡ format_bytes h y) in
    let here : P f = subst P (sym (same_format f g (format_bytes f x) (format_bytes g y) e)) (q, same_body f g (format_bytes f x) (format_bytes g y) e) in
    (one f x y [] [] p here.0 (ap (λ (v : List ℕ). v ++ []) here.1)).0

-- no file spells two recordings
pub one_recording : ((format : FileFormat) → IsOne (FormatFits format) (format_bytes format)) → (bytes : List ℕ) (a b : Recording) → SpellsFile bytes a → SpellsFile bytes b → a ≡ b
one_recording one bytes a b s t =
    let parts : stored a ≡ stored b = same_stored one s.format t.format (stored a) (stored b) s.fits t.fits (sym s.parts ∙ t.parts) in
    let P : List ℕ → Type 0 = λ text. IsRead text (Ok a.config) in
    let same : a.config ≡ b.config = one_config b.text a.config b.config (subst P (ap (λ (v : Stored). v.0) parts) s.recording.says.read) t.recording.says.read in
    let base : a.base ≡ b.base = s.recording.pending ∙ ((λ i. told_state (same i).router ((parts i).1.0)) ∙ sym t.recording.pending) in
    (λ i. record { text = (parts i).0; config = same i; base = base i; entries = (parts i).1.1 })
