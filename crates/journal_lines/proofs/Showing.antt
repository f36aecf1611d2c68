-- Entries that were shown, and one more; and lines that stand before what is shown after them.
use Rattle.std.proofs.Common.{◌≡◌, ◌+◌, ◌-◌, ◌<◌, ◌≤◌, ℕ, suc, List, [], ◌++◌, Option, Some, None, Result, Ok, Err, IfOk, Bor, inl, inr, refl, sym, subst, length, arith, append_assoc, append-nil}
use Rattle.std.specs.Io.KnownBytes.{Appends}
use Rattle.std.specs.Option.{MatchOption}
use Rattle.std.proofs.KnownBytes.{Appends-nil, Appends-trans}
use Rattle.std.proofs.lemmas.Result.{IfOk-weaker}
use Rattle.field_bytes.specs.Spelling.{Answers}
use Rattle.field_bytes.specs.declared.fault.ReadFault.{ReadFault}
use Rattle.field_bytes.specs.declared.fault.ReadFault.TheVariants as faults
use Rattle.event_fields.specs.Fitting.{IsWord}
use Rattle.event_fields.specs.Laws.{word_bytes}
use Rattle.lsr_config.specs.Configs.{Setup}
use Rattle.lsr_facts.specs.declared.router.Router.{Router}
use Rattle.journal_bytes.specs.declared.entry.Entry.{Entry}
use Rattle.journal_files.specs.Texts.{ReadsText, SaysConfig}
use Rattle.journal_files.specs.declared.formats.FileFormat.{FileFormat}
use Rattle.journal_lines.specs.Entries.{ShowsEntry}
use Rattle.journal_lines.specs.Journals.{EntryAt, NoEntryAt, NoneStandsAt, ShowsCount, ShowsEntries, ShowsJournal, StandsAt, break_line, break_status, break_text, breaks, count_line, end_of}
use Rattle.journal_lines.specs.declared.breaks.Break.{Break}
use Rattle.journal_lines.specs.declared.breaks.Part.TheVariants as parts

-- So many of all entries were shown: what was printed shows them, whatever is shown of the bytes after them.
pub record IsShowing (r : Router) (format : FileFormat) (all : ℕ) (bytes : List ℕ) (output now : Option (List ℕ)) (passed : ℕ) (rest : List ℕ) : Type 0 where
  pub printed : List ℕ
  pub told : Appends output now printed
  pub shows : (more : List ℕ) (broken : Option Break) → ShowsEntries r format (passed + 1) (all - passed) rest more broken → ShowsEntries r format 1 all bytes (printed ++ more) broken

-- what is answered of the next entry: the bytes after it, or none
abbrev pub IsNext : Router → FileFormat → ℕ → List ℕ → Option (List ℕ) → Option (List ℕ) → Option (Bor (List ℕ)) → Type 0
IsNext r format number bytes mid now found =
    MatchOption found (NoEntryAt format bytes × Appends mid now [])
    (λ rest. (entry : Entry) × (shown : List ℕ) × EntryAt format bytes entry rest.now × ShowsEntry r number entry shown × Appends mid now shown)

-- nothing was shown yet
pub showing_none : (r : Router) (format : FileFormat) (all : ℕ) (bytes : List ℕ) (output : Option (List ℕ)) → IsShowing r format all bytes output output 0 bytes
showing_none r format all bytes output =
    let whole : all - 0 ≡ all = omega arith in
    record {
      printed = [];
      told = Appends-nil output;
      shows = λ more broken others. subst (λ (count : ℕ). ShowsEntries r format 1 count bytes more broken) whole others;
    }

-- one entry more
pub showing_more : (r : Router) (format : FileFormat) (all : ℕ) (bytes : List ℕ) (output mid now : Option (List ℕ)) (passed number : ℕ) (rest : List ℕ) (found : Option (Bor (List ℕ))) (after : Bor (List ℕ)) → passed < all
    → number ≡ passed + 1 → IsShowing r format all bytes output mid passed rest → IsNext r format number rest mid now found → found ≡ Some after → IsShowing r format all bytes output now (passed + 1) after.now
showing_more r format all bytes output mid now passed number rest found after left n so_far next is =
    let one : suc (all - (passed + 1)) ≡ all - passed = omega arith in
    let some = subst (IsNext r format number rest mid now) is next in
    let entry = some.0 in
    let shown = some.1 in
    let same = subst (λ (m : ℕ). ShowsEntry r m entry shown) n some.3 in
    record {
      printed = so_far.printed ++ shown;
      told = Appends-trans output mid now so_far.printed shown so_far.told some.4;
      shows = λ more broken others.
          let next : ShowsEntries r format (passed + 1) (suc (all - (passed + 1))) rest (shown ++ more) broken = inl (entry, after.now, shown, more, some.2, same, others, refl) in
          subst (λ (text : List ℕ). ShowsEntries r format 1 all bytes text broken) (sym (append_assoc so_far.printed shown more))
          (so_far.shows (shown ++ more) broken (subst (λ (count : ℕ). ShowsEntries r format (passed + 1) count rest (shown ++ more) broken) one next));
    }

-- where no entry stands the bytes break
pub showing_break : (r : Router) (format : FileFormat) (all : ℕ) (bytes : List ℕ) (output mid now : Option (List ℕ)) (passed number : ℕ) (rest : List ℕ) (found : Option (Bor (List ℕ))) (broken : Option Break) → passed < all
    → IsShowing r format all bytes output mid passed rest → IsNext r format number rest mid now found → found ≡ None → broken ≡ breaks parts.Entry rest
    → (text : List ℕ) × ShowsEntries r format 1 all bytes text broken × Appends output now text
showing_break r format all bytes output mid now passed number rest found broken left so_far answer is at =
    let one : suc (all - (passed + 1)) ≡ all - passed = omega arith in
    let none = subst (IsNext r format number rest mid now) is answer in
    let next : ShowsEntries r format (passed + 1) (suc (all - (passed + 1))) rest [] broken = inr (none.0, refl, at) in (
      so_far.printed ++ [],
      so_far.shows [] broken (subst (λ (count : ℕ). ShowsEntries r format (passed + 1) count rest [] broken) one next),
      Appends-trans output mid now so_far.printed [] so_far.told none.1,
    )

-- and where all were shown
pub showing_all : (r : Router) (format : FileFormat) (all : ℕ) (bytes : List ℕ) (output now : Option (List ℕ)) (passed : ℕ) (rest : List ℕ) (broken : Option Break) → all ≤ passed
    → IsShowing r format all bytes output now passed rest → broken ≡ end_of rest → (text : List ℕ) × ShowsEntries r format 1 all bytes text broken × Appends output now text
showing_all r format all bytes output now passed rest broken most so_far at =
    let none : 0 ≡ all - passed = omega arith in
    let next : ShowsEntries r format (passed + 1) 0 rest [] broken = (refl, at) in (
      so_far.printed,
      subst (λ (text : List ℕ). ShowsEntries r format 1 all bytes text broken) (append-nil so_far.printed)
          (so_far.shows [] broken (subst (λ (count : ℕ). ShowsEntries r format (passed + 1) count rest [] broken) none next)),
      so_far.told,
    )

-- the number of entries, and what is shown of them
pub counted : (r : Router) (format : FileFormat) (bytes : List ℕ) (count : ℕ) (rest : List ℕ) (broken : Option Break) (output mid now : Option (List ℕ)) → StandsAt IsWord word_bytes bytes count rest
    → Appends output mid (count_line count) → (text : List ℕ) × ShowsEntries r format 1 count rest text broken × Appends mid now text
    → (text : List ℕ) × ShowsCount r format bytes text broken × Appends output now text
counted r format bytes count rest broken output mid now at told shown =
    (count_line count ++ shown.0, inl (count, rest, shown.0, at, shown.1, refl), Appends-trans output mid now (count_line count) shown.0 told shown.2)

-- a line, and what is shown after it
pub shown_after : {E : Type 0} (Shows Whole : List ℕ → Option Break → Type 0) (result : Result (Option Break) E) (line : List ℕ) (output mid now : Option (List ℕ)) → Appends output mid line
    → ((more : List ℕ) (broken : Option Break) → Shows more broken → Whole (line ++ more) broken)
    → IfOk result (λ broken. (text : List ℕ) × Shows text broken × Appends mid now text) → IfOk result (λ broken. (text : List ℕ) × Whole text broken × Appends output now text)
shown_after Shows Whole result line output mid now told whole =
    IfOk-weaker result (λ broken. (text : List ℕ) × Shows text broken × Appends mid now text) (λ broken. (text : List ℕ) × Whole text broken × Appends output now text)
    (λ broken shown. (line ++ shown.0, whole shown.0 broken shown.1, Appends-trans output mid now line shown.0 told shown.2))

-- the value that was found stands at the head of the bytes
pub found_at : {V : Type 0} (Fits : V → Type 0) (spelling : V → List ℕ) (bytes : List ℕ) (read : Result (V × Bor (List ℕ)) ReadFault) (found : Option (V × Bor (List ℕ))) (value : V) (rest : Bor (List ℕ))
    → Answers Fits spelling bytes read → MatchOption found (read ≡ Err faults.Format) (λ value. read ≡ Ok value) → found ≡ Some (value, rest) → StandsAt Fits spelling bytes value rest.now
found_at {V = V} Fits spelling bytes read found value rest answer is some =
    let read_is = subst (λ (f : Option (V × Bor (List ℕ))). MatchOption f (read ≡ Err faults.Format) (λ value. read ≡ Ok value)) some is in
    subst (Answers Fits spelling bytes) read_is answer

-- and where none was found none stands there
pub none_at : {V : Type 0} (Fits : V → Type 0) (spelling : V → List ℕ) (bytes : List ℕ) (read : Result (V × Bor (List ℕ)) ReadFault) (found : Option (V × Bor (List ℕ)))
    → Answers Fits spelling bytes read → MatchOption found (read ≡ Err faults.Format) (λ value. read ≡ Ok value) → ((x : V × Bor (List ℕ)) → found ≡ Some x → ⊥) → NoneStandsAt Fits spelling bytes
none_at Fits spelling bytes read None answer is none = subst (Answers Fits spelling bytes) is answer
none_at Fits spelling bytes read (Some x) answer is none = absurd (none x refl)

-- the configuration that was found is what the text says
pub found_config : (format : FileFormat) (text words : List ℕ) (read : Result Setup ReadFault) (found : Option Setup) (c : Setup) → words ≡ text → ReadsText format words read
    → MatchOption found (read ≡ Err faults.Format) (λ value. read ≡ Ok value) → found ≡ Some c → SaysConfig format text c
found_config format text words read found c same answer is some =
    let read_is = subst (λ (f : Option Setup). MatchOption f (read ≡ Err faults.Format) (λ value. read ≡ Ok value)) some is in
    subst (λ (t : List ℕ). SaysConfig format t c) same (subst (ReadsText format words) read_is answer)

-- and where none was found it says none
pub no_config : (format : FileFormat) (text words : List ℕ) (read : Result Setup ReadFault) (found : Option Setup) → words ≡ text → ReadsText format words read
    → MatchOption found (read ≡ Err faults.Format) (λ value. read ≡ Ok value) → ((x : Setup) → found ≡ Some x → ⊥) → (c : Setup) → SaysConfig format text c → ⊥
no_config format text words read None same answer is none = subst (λ (t : List ℕ). (c : Setup) → SaysConfig format t c → ⊥) same (subst (ReadsText format words) is answer)
no_config format text words read (Some x) same answer is none = absurd (none x refl)

-- a journal that was shown to its end
pub shown_whole : (bytes : List ℕ) (output now error : Option (List ℕ)) (broken : Option Break) → (text : List ℕ) × ShowsJournal bytes text broken × Appends output now text → broken ≡ None
    → (text : List ℕ) × (b : Option Break) × ShowsJournal bytes text b × (0 ≡ break_status b) × Appends output now text × Appends error error (break_text (length bytes) b)
shown_whole bytes output now error broken shown is =
    (shown.0, None, subst (ShowsJournal bytes shown.0) is shown.1, refl, shown.2, Appends-nil error)

-- and one that breaks
pub shown_part : (bytes : List ℕ) (output now error told : Option (List ℕ)) (broken : Option Break) (b : Break) → (text : List ℕ) × ShowsJournal bytes text broken × Appends output now text → broken ≡ Some b
    → Appends error told (break_line (length bytes) b)
    → (text : List ℕ) × (b : Option Break) × ShowsJournal bytes text b × (1 ≡ break_status b) × Appends output now text × Appends error told (break_text (length bytes) b)
shown_part bytes output now error told broken b shown is line =
    (shown.0, Some b, subst (ShowsJournal bytes shown.0) is shown.1, refl, shown.2, line)
