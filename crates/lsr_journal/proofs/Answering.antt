-- What is printed of an event, be there memory for its text or not.
use Rattle.std.proofs.Common.{◌≡◌, ◌<◌, ◌++◌, ◌∷◌, [], ℕ, List, Result, Ok, Err, length, arith, inr, refl, sym, subst, ap, ◌∙◌}
use Rattle.std.proofs.lemmas.List.{length-append}
use Rattle.std.specs.Prelude.{IfOk, OnErr, max}
use Rattle.abstract_paths.specs.declared.events.Event.{Event}
use Rattle.datagrams.specs.declared.datagram.Datagram.{Datagram}
use Rattle.lookup_plane.specs.Changes.{Reader, new_reader}
use Rattle.lsr_config.specs.Configs.{Setup}
use Rattle.lsr_facts.specs.declared.refusal.Refusal.{Refusal}
use Rattle.lsr_facts.specs.declared.reply.Reply.{Reply}
use Rattle.lsr_facts.specs.declared.reply.Reply.TheVariants as replies
use Rattle.lsr_lines.specs.Steps.{IsUntold}
use Rattle.lsr_session.specs.Requests.{latest}
use Rattle.lsr_session.specs.States.{opened}
use Rattle.lsr_text.specs.Answers.{refusal_line}
use Rattle.run_journal.specs.Journals.{IsMarked, Journal, opened_journal}
use Rattle.run_journal.specs.Marks.{first_counts, first_mark}
use Rattle.run_journal.specs.declared.entry.CountedEntry.{CountedEntry}
use Rattle.run_journal.specs.declared.mark.Mark.{Mark}
use Rattle.lsr_journal.specs.Entries.{IsLast, entry_text}
use Rattle.lsr_journal.specs.Recorded.{IsRead, PrintsDatagram, PrintsEvent, PrintsRead, RecordedState, begun}
use Rattle.lsr_journal.proofs.Telling.{same_lines, tells}

-- an event that was applied has an entry
pub has_entry : (old : Journal) (m : Mark) (event : Event) (mark : Mark) (new : Journal) → IsMarked old m event (Ok mark) new → 0 < length new.entries
has_entry old m event mark new is =
    let put = ap (λ (es : List CountedEntry). length es) is.2.1.entered.entries in
    omega (arith, put, length-append old.entries (is.2.1.entry ∷ []))

-- what is printed of it, by its entry: the session goes on from its mark, and then its reply is the newest
pub applied_printed : (before between after : RecordedState) (event : Event) (mark : Mark) (last : CountedEntry) → IsMarked before.journal before.mark event (Ok mark) between.journal → IsLast between.journal.entries last
    → between.mark ≡ mark → between.reader ≡ record before.reader { at_least = max before.reader.at_least mark.published } → between.recent ≡ before.recent
    → after ≡ record between { recent = latest (between.recent ++ last.entry.reply ∷ []) } → PrintsEvent before event (entry_text last.entry) after
applied_printed before between after event mark last is lasts marks reads recent same =
    let t = tells before.journal between.journal before.mark.port event is.0 is.2.1 last lasts in
    subst (PrintsEvent before event (entry_text last.entry)) (sym same) (record {
      answer = Ok is.0;
      answered = is.2;
      shown = same_lines is.2.1.entered.recorded.made last.entry t;
      recent = ap (λ (rs : List Reply). latest (rs ++ last.entry.reply ∷ [])) recent ∙ ap (λ (r : Reply). latest (before.recent ++ r ∷ [])) t.replied;
      mark = marks ∙ is.1;
      reader = reads ∙ ap (λ (k : Mark). record before.reader { at_least = max before.reader.at_least k.published }) is.1;
    })

-- and of one that was refused
refused_printed : (before after : RecordedState) (event : Event) (refusal : Refusal) (j : Journal) → IsMarked before.journal before.mark event (Err refusal) j
    → after ≡ record before { journal = j; recent = latest (before.recent ++ replies.Refused refusal ∷ []) } → PrintsEvent before event (refusal_line refusal) after
refused_printed before after event refusal j is same =
    subst (PrintsEvent before event (refusal_line refusal)) (sym same) (record { answer = Err refusal; answered = is; shown = refl; recent = refl; mark = refl; reader = refl })

-- it is printed as what is no event is refused
pub refused_told : {A E : Type 0} (bytes : A → List ℕ) (r : Result A E) (before after : RecordedState) (event : Event) (refusal : Refusal) (j : Journal) → IsMarked before.journal before.mark event (Err refusal) j
    → IfOk r (λ x. PrintsRead (record before { journal = j }) (Err refusal) (bytes x) after) → IfOk r (λ x. PrintsEvent before event (bytes x) after)
refused_told bytes (Ok x) before after event refusal j is p = subst (λ text. PrintsEvent before event text after) (sym p.0) (refused_printed before after event refusal j is p.1)
refused_told bytes (Err error) before after event refusal j is p = tt

pub refused_untold : {A E : Type 0} (r : Result A E) (before after : RecordedState) (event : Event) (refusal : Refusal) (j : Journal) → IsMarked before.journal before.mark event (Err refusal) j
    → OnErr r ((text : List ℕ) × PrintsRead (record before { journal = j }) (Err refusal) text after) → OnErr r ((text : List ℕ) × PrintsEvent before event text after)
refused_untold (Ok x) before after event refusal j is p = tt
refused_untold (Err error) before after event refusal j is p = (refusal_line refusal, refused_printed before after event refusal j is p.1.1)

-- a text is told where there is memory for it
pub told : {A E : Type 0} (bytes : A → List ℕ) (r : Result A E) (text : List ℕ) (prints : List ℕ → Type 0) → prints text → IfOk r (λ x. bytes x ≡ text) → IfOk r (λ x. prints (bytes x))
told bytes (Ok x) text prints is shown = subst prints (sym shown) is
told bytes (Err error) text prints is shown = tt

-- and else it is one that would be
pub untold : {A E : Type 0} (r : Result A E) (text : List ℕ) (prints : List ℕ → Type 0) → prints text → OnErr r ((t : List ℕ) × prints t)
untold (Ok x) text prints is = tt
untold (Err error) text prints is = (text, is)

-- an answer that was given is one whose text there may be no memory for
pub given_untold : {A E S : Type 0} (r : Result A E) (prints : List ℕ → S → Type 0) (before after : S)
    → OnErr r ((text : List ℕ) × prints text after) → OnErr r (IsUntold prints before after)
given_untold (Ok text) prints before after given = tt
given_untold (Err error) prints before after given = inr given

-- whatever became of it
pub on_any : {A E P : Type 0} (r : Result A E) → P → OnErr r P
on_any (Ok x) p = tt
on_any (Err error) p = p

-- what is printed of a datagram that was read
pub read_told : {A E : Type 0} (bytes : A → List ℕ) (r : Result A E) (before after : RecordedState) (link : ℕ) (datagram : List ℕ) (reader : Reader) (what : Result Datagram Refusal) → IsRead before.journal.router before.reader link datagram what reader
    → IfOk r (λ x. PrintsRead (record before { reader = reader }) what (bytes x) after) → IfOk r (λ x. PrintsDatagram before link datagram (bytes x) after)
read_told bytes (Ok x) before after link datagram reader what is printed = (reader, what, is, printed)
read_told bytes (Err error) before after link datagram reader what is printed = tt

pub read_untold : {A E : Type 0} (r : Result A E) (before after : RecordedState) (link : ℕ) (datagram : List ℕ) (reader : Reader) (what : Result Datagram Refusal) → IsRead before.journal.router before.reader link datagram what reader
    → OnErr r ((text : List ℕ) × PrintsRead (record before { reader = reader }) what text after) → OnErr r ((text : List ℕ) × PrintsDatagram before link datagram text after)
read_untold (Ok x) before after link datagram reader what is printed = tt
read_untold (Err error) before after link datagram reader what is (text, printed) = (text, (reader, what, is, printed))

-- a session that begins, by its parts
abbrev pub begun_of : Journal → Reader → List Reply → RecordedState
begun_of j reader recent = record { journal = j; mark = first_mark 1; reader = reader; recent = recent }

pub begun_is : (config : Setup) (j : Journal) (reader : Reader) (recent : List Reply) → j ≡ opened_journal (opened config) (first_counts 1) j.table → reader ≡ new_reader j.table → recent ≡ []
    → begun_of j reader recent ≡ begun config j.table
begun_is config j reader recent e f g =
    ap (λ (k : Journal). begun_of k reader recent) e ∙ (ap (λ (r : Reader). begun_of (opened_journal (opened config) (first_counts 1) j.table) r recent) f
    ∙ ap (λ (l : List Reply). begun_of (opened_journal (opened config) (first_counts 1) j.table) (new_reader j.table) l) g)
