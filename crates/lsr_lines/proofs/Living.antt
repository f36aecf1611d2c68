-- Lines that were served as they came, and one more.
use Rattle.std.proofs.Common.{◌≡◌, ◌+◌, ◌≤◌, ◌^◌, ◌||◌, inl, inr, ℕ, List, [], ◌∷◌, ◌++◌, Bool, true, false, Option, Some, None, Ok, Err, refl, sym, ap, subst, ◌∙◌, arith, length, length-append, append-nil}
use Rattle.std.specs.Io.KnownBytes.{Appends, Keeps}
use Rattle.std.proofs.KnownBytes.{Appends-nil, Appends-trans}
use Rattle.lsr_lines.specs.Forms.{bad_line_text}
use Rattle.lsr_lines.specs.Live.{BecomesLive, Comes, Lives, Marks, ServesAll, is_told}
use Rattle.lsr_lines.specs.Steps.{Prints, TakesMemory, is_remark}
use Rattle.line_streams.specs.Streams.{Finds, Reads}
use Rattle.line_streams.specs.Texts.{IsTextUpTo, Stream}
use Rattle.line_streams.specs.declared.input.InputFault.{InputFault}
use Rattle.line_streams.specs.declared.input.InputFault.TheVariants as faults
use Rattle.lsr_lines.specs.declared.lines.Request.{Request}
use Rattle.lsr_lines.specs.declared.live.LiveEnding.{LiveEnding}
use Rattle.lsr_lines.specs.declared.live.LiveEnding.TheVariants as endings
use Rattle.line_streams.specs.declared.reader.Found.{Found}
use Rattle.line_streams.specs.declared.reader.Found.TheVariants as founds
use Rattle.lsr_lines.specs.declared.step.LineOutcome.{LineOutcome}
use Rattle.lsr_lines.specs.declared.step.LineOutcome.TheVariants as lots
use Rattle.line_streams.proofs.Reading.{reads_all, reads_last, reads_line, reads_none, reads_short}
use Rattle.lsr_lines.proofs.Stepping.{prints_push, told_none}

-- what is kept of what was appended to is kept
pub appended_kept : (a b c : Option (List ℕ)) (bytes : List ℕ) → Appends a b bytes → Keeps b c → Appends a c bytes
appended_kept None b c bytes p q = tt
appended_kept (Some x) None c bytes p q = absurd p
appended_kept (Some x) (Some y) None bytes p q = absurd q
appended_kept (Some x) (Some y) (Some z) bytes p q = q ∙ p

none_more : (bytes more : List ℕ) → more ≡ [] → bytes ≡ bytes ++ more
none_more bytes more e = sym (append-nil bytes) ∙ ap (λ l. bytes ++ l) (sym e)

-- one line more is served
pub serves_more : {S : Type 0} (answers : S → Request → List ℕ → S → Type 0) (echo : Bool) (before : S) (lines : List (List ℕ)) (printed told : List ℕ) (mid : S) (count number : ℕ) (line more text : List ℕ) (served : LineOutcome) (after : S)
    → ServesAll answers echo before lines printed told mid → count ≡ length lines → number ≡ count + 1 → (served ≡ lots.Memory → ⊥) → BecomesLive answers echo mid number line more text served after
    → ServesAll answers echo before (line ∷ lines) (printed ++ more) (told ++ text) after
serves_more answers echo before lines printed told mid count number line more text lots.Done after s counted n some (silent, inl (remark, none, same)) =
    record {
      kept = s.kept;
      sorts = (s.kept, told, s.sorts, inl (remark, refl, sym (none_more told text silent)));
      prints = subst (λ p. Prints answers echo before s.kept p after) (none_more printed more none) (subst (λ a. Prints answers echo before s.kept printed a) (sym same) s.prints);
    }
serves_more answers echo before lines printed told mid count number line more text lots.Done after s counted n some (silent, inr (kept, serves)) =
    record {
      kept = s.kept ++ (line ∷ []);
      sorts = (s.kept, told, s.sorts, inr (inl (kept, refl, sym (none_more told text silent))));
      prints = prints_push answers echo before s.kept printed mid line more after s.prints serves;
    }
serves_more answers echo before lines printed told mid count number line more text lots.NoRequest after s counted n some (kept, nothing, none, said, same) =
    record {
      kept = s.kept;
      sorts = (s.kept, told, s.sorts, inr (inr (kept, nothing, refl, ap (λ l. told ++ l) (said ∙ ap (λ m. bad_line_text m line) (n ∙ ap (λ m. m + 1) counted)))));
      prints = subst (λ p. Prints answers echo before s.kept p after) (none_more printed more none) (subst (λ a. Prints answers echo before s.kept printed a) (sym same) s.prints);
    }
serves_more answers echo before lines printed told mid count number line more text lots.Memory after s counted n some became = absurd (some refl)

marks_longer : (bad : Bool) (told text : List ℕ) → Marks bad told → 1 ≤ length text → Marks (bad || true) (told ++ text)
marks_longer false told text marks some = omega (arith, some, length-append told text)
marks_longer true told text marks some = omega (arith, some, length-append told text)

marks_same : (bad : Bool) (told text : List ℕ) → Marks bad told → text ≡ [] → Marks (bad || false) (told ++ text)
marks_same false told text marks none = sym (none_more told text none) ∙ marks
marks_same true told text marks none = subst (λ l. 1 ≤ length l) (none_more told text none) marks

pub marks_more : {S : Type 0} (answers : S → Request → List ℕ → S → Type 0) (echo : Bool) (mid : S) (bad : Bool) (told : List ℕ) (number : ℕ) (line more text : List ℕ) (served : LineOutcome) (after : S) → Marks bad told
    → (served ≡ lots.Memory → ⊥) → BecomesLive answers echo mid number line more text served after → Marks (bad || is_told served) (told ++ text)
marks_more answers echo mid bad told number line more text lots.Done after marks some became = marks_same bad told text marks became.0
marks_more answers echo mid bad told number line more text lots.NoRequest after marks some became = marks_longer bad told text marks (subst (λ l. 1 ≤ length l) (sym became.3) (omega arith))
marks_more answers echo mid bad told number line more text lots.Memory after marks some became = absurd (some refl)

-- So far a stream was read and its lines were served.
pub record IsLiveTo {S : Type 0} (answers : S → Request → List ℕ → S → Type 0) (echo : Bool) (before : S) (first now : Stream) (output shown error said : Option (List ℕ)) (left : List ℕ) (count : ℕ) (bad : Bool) (after : S) : Type 0 where
  pub lines : List (List ℕ)
  pub printed : List ℕ
  pub told : List ℕ
  pub reads : Reads first now lines left
  pub few : length left ≤ 65536
  pub shows : Appends output shown printed
  pub says : Appends error said told
  pub marks : Marks bad told
  pub serves : ServesAll answers echo before lines printed told after
  pub counted : count ≡ length lines

pub live_none : {S : Type 0} (answers : S → Request → List ℕ → S → Type 0) (echo : Bool) (before : S) (first : Stream) (output error : Option (List ℕ)) (left : List ℕ) → left ≡ [] → IsLiveTo answers echo before first first output output error error left 0 false before
live_none answers echo before first output error left e =
    record {
      lines = [];
      printed = [];
      told = [];
      reads = reads_none first left e;
      few = subst (λ l. length l ≤ 65536) (sym e) (omega arith);
      shows = Appends-nil output;
      says = Appends-nil error;
      marks = refl;
      serves = record { kept = []; sorts = (refl, refl); prints = (refl, refl) };
      counted = refl;
    }

-- how a run ends: what it prints and tells, and whether it tells of a line
abbrev pub Ends : {S : Type 0} → (S → Request → List ℕ → S → Type 0) → Bool → S → Stream → Stream → Option (List ℕ) → Option (List ℕ) → Option (List ℕ) → Option (List ℕ) → Bool → LiveEnding → Type 0
Ends answers echo before first now output shown error said bad ending =
    (printed : List ℕ) × (told : List ℕ) × Appends output shown printed × Appends error said told × Marks bad told × Lives answers echo before first now printed told ending

-- the line that was found came after the others
comes : (first mid now : Stream) (lines : List (List ℕ)) (held line left : List ℕ) (found : Found) → Reads first mid lines held → (now.may_break ≡ true → mid.may_break ≡ true) → (found ≡ founds.End → ⊥) → Finds mid now held line left (Ok found)
    → Comes first now lines line
comes first mid now lines held line left founds.Line r breaks some finds = inl (left, reads_line first mid now lines held line left r breaks finds)
comes first mid now lines held line left founds.LastLine r breaks some finds = inr (reads_last first mid now lines held line left r finds)
comes first mid now lines held line left founds.End r breaks some finds = absurd (some refl)

-- it is served
pub live_more : {S : Type 0} (answers : S → Request → List ℕ → S → Type 0) (echo : Bool) (before : S) (first mid now : Stream) (output shown shows error said says : Option (List ℕ)) (held line seen left : List ℕ) (count number : ℕ) (bad : Bool) (session : S)
    (found : Found) (served : LineOutcome) (more text : List ℕ) (after : S) → IsLiveTo answers echo before first mid output shown error said held count bad session → (now.may_break ≡ true → mid.may_break ≡ true) → Finds mid now held line left (Ok found)
    → (found ≡ founds.End → ⊥) → (found ≡ founds.LastLine → ⊥) → seen ≡ line → number ≡ count + 1 → (served ≡ lots.Memory → ⊥) → Appends shown shows more → Appends said says text → BecomesLive answers echo session number seen more text served after
    → IsLiveTo answers echo before first now output shows error says left number (bad || is_told served) after
live_more answers echo before first mid now output shown shows error said says held line seen left count number bad session founds.End served more text after r breaks finds some whole same n room prints tells became = absurd (some refl)
live_more answers echo before first mid now output shown shows error said says held line seen left count number bad session founds.LastLine served more text after r breaks finds some whole same n room prints tells became = absurd (whole refl)
live_more answers echo before first mid now output shown shows error said says held line seen left count number bad session founds.Line served more text after r breaks finds some whole same n room prints tells became =
    record {
      lines = line ∷ r.lines;
      printed = r.printed ++ more;
      told = r.told ++ text;
      reads = reads_line first mid now r.lines held line left r.reads breaks finds;
      few = finds.5;
      shows = Appends-trans _ _ _ _ _ r.shows prints;
      says = Appends-trans _ _ _ _ _ r.says tells;
      marks = marks_more answers echo session bad r.told number seen more text served after r.marks room became;
      serves = serves_more answers echo before r.lines r.printed r.told session count number line more text served after r.serves r.counted n room
          (subst (λ l. BecomesLive answers echo session number l more text served after) same became);
      counted = omega (arith, n, r.counted);
    }

-- and where it is the last one, that ends the run
pub live_last : {S : Type 0} (answers : S → Request → List ℕ → S → Type 0) (echo : Bool) (before : S) (first mid now : Stream) (output shown shows error said says : Option (List ℕ)) (held line seen left : List ℕ) (count number : ℕ) (bad : Bool) (session : S)
    (found : Found) (served : LineOutcome) (more text : List ℕ) (after : S) → IsLiveTo answers echo before first mid output shown error said held count bad session → Finds mid now held line left (Ok found)
    → found ≡ founds.LastLine → seen ≡ line → number ≡ count + 1 → (served ≡ lots.Memory → ⊥) → Appends shown shows more → Appends said says text → BecomesLive answers echo session number seen more text served after
    → Ends answers echo before first now output shows error says (bad || is_told served) endings.Done
live_last answers echo before first mid now output shown shows error said says held line seen left count number bad session found served more text after r finds last same n room prints tells became = (
  r.printed ++ more,
  r.told ++ text,
  Appends-trans _ _ _ _ _ r.shows prints,
  Appends-trans _ _ _ _ _ r.says tells,
  marks_more answers echo session bad r.told number seen more text served after r.marks room became,
  (
    line ∷ r.lines,
    after,
    reads_last first mid now r.lines held line left r.reads (subst (λ f. Finds mid now held line left (Ok f)) last finds),
    serves_more answers echo before r.lines r.printed r.told session count number line more text served after r.serves r.counted n room (subst (λ l. BecomesLive answers echo session number l more text served after) same became),
  ),
)

-- where none is found all were served
pub live_all : {S : Type 0} (answers : S → Request → List ℕ → S → Type 0) (echo : Bool) (before : S) (first mid now : Stream) (output shown error said : Option (List ℕ)) (held line left : List ℕ) (count : ℕ) (bad : Bool) (session : S) (found : Found)
    → IsLiveTo answers echo before first mid output shown error said held count bad session → Finds mid now held line left (Ok found) → found ≡ founds.End → Ends answers echo before first now output shown error said bad endings.Done
live_all answers echo before first mid now output shown error said held line left count bad session found r finds none =
    (r.printed, r.told, r.shows, r.says, r.marks, (r.lines, session, reads_all first mid now r.lines held line left r.reads (subst (λ f. Finds mid now held line left (Ok f)) none finds), r.serves))

-- where none is given those so far were served
pub live_unread : {S : Type 0} (answers : S → Request → List ℕ → S → Type 0) (echo : Bool) (before : S) (first mid now : Stream) (output shown error said : Option (List ℕ)) (held line left : List ℕ) (count : ℕ) (bad : Bool) (session : S) (fault : InputFault)
    → IsLiveTo answers echo before first mid output shown error said held count bad session → (now.may_break ≡ true → mid.may_break ≡ true) → Finds mid now held line left (Err fault) → Ends answers echo before first now output shown error said bad (endings.Unread fault)
live_unread answers echo before first mid now output shown error said held line left count bad session fault r breaks finds =
    (r.printed, r.told, r.shows, r.says, r.marks, (r.lines, session, inl (reads_short first mid now r.lines held line left fault r.reads breaks finds), r.serves))

-- where it isn't UTF-8, too
pub live_untext : {S : Type 0} (answers : S → Request → List ℕ → S → Type 0) (echo : Bool) (before : S) (first mid now : Stream) (output shown error said : Option (List ℕ)) (held line seen left : List ℕ) (count number at : ℕ) (bad : Bool) (session : S) (found : Found)
    → IsLiveTo answers echo before first mid output shown error said held count bad session → (now.may_break ≡ true → mid.may_break ≡ true) → Finds mid now held line left (Ok found) → (found ≡ founds.End → ⊥) → seen ≡ line → number ≡ count + 1 → IsTextUpTo seen at
    → Ends answers echo before first now output shown error said bad (endings.Unread (faults.NotTextLine number at))
live_untext answers echo before first mid now output shown error said held line seen left count number at bad session found r breaks finds some same n wrong =
    let placed = ap (λ m. faults.NotTextLine m at) (n ∙ ap (λ m. m + 1) r.counted) in
    (r.printed, r.told, r.shows, r.says, r.marks, (r.lines, session, inr (inl (line, at, placed, comes first mid now r.lines held line left found r.reads breaks some finds, subst (λ l. IsTextUpTo l at) same wrong)), r.serves))

-- where there is no memory for it, too
pub live_full : {S : Type 0} (answers : S → Request → List ℕ → S → Type 0) (echo : Bool) (before : S) (first mid now : Stream) (output shown shows error said says : Option (List ℕ)) (held line seen left : List ℕ) (count number : ℕ) (bad : Bool) (session : S)
    (found : Found) (served : LineOutcome) (more text : List ℕ) (after : S) → IsLiveTo answers echo before first mid output shown error said held count bad session → (now.may_break ≡ true → mid.may_break ≡ true) → Finds mid now held line left (Ok found)
    → (found ≡ founds.End → ⊥) → seen ≡ line → served ≡ lots.Memory → Appends shown shows more → Appends said says text → BecomesLive answers echo session number seen more text served after
    → Ends answers echo before first now output shows error says bad endings.Memory
live_full answers echo before first mid now output shown shows error said says held line seen left count number bad session found served more text after r breaks finds some same full prints tells became =
    let lost = subst (λ s. BecomesLive answers echo session number seen more text s after) full became in (
      r.printed,
      r.told,
      told_none _ _ _ _ _ r.shows prints lost.2,
      told_none _ _ _ _ _ r.says tells lost.3,
      r.marks,
      (
        r.lines,
        line,
        session,
        comes first mid now r.lines held line left found r.reads breaks some finds,
        subst (λ l. is_remark l ≡ false) same lost.0,
        subst TakesMemory same lost.1,
        r.serves,
      ),
    )

-- and where no more can be counted
pub live_most : {S : Type 0} (answers : S → Request → List ℕ → S → Type 0) (echo : Bool) (before : S) (first now : Stream) (output shown error said : Option (List ℕ)) (held : List ℕ) (count : ℕ) (bad : Bool) (session : S)
    → IsLiveTo answers echo before first now output shown error said held count bad session → 2 ^ 64 ≤ count + 1 → Ends answers echo before first now output shown error said bad (endings.Unread faults.TooLong)
live_most answers echo before first now output shown error said held count bad session r many =
    (r.printed, r.told, r.shows, r.says, r.marks, (r.lines, session, inr (inr (refl, (held, r.reads), omega (arith, many, r.counted))), r.serves))
