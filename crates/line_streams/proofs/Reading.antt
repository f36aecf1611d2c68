-- What a reader gives of a stream, one line after the other.
use Rattle.std.proofs.Common.{◌≡◌, ◌≢◌, ◌<◌, ◌≤◌, ◌+◌, ◌-◌, ◌⊎◌, inl, inr, ℕ, zero, suc, List, [], ◌∷◌, ◌++◌, Bool, true, Ok, Err, refl, sym, ap, subst, ◌∙◌, arith, get_or, take, drop, length, length-append, append_assoc, append-nil, take-append-drop}
use Rattle.std.specs.Io.KnownBytes.{Consumes, IsAtEnd, Keeps}
use Rattle.std.proofs.KnownBytes.{Consumes-kept, Consumes-nil, Consumes-trans}
use Rattle.std.proofs.lemmas.List.Elements.{All-cons, All-nil}
use Rattle.std.proofs.lemmas.List.Prefix.{end_rest}
use Rattle.line_streams.specs.Cuts.{lines_of}
use Rattle.line_streams.specs.Texts.{Stream}
use Rattle.line_streams.specs.Streams.{EndsIn, Finds, IsOneLine, IsShort, Overfills, Reads, ReadsAll, StopsFor, StopsShort, onto}
use Rattle.line_streams.specs.declared.input.InputFault.{InputFault}
use Rattle.line_streams.specs.declared.input.InputFault.TheVariants as faults
use Rattle.line_streams.specs.declared.reader.Found.TheVariants as founds
use Rattle.line_streams.proofs.CutLaws.{lines_cut, lines_last}
use Rattle.line_streams.proofs.CutLaws.{lines_of-nil}

-- what stands after a newline is what is left
pub rest_left : (came : List ℕ) (given : ℕ) (front rest left : List ℕ) → left ≡ drop given came → left ≡ front ++ (10 ∷ rest) → drop (length came - length rest) came ≡ rest
rest_left came given front rest left e parts =
    let where_cut : take given came ++ (front ++ (10 ∷ rest)) ≡ (take given came ++ (front ++ (10 ∷ []))) ++ rest = simp append_assoc in
    end_rest came rest (take given came ++ (front ++ (10 ∷ []))) (sym (take-append-drop given came) ∙ ap (λ l. take given came ++ l) (sym e ∙ parts) ∙ where_cut)

one_more : (b : ℕ) (line bytes : List ℕ) → IsOneLine (b ∷ line) → IsOneLine (line ++ bytes) → (k : ℕ) → k < length (b ∷ (line ++ bytes)) → get_or (b ∷ (line ++ bytes)) k 0 ≢ 10
one_more b line bytes h g zero l = h zero (omega arith)
one_more b line bytes h g (suc k) l = g k (omega (arith, l))

one_line : (line bytes : List ℕ) → IsOneLine line → IsOneLine bytes → IsOneLine (line ++ bytes)
one_line [] bytes h g = g
one_line (b ∷ line) bytes h g = λ k l. one_more b line bytes h (one_line line bytes (λ i t. h (suc i) (omega arith)) g) k l

-- So much of a line was read: of what came this is left.
pub record IsReadTo (old now : Stream) (held line left : List ℕ) : Type 0 where
  pub text : List ℕ
  pub consumed : Consumes old.bytes now.bytes text
  pub breaks : now.may_break ≡ true → old.may_break ≡ true
  pub parts : held ++ text ≡ line ++ left
  pub one : IsOneLine line
  pub short : IsShort line
  pub few : length left ≤ 65536

none_here : IsOneLine []
none_here k h = absurd (omega (arith, h))

pub read_none : (old : Stream) (held line : List ℕ) → line ≡ [] → length held ≤ 65536 → IsReadTo old old held line held
read_none old held line e few =
    record {
      text = [];
      consumed = Consumes-nil old.bytes;
      breaks = λ b. b;
      parts = append-nil held ∙ ap (λ l. l ++ held) (sym e);
      one = subst IsOneLine (sym e) none_here;
      short = subst IsShort (sym e) (omega arith);
      few = few;
    }

-- what is left goes onto the line, up to a newline
grown : (old now : Stream) (held line left front back whole : List ℕ) → (r : IsReadTo old now held line left) → left ≡ front ++ back → whole ≡ line ++ front → held ++ r.text ≡ whole ++ back
grown old now held line left front back whole r parts w = r.parts ∙ ap (λ l. line ++ l) parts ∙ sym (append_assoc line front back) ∙ ap (λ l. l ++ back) (sym w)

-- a newline ends the line
pub found_line : (old now : Stream) (held line left front after whole : List ℕ) → IsReadTo old now held line left → IsOneLine front → whole ≡ line ++ front → left ≡ front ++ (10 ∷ after) → IsShort whole → Finds old now held whole after (Ok founds.Line)
found_line old now held line left front after whole r one w parts short = (
  r.text,
  r.consumed,
  grown old now held line left front (10 ∷ after) whole r parts w,
  subst IsOneLine (sym w) (one_line line front r.one one),
  short,
  omega (arith, r.few, ap length parts, length-append front (10 ∷ after)),
)

-- all that is left, without a newline, went onto the line
abbrev pub AllTaken : List ℕ → List ℕ → List ℕ → Type 0
AllTaken line left whole = (front : List ℕ) × IsOneLine front × (whole ≡ line ++ front) × (left ≡ front)

taken_one : (line left whole : List ℕ) → IsOneLine line → AllTaken line left whole → IsOneLine whole
taken_one line left whole h (front, one, w, all) = subst IsOneLine (sym w) (one_line line front h one)

taken_whole : (line left whole : List ℕ) → AllTaken line left whole → whole ≡ line ++ left
taken_whole line left whole (front, one, w, all) = w ∙ ap (λ l. line ++ l) (sym all)

-- then more comes
pub read_on : (old mid now : Stream) (held line left whole next : List ℕ) → IsReadTo old mid held line left → AllTaken line left whole → IsShort whole → Consumes mid.bytes now.bytes next → (now.may_break ≡ true → mid.may_break ≡ true)
    → length next ≤ 65536 → IsReadTo old now held whole next
read_on old mid now held line left whole next r t short consumed breaks few =
    record {
      text = r.text ++ next;
      consumed = Consumes-trans _ _ _ _ _ r.consumed consumed;
      breaks = λ b. r.breaks (breaks b);
      parts = sym (append_assoc held r.text next) ∙ ap (λ l. l ++ next) (r.parts ∙ sym (taken_whole line left whole t));
      one = taken_one line left whole r.one t;
      short = short;
      few = few;
    }

none_in : (bytes : List ℕ) → length bytes ≡ 0 → bytes ≡ []
none_in [] e = refl
none_in (b ∷ bytes) e = absurd (omega (arith, e))

-- or nothing more comes
all_read : (old mid now : Stream) (held line left whole next : List ℕ) → (r : IsReadTo old mid held line left) → AllTaken line left whole → Consumes mid.bytes now.bytes next → length next ≡ 0 → Consumes old.bytes now.bytes r.text × (held ++ r.text ≡ whole)
all_read old mid now held line left whole next r t consumed none =
    (subst (Consumes old.bytes now.bytes) (ap (λ l. r.text ++ l) (none_in next none) ∙ append-nil r.text) (Consumes-trans _ _ _ _ _ r.consumed consumed), r.parts ∙ sym (taken_whole line left whole t))

pub found_last : (old mid now : Stream) (held line left whole next after : List ℕ) → IsReadTo old mid held line left → AllTaken line left whole → IsShort whole → Consumes mid.bytes now.bytes next → length next ≡ 0
    → IsAtEnd now.bytes → 1 ≤ length whole → Finds old now held whole after (Ok founds.LastLine)
found_last old mid now held line left whole next after r t short consumed none end some =
    let all = all_read old mid now held line left whole next r t consumed none in
    (r.text, all.0, end, all.1, taken_one line left whole r.one t, short, some)

pub found_end : (old mid now : Stream) (held line left whole next after : List ℕ) → IsReadTo old mid held line left → AllTaken line left whole → Consumes mid.bytes now.bytes next → length next ≡ 0 → IsAtEnd now.bytes → length whole ≡ 0
    → Finds old now held whole after (Ok founds.End)
found_end old mid now held line left whole next after r t consumed none end empty =
    let all = all_read old mid now held line left whole next r t consumed none in
    (r.text, all.0, end, all.1 ∙ none_in whole empty)

-- what is left ends in a line's end, and so does that with the line before it
ends_later : (line front left : List ℕ) → IsOneLine line → EndsIn front left → EndsIn (line ++ front) (line ++ left)
ends_later line front left h (one, inl all) = (one_line line front h one, inl (ap (λ l. line ++ l) all))
ends_later line front left h (one, inr (after, parts)) = (one_line line front h one, inr (after, ap (λ l. line ++ l) parts ∙ sym (append_assoc line front (10 ∷ after))))

overfills_for : (may_break : Bool) (line front left : List ℕ) (fault : InputFault) → EndsIn (line ++ front) (line ++ left) → Overfills line front fault → length (line ++ left) ≤ 16777216 + 65536 → StopsFor may_break (line ++ left) fault
overfills_for may_break line front left faults.Absent ends over late = absurd over
overfills_for may_break line front left faults.Unopened ends over late = absurd over
overfills_for may_break line front left faults.Folder ends over late = absurd over
overfills_for may_break line front left faults.Broken ends over late = absurd over
overfills_for may_break line front left faults.TooLong ends over late = (line ++ front, ends, over)
overfills_for may_break line front left (faults.NotText at) ends over late = absurd over
overfills_for may_break line front left (faults.NotTextLine number at) ends over late = absurd over
overfills_for may_break line front left faults.Memory ends over late = ((line ++ front, ends, over), late)

-- where the line can't grow it isn't given
pub found_short : (old now : Stream) (held line left any after : List ℕ) (fault : InputFault) → IsReadTo old now held line left → StopsShort line left fault → Finds old now held any after (Err fault)
found_short old now held line left any after fault r (front, ends, over) = (
  r.text,
  r.consumed,
  subst (λ l. StopsFor old.may_break l fault) (sym r.parts)
      (overfills_for old.may_break line front left fault (ends_later line front left r.one ends) over (omega (arith, r.short, r.few, length-append line left))),
)

-- of a stream that may break no more than the beginning of a line was read
line_broken : (old mid : Stream) (held line left whole : List ℕ) → (r : IsReadTo old mid held line left) → AllTaken line left whole → IsShort whole → mid.may_break ≡ true
    → (old.may_break ≡ true) × IsOneLine (held ++ r.text) × IsShort (held ++ r.text)
line_broken old mid held line left whole r t short broke =
    subst (λ l. (old.may_break ≡ true) × IsOneLine l × IsShort l) (taken_whole line left whole t ∙ sym r.parts) (r.breaks broke, taken_one line left whole r.one t, short)

-- nor where nothing more can be read
pub found_broken : (old mid now : Stream) (held line left whole any after : List ℕ) (fault : InputFault) → IsReadTo old mid held line left → AllTaken line left whole → IsShort whole → Keeps mid.bytes now.bytes
    → (fault ≡ faults.Memory) ⊎ (((fault ≡ faults.Broken) ⊎ (fault ≡ faults.Folder)) × (mid.may_break ≡ true)) → Finds old now held any after (Err fault)
found_broken old mid now held line left whole any after fault r t short kept (inl memory) =
    let w = taken_whole line left whole t in (
      r.text,
      Consumes-kept _ _ _ _ r.consumed kept,
      subst (λ f. StopsFor old.may_break (held ++ r.text) f) (sym memory)
          (subst (λ l. StopsFor old.may_break l faults.Memory) (w ∙ sym r.parts) ((whole, (taken_one line left whole r.one t, inl refl), short), omega (arith, short))),
    )
found_broken old mid now held line left whole any after fault r t short kept (inr (inl broken, broke)) =
    (r.text, Consumes-kept _ _ _ _ r.consumed kept, subst (λ f. StopsFor old.may_break (held ++ r.text) f) (sym broken) (line_broken old mid held line left whole r t short broke))
found_broken old mid now held line left whole any after fault r t short kept (inr (inr folder, broke)) =
    (r.text, Consumes-kept _ _ _ _ r.consumed kept, subst (λ f. StopsFor old.may_break (held ++ r.text) f) (sym folder) (line_broken old mid held line left whole r t short broke))

-- before the first line nothing was read
pub reads_none : (first : Stream) (left : List ℕ) → left ≡ [] → Reads first first [] left
reads_none first left e =
    record { text = []; consumed = Consumes-nil first.bytes; breaks = λ b. b; parts = λ more. ap (λ l. lines_of (l ++ more)) (sym e); short = All-nil IsShort }

-- one line more
pub reads_line : (first mid now : Stream) (lines : List (List ℕ)) (held line left : List ℕ) → Reads first mid lines held → (now.may_break ≡ true → mid.may_break ≡ true) → Finds mid now held line left (Ok founds.Line) → Reads first now (line ∷ lines) left
reads_line first mid now lines held line left r breaks (text, consumed, parts, one, short, few) =
    record {
      text = r.text ++ text;
      consumed = Consumes-trans _ _ _ _ _ r.consumed consumed;
      breaks = λ b. r.breaks (breaks b);
      parts = λ more.
          let where_cut : held ++ (text ++ more) ≡ line ++ (10 ∷ (left ++ more)) = sym (append_assoc held text more) ∙ ap (λ l. l ++ more) parts ∙ append_assoc line (10 ∷ left) more in
          ap lines_of (append_assoc r.text text more) ∙ r.parts (text ++ more) ∙ ap (λ l. onto lines (lines_of l)) where_cut ∙ ap (onto lines) (lines_cut line (left ++ more) one);
      short = All-cons IsShort line lines short r.short;
    }

ended_by : (first mid now : Stream) (lines : List (List ℕ)) (held text : List ℕ) → (r : Reads first mid lines held) → lines_of (r.text ++ text) ≡ onto lines (lines_of (held ++ text))
ended_by first mid now lines held text r = ap (λ l. lines_of (r.text ++ l)) (sym (append-nil text)) ∙ r.parts (text ++ []) ∙ ap (λ l. onto lines (lines_of (held ++ l))) (append-nil text)

-- the last line
pub reads_last : (first mid now : Stream) (lines : List (List ℕ)) (held line left : List ℕ) → Reads first mid lines held → Finds mid now held line left (Ok founds.LastLine) → ReadsAll first now (line ∷ lines)
reads_last first mid now lines held line left r (text, consumed, end, all, one, short, some) =
    record {
      text = r.text ++ text;
      consumed = Consumes-trans _ _ _ _ _ r.consumed consumed;
      ended = end;
      parts = ended_by first mid now lines held text r ∙ ap (λ l. onto lines (lines_of l)) all ∙ ap (onto lines) (lines_last line some one ∙ ap (λ l. line ∷ l) lines_of-nil);
      short = All-cons IsShort line lines short r.short;
    }

-- no line more
pub reads_all : (first mid now : Stream) (lines : List (List ℕ)) (held line left : List ℕ) → Reads first mid lines held → Finds mid now held line left (Ok founds.End) → ReadsAll first now lines
reads_all first mid now lines held line left r (text, consumed, end, none) =
    record {
      text = r.text ++ text;
      consumed = Consumes-trans _ _ _ _ _ r.consumed consumed;
      ended = end;
      parts = ended_by first mid now lines held text r ∙ ap (λ l. onto lines (lines_of l)) none ∙ ap (onto lines) lines_of-nil;
      short = r.short;
    }

broke_first : (first mid : Bool) (left : List ℕ) (fault : InputFault) → (mid ≡ true → first ≡ true) → StopsFor mid left fault → StopsFor first left fault
broke_first first mid left faults.Absent breaks s = s
broke_first first mid left faults.Unopened breaks s = s
broke_first first mid left faults.Folder breaks s = (breaks s.0, s.1, s.2)
broke_first first mid left faults.Broken breaks s = (breaks s.0, s.1, s.2)
broke_first first mid left faults.TooLong breaks s = s
broke_first first mid left (faults.NotText at) breaks s = s
broke_first first mid left (faults.NotTextLine line at) breaks s = s
broke_first first mid left faults.Memory breaks s = s

-- why no line more is given
pub reads_short : (first mid now : Stream) (lines : List (List ℕ)) (held line after : List ℕ) (fault : InputFault) → Reads first mid lines held → (now.may_break ≡ true → mid.may_break ≡ true) → Finds mid now held line after (Err fault)
    → (left : List ℕ) × Reads first now lines left × StopsFor first.may_break left fault
reads_short first mid now lines held line after fault r breaks (text, consumed, stops) = (
  held ++ text,
  record {
    text = r.text ++ text;
    consumed = Consumes-trans _ _ _ _ _ r.consumed consumed;
    breaks = λ b. r.breaks (breaks b);
    parts = λ more. ap lines_of (append_assoc r.text text more) ∙ r.parts (text ++ more) ∙ ap (λ l. onto lines (lines_of l)) (sym (append_assoc held text more));
    short = r.short;
  },
  broke_first first.may_break mid.may_break (held ++ text) fault r.breaks stops,
)
