-- Headings cut at their first space, lines that were looked at, and lines that were printed.
use Rattle.std.proofs.Common.{◌≡◌, ◌≢◌, ◌<◌, ℕ, suc, List, [], ◌∷◌, ◌++◌, Bool, true, false, refl, sym, ap, ◌∙◌, arith, get_or, length, ne_eqb, append_assoc, append-nil, codes, ◌||◌, ◌⊎◌, inl, inr, rules}
use Rattle.std.specs.Prelude.{Option, Some, None, option_map, bytes_eq, if◌then◌else◌, IsNone}
use Rattle.std.specs.Option.{MatchOption}
use Rattle.std.specs.Str.{IsUtf8}
use Rattle.std.specs.Io.KnownBytes.{Appends}
use Rattle.line_streams.specs.Cuts.{lines_of}
use Rattle.lsr_explain.specs.Topics.{found, is_asked_by, is_indented, is_one_of, is_same, is_sought, longer_first, words_of}
use Rattle.lsr_explain.specs.declared.topics.Kind.{Kind}
use Rattle.lsr_explain.specs.Answers.{explained}

word_more : (b : ℕ) (rest : List ℕ) → b ≢ 32 → words_of (b ∷ rest) ≡ longer_first b (words_of rest)
unfolding words_of
word_more b rest h = rw (ne_eqb b 32 h) refl

pub words_cut : (first second : List ℕ) → ((i : ℕ) → i < length first → get_or first i 0 ≢ 32) → words_of (first ++ (32 ∷ second)) ≡ Some (first, second)
unfolding words_of
words_cut [] second h = refl
words_cut (b ∷ first) second h = word_more b (first ++ (32 ∷ second)) (h 0 (omega arith)) ∙ ap (longer_first b) (words_cut first second (λ i l. h (suc i) (omega arith)))

pub no_words : (line : List ℕ) → ((i : ℕ) → i < length line → get_or line i 0 ≢ 32) → words_of line ≡ None
unfolding words_of
no_words [] h = refl
no_words (b ∷ line) h = word_more b line (h 0 (omega arith)) ∙ ap (longer_first b) (no_words line (λ i l. h (suc i) (omega arith)))

-- what a word asks for is still among the lines that are left
pub record IsSought (any_case : Bool) (kind : Kind) (word : List ℕ) (text rest : List ℕ) : Type 0 where
  pub same : found any_case kind word (lines_of text) ≡ found any_case kind word (lines_of rest)
  pub utf8 : IsUtf8 rest

pub found_first : (any_case : Bool) (kind : Kind) (word line : List ℕ) (lines : List (List ℕ)) → is_sought any_case kind word line ≡ true → found any_case kind word (line ∷ lines) ≡ Some (line ∷ lines)
unfolding found
found_first any_case kind word line lines h = rw h refl

pub found_behind : (any_case : Bool) (kind : Kind) (word line : List ℕ) (lines : List (List ℕ)) → is_sought any_case kind word line ≡ false → found any_case kind word (line ∷ lines) ≡ found any_case kind word lines
unfolding found
found_behind any_case kind word line lines h = rw h refl

pub found_none : (any_case : Bool) (kind : Kind) (word : List ℕ) → found any_case kind word [] ≡ None
unfolding found
found_none any_case kind word = refl

pub no_lines : lines_of [] ≡ []
unfolding lines_of
no_lines = refl

-- a heading's first word is the word that was asked for, or it is its name, or neither is
pub asked_first : (any_case named : Bool) (word heading first name : List ℕ) (q : Bool) → words_of heading ≡ Some (first, name) → q ≡ is_same any_case first word → q ≡ true → true ≡ is_asked_by any_case named word heading
asked_first any_case named word heading first name q e h t =
    sym (ap (λ b. b || (if named then is_same any_case name word else false)) (sym h ∙ t)) ∙ sym (ap (is_one_of any_case named word heading) e)

pub asked_name : (any_case named : Bool) (word heading first name : List ℕ) (q r : Bool) → words_of heading ≡ Some (first, name) → q ≡ is_same any_case first word → q ≡ false → r ≡ (if named then is_same any_case name word else false)
    → r ≡ is_asked_by any_case named word heading
asked_name any_case named word heading first name q r e h t g =
    g ∙ sym (ap (λ b. b || (if named then is_same any_case name word else false)) (sym h ∙ t)) ∙ sym (ap (is_one_of any_case named word heading) e)

pub none_by : {X : Type 0} (r : Option X) → ((x : X) → r ≡ Some x → ⊥) → IsNone r
none_by None h = search rules
none_by (Some x) h = absurd (h x refl)

pub none_of : {X Y : Type 0} (f : X → Y) (r : Option X) → ((x : X) → r ≡ Some x → ⊥) → option_map f r ≡ None
none_of f None h = refl
none_of f (Some x) h = absurd (h x refl)

pub no_error : {X : Type 0} (P : X → Type 0) (Q : Type 0) (r : Option X) → ((x : X) → r ≡ Some x → ⊥) → MatchOption r Q P → Q
no_error P Q None none h = h
no_error P Q (Some x) none h = absurd (none x refl)

pub neither : {A B : Type 0} → (A → ⊥) → (B → ⊥) → A ⊎ B → ⊥
neither a b (inl x) = a x
neither a b (inr x) = b x

-- What was printed of the lines before the rest.
pub record IsPrintedTo (told : List (List ℕ) → List ℕ) (text : List ℕ) (old new : Option (List ℕ)) (rest : List ℕ) : Type 0 where
  pub printed : List ℕ
  pub grown : Appends old new printed
  pub parts : told (lines_of text) ≡ printed ++ told (lines_of rest)
  pub utf8 : IsUtf8 rest

pub explained_more : (line : List ℕ) (lines : List (List ℕ)) → is_indented line ≡ true → explained (line ∷ lines) ≡ (line ++ codes "\n") ++ explained lines
unfolding explained
explained_more line lines h = rw h (sym (append_assoc line (codes "\n") (explained lines)))

pub explained_end : (line : List ℕ) (lines : List (List ℕ)) → is_indented line ≡ false → explained (line ∷ lines) ≡ []
unfolding explained
explained_end line lines h = rw h refl

pub explained_none : explained [] ≡ []
unfolding explained
explained_none = refl

-- one more line has its text
pub parts_more : (whole printed line rest behind : List ℕ) → whole ≡ printed ++ rest → rest ≡ line ++ behind → whole ≡ (printed ++ line) ++ behind
parts_more whole printed line rest behind e f = e ∙ ap (λ l. printed ++ l) f ∙ sym (append_assoc printed line behind)

-- and where the rest has none, all have
pub parts_all : (whole printed rest : List ℕ) → whole ≡ printed ++ rest → rest ≡ [] → printed ≡ whole
parts_all whole printed rest e f = sym (e ∙ ap (λ l. printed ++ l) f ∙ append-nil printed)
