-- Headings that were ranked so far.
use Rattle.std.proofs.Common.{◌≡◌, ℕ, Bool, true, false, Some, ap₂, min, List, [], ◌++◌, map, sym, ap, ◌∙◌, append_assoc, append-nil}
use Rattle.std.specs.Str.{IsUtf8}
use Rattle.line_streams.specs.Cuts.{lines_of}
use Rattle.lsr_explain.specs.Nearest.{edits, edits_by, near_line, near_lines, shown}
use Rattle.lsr_explain.specs.Topics.{words_of}
use Rattle.lsr_explain.specs.declared.nearest.Near.{Near}
use Rattle.lsr_explain.specs.declared.topics.Kind.{Kind}
use Rattle.lsr_explain.proofs.TopicLaws.{no_lines}

-- The headings before the rest were appended to those that there were.
pub record IsPushedTo (kind : Kind) (word : List ℕ) (old now : List Near) (text rest : List ℕ) : Type 0 where
  pub parts : map shown old ++ near_lines kind word (lines_of text) ≡ map shown now ++ near_lines kind word (lines_of rest)
  pub utf8 : IsUtf8 rest

-- one more line
pub pushed_more : (kind : Kind) (word : List ℕ) (now next : List Near) (rest line behind : List ℕ) (whole : List (ℕ × Kind × List ℕ)) → whole ≡ map shown now ++ near_lines kind word (lines_of rest)
    → near_lines kind word (lines_of rest) ≡ near_line kind word line ++ near_lines kind word (lines_of behind) → map shown next ≡ map shown now ++ near_line kind word line → whole ≡ map shown next ++ near_lines kind word (lines_of behind)
pushed_more kind word now next rest line behind whole parts first pushed =
    parts ∙ ap (λ l. map shown now ++ l) first ∙ sym (append_assoc (map shown now) (near_line kind word line) (near_lines kind word (lines_of behind))) ∙ ap (λ l. l ++ near_lines kind word (lines_of behind)) (sym pushed)

-- and where none is left
pub pushed_all : (kind : Kind) (word rest : List ℕ) (now : List Near) (whole : List (ℕ × Kind × List ℕ)) → whole ≡ map shown now ++ near_lines kind word (lines_of rest) → rest ≡ [] → map shown now ≡ whole
pushed_all kind word rest now whole parts e =
    sym (parts ∙ ap (λ r. map shown now ++ near_lines kind word (lines_of r)) e ∙ ap (λ l. map shown now ++ near_lines kind word l) no_lines ∙ append-nil (map shown now))

four : {X : Type 0} (none first second third fourth a b c d : List X) → none ≡ [] → first ≡ none ++ a → second ≡ first ++ b → third ≡ second ++ c → fourth ≡ third ++ d → fourth ≡ a ++ (b ++ (c ++ d))
four none first second third fourth a b c d n e f g h =
    h ∙ ap (λ l. l ++ d) (g ∙ ap (λ l. l ++ c) (f ∙ ap (λ l. l ++ b) (e ∙ ap (λ l. l ++ a) n))) ∙ append_assoc (a ++ b) c d ∙ append_assoc a b (c ++ d)

-- five kinds, one after the other
pub five : {X : Type 0} (none first second third fourth fifth a b c d e : List X)
    → none ≡ [] → first ≡ none ++ a → second ≡ first ++ b → third ≡ second ++ c → fourth ≡ third ++ d → fifth ≡ fourth ++ e → fifth ≡ a ++ (b ++ (c ++ (d ++ e)))
five none first second third fourth fifth a b c d e n p q r s t =
    t ∙ ap (λ l. l ++ e) (four none first second third fourth a b c d n p q r s) ∙ append_assoc a (b ++ (c ++ d)) e
    ∙ ap (λ l. a ++ l) (append_assoc b (c ++ d) e ∙ ap (λ l. b ++ l) (append_assoc c d e))

-- of a heading without names its first word counts
pub by_first : (named : Bool) (word heading first name : List ℕ) (n : ℕ) → words_of heading ≡ Some (first, name) → named ≡ false → n ≡ edits word first → n ≡ edits_by named word heading (words_of heading)
by_first named word heading first name n words unnamed e = e ∙ sym (ap₂ (λ b w. edits_by b word heading w) unnamed words)

-- and of one with names the nearer of the two
pub by_name : (named : Bool) (word heading first name : List ℕ) (a b n : ℕ) → words_of heading ≡ Some (first, name) → named ≡ true → a ≡ edits word first → b ≡ edits word name → n ≡ min a b → n ≡ edits_by named word heading (words_of heading)
by_name named word heading first name a b n words has e f least = least ∙ ap₂ min e f ∙ sym (ap₂ (λ b w. edits_by b word heading w) has words)
