-- What is explained, and which word asks for what.
use Rattle.std.specs.Prelude.{◌≡◌, ◌≢◌, ◌≤◌, ◌<◌, ◌^◌, ◌==◌, ◌||◌, ◌⊎◌, if◌then◌else◌, ℕ, List, [], ◌∷◌, ◌++◌, Bool, true, false, Option, Some, None, codes, length, bytes_eq}
use Rattle.std.specs.Option.{option_or}
use Rattle.std.specs.Str.{all_ascii_digits, str_eq_ignore_ascii_case}
use Rattle.std.specs.Str.Parse.{digits_value}
use Rattle.line_streams.specs.Cuts.{lines_of}
use Rattle.lsr_explain.specs.declared.topics.Kind.{Kind}
use Rattle.lsr_explain.specs.declared.topics.Kind.TheVariants as kinds
use Rattle.lsr_explain.specs.declared.topics.Topic.{Topic}
use Rattle.lsr_explain.specs.declared.explaining.Answer.{Answer}
use Rattle.lsr_explain.specs.declared.explaining.Answer.TheVariants as answers
use Rattle.lsr_explain.specs.declared.refusals.TheConstants.{REFUSALS}
use Rattle.lsr_explain.specs.declared.errors.TheConstants.{ERRORS}
use Rattle.lsr_explain.specs.declared.faults.TheConstants.{CONFIG_FAULTS, ENDINGS, RUN_FAULTS}

-- the topics of a kind
abbrev pub text_of : Kind → List ℕ
text_of kinds.Refusal = REFUSALS.now
text_of kinds.RsvpError = ERRORS.now
text_of kinds.ConfigFault = CONFIG_FAULTS.now
text_of kinds.RunFault = RUN_FAULTS.now
text_of kinds.Ending = ENDINGS.now

-- whether a name stands after the first word of each heading of a kind
abbrev pub has_names : Kind → Bool
has_names kinds.Refusal = true
has_names kinds.RsvpError = true
has_names kinds.ConfigFault = false
has_names kinds.RunFault = false
has_names kinds.Ending = false

-- a line that begins with a space is no heading
abbrev pub is_indented : List ℕ → Bool
is_indented [] = false
is_indented (byte ∷ rest) = byte == 32

-- a byte more before the first of two words
abbrev pub longer_first : ℕ → Option (List ℕ × List ℕ) → Option (List ℕ × List ℕ)
longer_first byte None = None
longer_first byte (Some words) = Some (byte ∷ words.0, words.1)

-- what stands before a line's first space, and what after it
unfoldable pub words_of : List ℕ → Option (List ℕ × List ℕ)
words_of [] = None
words_of (byte ∷ rest) = if byte == 32 then Some ([], rest) else longer_first byte (words_of rest)

-- whether a word is one of a heading: in any case, whether they differ at most in capitals
unfoldable pub is_same : Bool → List ℕ → List ℕ → Bool
is_same any_case told word = if any_case then str_eq_ignore_ascii_case told word else bytes_eq told word

-- whether a word is a heading's first word, which is the whole heading where it has no space; or the name after that, where
-- headings have names
abbrev pub is_one_of : Bool → Bool → List ℕ → List ℕ → Option (List ℕ × List ℕ) → Bool
is_one_of any_case named word heading None = is_same any_case heading word
is_one_of any_case named word heading (Some words) = is_same any_case words.0 word || (if named then is_same any_case words.1 word else false)

-- whether a word asks for what a heading stands over
abbrev pub is_asked_by : Bool → Bool → List ℕ → List ℕ → Bool
is_asked_by any_case named word heading = is_one_of any_case named word heading (words_of heading)

-- whether a line is a heading of a kind, which a word asks for
abbrev pub is_sought : Bool → Kind → List ℕ → List ℕ → Bool
is_sought any_case kind word line = if is_indented line then false else is_asked_by any_case (has_names kind) word line

-- the lines from the first heading of a kind on that a word asks for
unfoldable pub found : Bool → Kind → List ℕ → List (List ℕ) → Option (List (List ℕ))
found any_case kind word [] = None
found any_case kind word (line ∷ lines) = if is_sought any_case kind word line then Some (line ∷ lines) else found any_case kind word lines

-- the lines from a topic's heading on
abbrev pub lines_from : Topic → List (List ℕ)
lines_from topic = topic.heading.now ∷ lines_of topic.behind.now

-- a topic's kind, and its lines
abbrev pub seen : Topic → Kind × List (List ℕ)
seen topic = (topic.kind, lines_from topic)

-- lines of this kind, where there are some
abbrev pub of_kind : Kind → Option (List (List ℕ)) → Option (Kind × List (List ℕ))
of_kind kind None = None
of_kind kind (Some lines) = Some (kind, lines)

-- what a word asks for among the topics of a kind
abbrev pub found_in : Bool → Kind → List ℕ → Option (Kind × List (List ℕ))
found_in any_case kind word = of_kind kind (found any_case kind word (lines_of (text_of kind)))

-- the topic that a word asks for: of refusals, else of errors, else of faults of a configuration, else of those of a recorded run, else of what ends a run
unfoldable pub topic_by : Bool → List ℕ → Option (Kind × List (List ℕ))
topic_by any_case word =
    option_or (found_in any_case kinds.Refusal word)
    (option_or (found_in any_case kinds.RsvpError word)
    (option_or (found_in any_case kinds.ConfigFault word) (option_or (found_in any_case kinds.RunFault word) (found_in any_case kinds.Ending word))))

-- the topic that a word asks for as it is told
abbrev pub topic_of : List ℕ → Option (Kind × List (List ℕ))
topic_of word = topic_by false word

-- the topic that a word asks for: as it is told, else in any case
abbrev pub topic_named : List ℕ → Option (Kind × List (List ℕ))
topic_named word = option_or (topic_of word) (topic_by true word)

-- The digits are decimal, leading zeros taken, and their value fits 16 bits.
pub record ValueOf (digits : List ℕ) (value : ℕ) : Type 0 where
  pub some : 1 ≤ length digits
  pub decimal : all_ascii_digits digits ≡ true
  pub number : digits_value 10 digits ≡ value
  pub high : value < 2 ^ 16

-- The word is a code with its slash, and after it a value.
pub record NamesValue (code word : List ℕ) (value : ℕ) : Type 0 where
  pub digits : List ℕ
  pub parts : word ≡ code ++ digits
  pub names : ValueOf digits value

-- The word names an error of this code by its value; `all` asks for all errors of the code.
abbrev pub NamesError : List ℕ → List ℕ → List ℕ → Topic → ℕ → Type 0
NamesError code all word topic value = NamesValue code word value × (topic_of all ≡ Some (seen topic))

-- an error about an object: of an unknown class (13) or of an unknown C-Type (14), with this value
abbrev pub IsObjectError : List ℕ → Topic → ℕ → Type 0
IsObjectError word topic value =
    NamesError (codes "13/") (codes "13/N") word topic value ⊎ NamesError (codes "14/") (codes "14/N") word topic value

-- What a word is answered: what it asks for by number or name; else the list, where it is `list`; else an error about an
-- object, where it names one; else it is unknown.
abbrev pub Explains : List ℕ → Answer → Type 0
Explains word (answers.Topic topic) = topic_named word ≡ Some (seen topic)
Explains word (answers.Object topic value) = (topic_named word ≡ None) × (word ≢ codes "list") × IsObjectError word topic value
Explains word answers.List = (topic_named word ≡ None) × (word ≡ codes "list")
Explains word answers.Unknown = (topic_named word ≡ None) × (word ≢ codes "list") × ((topic : Topic) (value : ℕ) → IsObjectError word topic value → ⊥)
