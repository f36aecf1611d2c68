-- What a told line asks for.
use Rattle.std.specs.Prelude.{◌==◌, ℕ, List, [], ◌∷◌, ◌++◌, Bool, true, Option, Some, None, codes, flat_map, if◌then◌else◌}
use Rattle.std.specs.Borrow.{Bor}
use Rattle.std.specs.List.{list_any, onto_first}
use Rattle.lsr_explain.specs.Topics.{is_same}
use Rattle.lsr_explain.specs.declared.asking.Told.{Told}
use Rattle.lsr_explain.specs.declared.asking.Told.TheVariants as told

-- The words of a text: each ends at a space, which is no part of it, and the last may end with the text.
unfoldable pub words_in : List ℕ → List (List ℕ)
words_in [] = []
words_in (byte ∷ rest) = if byte == 32 then [] ∷ words_in rest else onto_first byte (words_in rest)

-- a text and a space
abbrev pub text_and_space : Bor (List ℕ) → List ℕ
text_and_space text = text.now ++ codes " "

-- texts as one, with a space after each
abbrev pub joined : List (Bor (List ℕ)) → List ℕ
joined texts = flat_map text_and_space texts

-- how what is asked for stands after a word, in any case: `refused`, `error`, `config` or `entry`
unfoldable pub told_after : List ℕ → Option Told
told_after word =
    if is_same true (codes "refused") word then Some told.Word
    else if is_same true (codes "error") word then Some told.Error
    else if is_same true (codes "config") word then Some told.Word
    else if is_same true (codes "entry") word then Some told.Entry
    else None

-- the first word; nothing where there is none
abbrev pub first_asked : List (List ℕ) → List ℕ
first_asked [] = []
first_asked (word ∷ more) = word

abbrev pub is_slash : ℕ → Bool
is_slash byte = byte == 47

-- an error's code and the next word, its value, as CODE/VALUE
abbrev pub with_value : List ℕ → List (List ℕ) → List ℕ
with_value code [] = code
with_value code (value ∷ more) = code ++ (codes "/" ++ value)

-- an error by its first word, which may be CODE/VALUE by itself, and those after it
abbrev pub error_asked : List ℕ → List (List ℕ) → List ℕ
error_asked code more = if list_any is_slash code then code else with_value code more

-- what is asked for by a word and those after it
abbrev pub told_as : Told → List ℕ → List (List ℕ) → List ℕ
told_as told.Word word more = word
told_as told.Error word more = error_asked word more
told_as told.Entry word more = first_asked more

-- what is asked for by words, which stand after one that it is told with
abbrev pub asked_as : Told → List (List ℕ) → List ℕ
asked_as how [] = []
asked_as how (word ∷ more) = told_as how word more

-- the same, or another word where nothing is told
abbrev pub asked_or : Option Told → List (List ℕ) → List ℕ → List ℕ
asked_or None words other = other
asked_or (Some how) words other = asked_as how words

-- what is asked for after the first of words that something is told with; another word where there is none
unfoldable pub sought_in : List ℕ → List (List ℕ) → List ℕ
sought_in other [] = other
sought_in other (word ∷ more) = asked_or (told_after word) more (sought_in other more)

-- What words ask for: what stands after the first of them that is `refused`, `error`, `config` or `entry`, in any case; else
-- the first of them.
abbrev pub asked_in : List (List ℕ) → List ℕ
asked_in words = sought_in (first_asked words) words

-- what the words of texts ask for
abbrev pub asked_by : List (Bor (List ℕ)) → List ℕ
asked_by texts = asked_in (words_in (joined texts))
