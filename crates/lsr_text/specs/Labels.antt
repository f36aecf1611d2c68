-- What `show labels` prints: which labels are held, which rest, and how many are free.
use Rattle.std.specs.Prelude.{ℕ, ◌-◌, List, ◌++◌, codes, flat_map, length}
use Rattle.std.specs.Fmt.{decimal}
use Rattle.lsr_facts.specs.declared.key.Key.{Key}
use Rattle.lsr_facts.specs.declared.router.Router.{Router}
use Rattle.lsr_facts.specs.declared.state.State.{State}
use Rattle.lsr_text.specs.Shown.{key_text}
use Rattle.lsr_text.specs.Summary.{label_room}

-- a label that is held
unfoldable pub held_words : ℕ → List ℕ
held_words label = codes "held " ++ (decimal label ++ codes " ")

-- the LSP that holds it, and the line's end
unfoldable pub holder_words : Key → List ℕ
holder_words key = key_text key ++ codes "\n"

-- `held LABEL KEY`: a label and the LSP that holds it
abbrev pub held_line : Key × ℕ → List ℕ
held_line row = held_words row.1 ++ holder_words row.0

-- `resting LABEL until MOMENT left N ms`: a label that is given to no LSP before that moment, and how long that is still
abbrev pub resting_line : ℕ → ℕ × ℕ → List ℕ
resting_line moment row =
    codes "resting " ++ (decimal row.0 ++ (codes " until " ++ (decimal row.1 ++ (codes " left " ++ (decimal (row.1 - moment) ++ codes " ms\n")))))

-- how many labels of the range are neither held nor rest
abbrev pub count_free : Router → State → ℕ
count_free r s = label_room r.labels - length s.labels - length s.resting

-- `free COUNT of COUNT`
unfoldable pub free_line : Router → State → List ℕ
free_line r s = codes "free " ++ (decimal (count_free r s) ++ (codes " of " ++ (decimal (label_room r.labels) ++ codes "\n")))

-- a line for each label that is held, in the order of the LSPs, and for each that rests, in the order of the labels; and
-- how many are free
abbrev pub labels_text : Router → State → List ℕ
labels_text r s = flat_map held_line s.labels ++ (flat_map (resting_line s.facts.moment) s.resting ++ free_line r s)
