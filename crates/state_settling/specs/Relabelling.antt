-- What becomes of labels by edits of paths (RFC 3031, 3.1 and 3.14).
use Rattle.std.specs.Prelude.{ℕ, ◌+◌, ◌==◌, not, Bool, true, false, ◌&&◌, if◌then◌else◌, List, filter_map, Option, Some, None, is_none}
use Rattle.std.specs.FinMap.Entries.{find}
use Rattle.std.specs.Option.{option_map, option_map_or}
use Rattle.lsr_facts.specs.Lifetimes.{begins_here}
use Rattle.lsr_facts.specs.Orders.{key_cmp}
use Rattle.lsr_facts.specs.declared.key.Key.{Key}
use Rattle.lsr_facts.specs.declared.path_fact.PathFact.{PathFact}

-- an LSP is to have a label of which this is known from now on: it has a path, which doesn't begin here
abbrev pub needs_label : Option PathFact → Bool
needs_label now = option_map_or (λ path. not (begins_here path.role)) now false

-- the LSP of an edit is to have a label, and has none yet
abbrev pub is_new : List (Key × ℕ) → Key × Option PathFact → Bool
is_new labels edit = needs_label edit.1 && is_none (find key_cmp edit.0 labels)

-- What becomes of a label, by whether one is needed, the one that is chosen, if one is, and the one that is held: the
-- chosen one is given where none is held, and one that isn't needed is free again.
abbrev pub label_becomes : Bool → Option ℕ → Option ℕ → Option (Option ℕ)
label_becomes true given None = option_map Some given
label_becomes true given (Some held) = None
label_becomes false given None = None
label_becomes false given (Some held) = Some None

-- what becomes of the label of an edit's LSP
abbrev pub label_edit : List (Key × ℕ) → List (Key × ℕ) → Key × Option PathFact → Option (Option ℕ)
label_edit labels chosen edit = label_becomes (needs_label edit.1) (find key_cmp edit.0 chosen) (find key_cmp edit.0 labels)

-- the edits of labels that edits of paths call for
abbrev pub label_edits : List (Key × ℕ) → List (Key × ℕ) → List (Key × Option PathFact) → List (Key × Option ℕ)
label_edits labels chosen edits = filter_map (λ edit. option_map (λ now. (edit.0, now)) (label_edit labels chosen edit)) edits

-- until when labels rest that are freed at a moment, by how long labels rest
abbrev pub rest_until : ℕ → ℕ → Option ℕ
rest_until moment label_rest_ms = if label_rest_ms == 0 then None else Some (moment + label_rest_ms)
