-- What becomes of labels, one change after the other.
use Rattle.std.specs.Prelude.{ℕ, List, [], ◌∷◌, Contains}
use Rattle.label_space.specs.Labels.{Labels, hold, release, wake}

-- an LSP takes a label, or gives it back to rest until a moment, or a moment comes
pub data Change : Type 0 where
  held : ℕ → Change
  released : ℕ → ℕ → Change
  woken : ℕ → Change

-- the labels after some changes
abbrev pub after : List Change → Labels → Labels
after [] labels = labels
after (held label ∷ later) labels = after later (hold labels label)
after (released label until ∷ later) labels = after later (release labels label until)
after (woken now ∷ later) labels = after later (wake labels now)

-- an LSP takes the label in one of the changes
abbrev pub IsTaken : List Change → ℕ → Type 0
IsTaken changes label = Contains changes (held label)
