-- Actions of a label table, and the labels that they write (RFC 3031, 3.10).
use Rattle.std.specs.Prelude.{ℕ, All, IfSome, List}
use Rattle.forwarding_table.specs.declared.action.Action.{Action}
use Rattle.forwarding_table.specs.declared.action.Action.TheVariants.{Swap, SwapPush, Pop, PushHead}
use Rattle.forwarding_table.specs.Labels.{IsLabel}

-- the actions of labels, and those of tunnels
pub record Actions : Type 0 where
  pub labels : List (ℕ × Action)
  pub tunnels : List (ℕ × Action)

-- what the action writes for labels are labels
abbrev pub WritesLabels : Action → Type 0
WritesLabels (Swap label link) = IsLabel label
WritesLabels (SwapPush inner outer link) = IsLabel inner × IsLabel outer
WritesLabels Pop = Unit {0}
WritesLabels (PushHead inner label link) = IfSome inner IsLabel × IsLabel label

-- so it is of each of these
abbrev pub AllWriteLabels : List (ℕ × Action) → Type 0
AllWriteLabels rows = All (λ row. WritesLabels row.1) rows

-- What always holds of a table: all its actions write labels.
pub record IsTable (of_labels of_tunnels : List (ℕ × Action)) : Type 0 where
  pub labels : AllWriteLabels of_labels
  pub tunnels : AllWriteLabels of_tunnels
