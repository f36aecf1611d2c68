-- The stack of a message through a bypass.
use Rattle.std.specs.Prelude.{◌≡◌, ℕ, true, [], ◌∷◌}
use Rattle.std.proofs.Common.{arith}
use Rattle.std.proofs.lemmas.List.Elements.{All-cons, All-nil}
use Rattle.forwarding_table.specs.ForwardingLaws.{label_fits}
use Rattle.forwarding_table.specs.Labels.{is_label}
use Rattle.label_stacks.specs.Entries.{IsEntry}
use Rattle.label_stacks.specs.Stacks.{IsStack}
use Rattle.label_stacks.specs.declared.entry.StackEntry.{StackEntry}

-- one entry is a stack, where its label is one
pub one_is_stack : (label : ℕ) → is_label label ≡ true → IsStack (record { label = label; class = 0; ttl = 255 } ∷ [])
one_is_stack label is =
    let entry : StackEntry = record { label = label; class = 0; ttl = 255 } in
    record {
      few = omega arith;
      entries = All-cons IsEntry entry [] (record { label = label_fits label is; class = omega arith; ttl = omega arith }) (All-nil IsEntry);
    }

-- and so is none
pub none_is_stack : IsStack []
none_is_stack = record { few = omega arith; entries = All-nil IsEntry }
