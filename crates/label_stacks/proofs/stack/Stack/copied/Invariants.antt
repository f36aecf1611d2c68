use Rattle.std.proofs.Common.{◌≡◌, take}
use Rattle.label_stacks.proofs.stack.Stack.copied.Given as goal

-- so many entries are copied
abbrev pub invariant-loop-entry : goal.invariant-loop-entry
invariant-loop-entry l = l.entries.items ≡ take l.entry-index l.entry-items
