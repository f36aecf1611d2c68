use Rattle.std.proofs.Common.{◌≡◌, ◌<◌, ◌≤◌, ℕ, true, drop, filter, get_or, length, nat_eq, take}
use Rattle.std.specs.List.{filter_map, list_any}
use Rattle.slab.specs.Slab.{get}
use Rattle.sorted_rows.specs.Rows.{keys_of}
use Rattle.timed_rows.specs.Gathered.{passes_at}
use Rattle.timed_rows.proofs.gathered.keys_at.Given as goal

-- what passes before the next place was gathered, and what passes from there on stands at the places that are left
abbrev pub invariant-loop-place : goal.invariant-loop-place
invariant-loop-place g l =
    let passes = g.R.RowTest.passes l.test in
    record {
      within : l.next ≤ length l.by_key;
      keys : l.keys.items ≡ keys_of (filter passes (filter_map (get l.slots) (take l.next l.by_key)));
      rest : (k : ℕ) → l.next ≤ k → k < length l.by_key → passes_at passes (get l.slots (get_or l.by_key k 0)) ≡ true → list_any (nat_eq k) (drop l.place-index l.places) ≡ true;
    }
