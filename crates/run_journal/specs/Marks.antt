-- The numbers of a journal: how many entries there were, how many changed what is forwarded, and each port's mark.
use Rattle.std.specs.Prelude.{◌≡◌, ◌<◌, ◌≤◌, ◌+◌, ◌-◌, ◌==◌, ◌&&◌, ℕ, suc, zero, Bool, false, true, List, [], ◌∷◌, ◌++◌, slice_get, slice_index_or, slice_set}
use Rattle.std.specs.Option.{option_map_or}
use Rattle.run_journal.specs.declared.entry.CountedEntry.{CountedEntry}
use Rattle.run_journal.specs.declared.mark.Mark.{Mark}
use Rattle.run_journal.specs.declared.receipt.Receipt.{Receipt}

-- The number of all entries and of those that changed what is forwarded, since the router was opened; and of each port its
-- mark, that of port 1 first.
pub record Counts : Type 0 where
  pub number : ℕ
  pub published : ℕ
  pub marks : List Mark

-- the mark of a port that had no entry
abbrev pub first_mark : ℕ → Mark
first_mark port = record { port = port; place = 0; entry = 0; published = 0 }

-- the marks of so many ports, as the router is opened
abbrev pub first_marks : ℕ → List Mark
first_marks zero = []
first_marks (suc ports) = first_marks ports ++ first_mark (suc ports) ∷ []

abbrev pub first_counts : ℕ → Counts
first_counts ports = record { number = 0; published = 0; marks = first_marks ports }

-- a port's mark; where there is no such port, that of a port that had no entry
abbrev pub mark_of : Counts → ℕ → Mark
mark_of n port = slice_index_or n.marks (port - 1) (first_mark port)

-- one more, where it is so
abbrev pub one_if : Bool → ℕ
one_if true = 1
one_if false = 0

-- The mark of an entry's port after it: the port's next place, the number of the entry, and of those that changed what is
-- forwarded.
abbrev pub mark_after : Counts → CountedEntry → Mark
mark_after n e = record {
  port = e.entry.port;
  place = (mark_of n e.entry.port).place + 1;
  entry = n.number + 1;
  published = n.published + one_if e.changes_table;
}

-- the numbers after an entry: one mark moves, that of its port
abbrev pub counted : Counts → CountedEntry → Counts
counted n e = record {
  number = n.number + 1;
  published = n.published + one_if e.changes_table;
  marks = slice_set n.marks (e.entry.port - 1) (mark_after n e);
}

-- and after several, one after the other
abbrev pub counted_all : Counts → List CountedEntry → Counts
counted_all n [] = n
counted_all n (e ∷ es) = counted_all (counted n e) es

-- what the port is told of its entry
abbrev pub receipt_of : Counts → CountedEntry → Receipt
receipt_of n e = record { mark = mark_after n e; event = e.entry.event; reply = e.entry.reply; outputs = e.entry.outputs }

-- all numbers of both are the same
abbrev pub is_same_mark : Mark → Mark → Bool
is_same_mark a b = (a.port == b.port) && (a.place == b.place) && (a.entry == b.entry) && (a.published == b.published)

-- the mark is that of its port
abbrev pub is_known : Counts → Mark → Bool
is_known n m = option_map_or (is_same_mark m) (slice_get n.marks (m.port - 1)) false

-- a port's mark is within the numbers of all
pub record IsWithin (n : Counts) (m : Mark) : Type 0 where
  pub place : m.place ≤ n.number
  pub entry : m.entry ≤ n.number
  pub published : m.published ≤ n.published

-- The receipt follows on a port's mark: the same port, its next place, a later entry, and no fewer changes of what is forwarded.
pub record Follows (m : Mark) (r : Receipt) : Type 0 where
  pub port : r.mark.port ≡ m.port
  pub place : r.mark.place ≡ m.place + 1
  pub entry : m.entry < r.mark.entry
  pub published : m.published ≤ r.mark.published
