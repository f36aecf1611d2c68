-- The numbers of a journal, and a port's mark among them.
use Rattle.std.proofs.Common.{◌≡◌, ◌-◌, ◌<◌, ◌≤◌, ◌&&◌, ◌++◌, ◌∷◌, Bool, true, false, List, [], All, length, arith, refl}
use Rattle.std.proofs.lemmas.List.Elements.{All-get_or, All-set, All-weaker}
use Rattle.run_journal.specs.Marks.{Counts, IsWithin, counted, counted_all, first_mark, mark_after, one_if}
use Rattle.run_journal.specs.declared.entry.CountedEntry.{CountedEntry}

-- the numbers go on by one entry more
pub counted_push : (n : Counts) (es : List CountedEntry) (e : CountedEntry) → counted_all n (es ++ e ∷ []) ≡ counted (counted_all n es) e
counted_push n [] e = refl
counted_push n (first ∷ es) e = counted_push (counted n first) es e

-- no more is changed than there are entries
pub one_if-le : (b : Bool) → one_if b ≤ 1
one_if-le true = omega arith
one_if-le false = omega arith

-- each mark is within the numbers after an entry
pub within_counted : (n : Counts) (e : CountedEntry) → n.published ≤ n.number → e.entry.port - 1 < length n.marks → All (IsWithin n) n.marks → All (IsWithin (counted n e)) (counted n e).marks
within_counted n e few port within =
    let known = All-get_or (IsWithin n) n.marks (e.entry.port - 1) (first_mark e.entry.port) port within in
    let others = All-weaker (IsWithin n) (IsWithin (counted n e)) (λ m is. record { place = omega (arith, is.place); entry = omega (arith, is.entry); published = omega (arith, is.published) }) n.marks within in
    All-set (IsWithin (counted n e)) n.marks (e.entry.port - 1) (mark_after n e) (record { place = omega (arith, known.place); entry = omega arith; published = omega arith }) others

-- both tests pass
pub left : (a b : Bool) → (a && b) ≡ true → a ≡ true
left true b is = refl
left false b is = is

pub right : (a b : Bool) → (a && b) ≡ true → b ≡ true
right true b is = is
right false b is = cc
