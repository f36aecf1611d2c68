-- A mark that is known, and a receipt that follows on it.
use Rattle.std.proofs.Common.{◌≡◌, ◌+◌, ◌-◌, ◌<◌, ◌≤◌, ◌&&◌, ◌==◌, Bool, true, false, List, All, Option, Some, None, length, slice_get, slice_index_or, arith, refl, rules, sym, ap, subst, ◌∙◌}
use Rattle.std.proofs.lemmas.Bool.{eqb-true}
use Rattle.std.proofs.lemmas.List.Elements.{All-get_or}
use Rattle.std.proofs.lemmas.Option.{slice_get_within, get_or_from_slice_get}
use Rattle.std.specs.Option.{option_map_or}
use Rattle.run_journal.specs.Marks.{Counts, Follows, IsWithin, first_mark, is_known, is_same_mark, mark_after, mark_of, receipt_of}
use Rattle.run_journal.specs.declared.entry.CountedEntry.{CountedEntry}
use Rattle.run_journal.specs.declared.mark.Mark.{Mark}
use Rattle.run_journal.proofs.Marking.{left, right, one_if-le}

-- the mark that is found is the same
same_found : (m : Mark) (found : Option Mark) → option_map_or (is_same_mark m) found false ≡ true → (known : Mark) × (found ≡ Some known) × (is_same_mark m known ≡ true)
same_found m None is = absurd (cc)
same_found m (Some known) is = (known, refl, is)

pub mark_is : (a b : Mark) → a.port ≡ b.port → a.place ≡ b.place → a.entry ≡ b.entry → a.published ≡ b.published → a ≡ b
mark_is a b port place entry published = search rules

same_mark : (a b : Mark) → is_same_mark a b ≡ true → a ≡ b
same_mark a b is =
    let three = left ((a.port == b.port) && (a.place == b.place) && (a.entry == b.entry)) (a.published == b.published) is in
    let two = left ((a.port == b.port) && (a.place == b.place)) (a.entry == b.entry) three in
    mark_is a b
    (eqb-true a.port b.port (left (a.port == b.port) (a.place == b.place) two))
    (eqb-true a.place b.place (right (a.port == b.port) (a.place == b.place) two))
    (eqb-true a.entry b.entry (right ((a.port == b.port) && (a.place == b.place)) (a.entry == b.entry) three))
    (eqb-true a.published b.published (right ((a.port == b.port) && (a.place == b.place) && (a.entry == b.entry)) (a.published == b.published) is))

-- a mark that is known has a port
pub known_port : (n : Counts) (m : Mark) → is_known n m ≡ true → m.port - 1 < length n.marks
known_port n m is = let found = same_found m (slice_get n.marks (m.port - 1)) is in slice_get_within n.marks (m.port - 1) found.0 found.1

-- and it is the port's
pub known_is : (n : Counts) (m : Mark) → is_known n m ≡ true → mark_of n m.port ≡ m
known_is n m is =
    let found = same_found m (slice_get n.marks (m.port - 1)) is in
    get_or_from_slice_get n.marks (m.port - 1) found.0 (first_mark m.port) found.1 ∙ sym (same_mark m found.0 found.2)

-- The receipt of an entry of its port follows on it.
pub known_follows : (n : Counts) (m : Mark) (e : CountedEntry) → is_known n m ≡ true → e.entry.port ≡ m.port → All (IsWithin n) n.marks → Follows m (receipt_of n e)
known_follows n m e is port within =
    let known : mark_of n m.port ≡ m = known_is n m is in
    let low : IsWithin n m = subst (IsWithin n) known (All-get_or (IsWithin n) n.marks (m.port - 1) (first_mark m.port) (known_port n m is) within) in
    let place : mark_of n e.entry.port ≡ m = subst (λ p. mark_of n p ≡ m) (sym port) known in
    record {
      port = port;
      place = ap (λ (x : Mark). x.place + 1) place;
      entry = omega (arith, low.entry);
      published = omega (arith, low.published);
    }
