-- The receipts that entries call for.
use Rattle.std.proofs.Common.{◌≡◌, ◌≢◌, ◌+◌, ◌-◌, ◌<◌, ◌≤◌, ◌++◌, ◌∷◌, suc, ℕ, List, [], length, take, drop, slice_index_or, not, ⊎_elim, arith, refl, sym, ap, subst, ◌∙◌}
use Rattle.std.proofs.lemmas.Bool.{cases_lt, eq-eqb, ne_eqb}
use Rattle.std.proofs.lemmas.List.{append-nil, append_cancel_left, append_assoc, take_all, take_more, length-take, take-append-drop, drop_more}
use Rattle.std.proofs.lemmas.List.Elements.{filter-append}
use Rattle.std.proofs.lemmas.List.Filters.{length-filter_both}
use Rattle.lsr_facts.specs.declared.router.Router.{Router}
use Rattle.abstract_router.specs.States.{State}
use Rattle.run_journal.specs.Journals.{Stretch}
use Rattle.run_journal.specs.Marks.{Counts, counted, counted_all, receipt_of}
use Rattle.run_journal.specs.declared.entry.CountedEntry.{CountedEntry}
use Rattle.run_journal.specs.declared.receipt.Receipt.{Receipt}
use Rattle.run_reconciler.specs.Reconciled.{AreContinued, AreJoined, called_for, counts_at, entries_in, is_of}
use Rattle.run_reconciler.specs.Mismatches.{IsFirstDifference}
use Rattle.run_reconciler.specs.Walks.{called_in, mine}

-- entries call for what some do, and then the others
pub called_append : (n : Counts) (es more : List CountedEntry) → called_for n (es ++ more) ≡ called_for n es ++ called_for (counted_all n es) more
called_append n [] more = refl
called_append n (e ∷ es) more = ap (λ (rs : List Receipt). receipt_of n e ∷ rs) (called_append (counted n e) es more)

-- a port's receipts are those of some, and then of the others
pub mine_append : (port : ℕ) (rs more : List Receipt) → mine port (rs ++ more) ≡ mine port rs ++ mine port more
mine_append port rs more = filter-append (is_of port) rs more

-- what entries of stretches that go on one from the other call for, each by the numbers at its own beginning
pub continued_called : (r : Router) (s : State) (n : Counts) (pieces : List Stretch) → AreContinued r s n pieces → called_for n (entries_in pieces) ≡ called_in pieces
continued_called r s n [] are = refl
continued_called r s n (piece ∷ more) are =
    called_append n piece.entries (entries_in more)
    ∙ ap (λ (rs : List Receipt). called_for n piece.entries ++ rs) (continued_called r piece.end (counted_all n piece.entries) more are.3)
    ∙ ap (λ (m : Counts). called_for m piece.entries ++ called_in more) (sym are.2)

pub joined_called : (pieces : List Stretch) → AreJoined pieces → called_for (counts_at pieces) (entries_in pieces) ≡ called_in pieces
joined_called [] are = refl
joined_called (piece ∷ more) are =
    called_append piece.from piece.entries (entries_in more)
    ∙ ap (λ (rs : List Receipt). called_for piece.from piece.entries ++ rs) (continued_called piece.router piece.end (counted_all piece.from piece.entries) more are.1)

-- an entry of the port calls for one receipt more of its
pub mine_push : (port : ℕ) (n : Counts) (es : List CountedEntry) (e : CountedEntry) → e.entry.port ≡ port → mine port (called_for n (es ++ e ∷ [])) ≡ mine port (called_for n es) ++ receipt_of (counted_all n es) e ∷ []
mine_push port n es e is =
    let one : mine port (receipt_of (counted_all n es) e ∷ []) ≡ receipt_of (counted_all n es) e ∷ [] = rw (eq-eqb e.entry.port port is) refl in
    ap (mine port) (called_append n es (e ∷ [])) ∙ mine_append port (called_for n es) (receipt_of (counted_all n es) e ∷ [])
    ∙ ap (λ (rs : List Receipt). mine port (called_for n es) ++ rs) one

-- and an entry of another one for none
pub mine_skip : (port : ℕ) (n : Counts) (es : List CountedEntry) (e : CountedEntry) → (e.entry.port ≡ port → ⊥) → mine port (called_for n (es ++ e ∷ [])) ≡ mine port (called_for n es)
mine_skip port n es e is =
    let one : mine port (receipt_of (counted_all n es) e ∷ []) ≡ [] = rw (ne_eqb e.entry.port port is) refl in
    ap (mine port) (called_append n es (e ∷ [])) ∙ mine_append port (called_for n es) (receipt_of (counted_all n es) e ∷ [])
    ∙ ap (λ (rs : List Receipt). mine port (called_for n es) ++ rs) one ∙ append-nil (mine port (called_for n es))

-- where an entry of the port comes next, its receipt is the first of those that are left
pub mine_next : (port : ℕ) (n : Counts) (es : List CountedEntry) (i : ℕ) (e : CountedEntry) → i < length es → e ≡ slice_index_or es i e → e.entry.port ≡ port
    → mine port (called_for n es) ≡ mine port (called_for n (take i es)) ++ receipt_of (counted_all n (take i es)) e ∷ mine port (called_for (counted (counted_all n (take i es)) e) (drop (i + 1) es))
mine_next port n es i e low is own =
    let m = counted_all n (take i es) in
    let whole : es ≡ take i es ++ e ∷ drop (i + 1) es =
    sym (take-append-drop i es) ∙ ap (λ (rest : List CountedEntry). take i es ++ rest) (drop_more es i e low ∙ ap (λ (x : CountedEntry). x ∷ drop (i + 1) es) (sym is)) in
    let one : mine port (called_for m (e ∷ drop (i + 1) es)) ≡ receipt_of m e ∷ mine port (called_for (counted m e) (drop (i + 1) es)) = rw (eq-eqb e.entry.port port own) refl in
    ap (λ (all : List CountedEntry). mine port (called_for n all)) whole
    ∙ ap (mine port) (called_append n (take i es) (e ∷ drop (i + 1) es))
    ∙ mine_append port (called_for n (take i es)) (called_for m (e ∷ drop (i + 1) es))
    ∙ ap (λ (rs : List Receipt). mine port (called_for n (take i es)) ++ rs) one

take_behind : (same xs : List Receipt) (k : ℕ) → take (length same + k) (same ++ xs) ≡ same ++ take k xs
take_behind [] xs k = rw zero_add refl
  where
    zero_add : 0 + k ≡ k
    zero_add = omega arith
take_behind (r ∷ same) xs k =
    let e : suc (length same) + k ≡ suc (length same + k) = omega arith in
    ap (λ (j : ℕ). take j (r ∷ (same ++ xs))) e ∙ ap (λ (rs : List Receipt). r ∷ rs) (take_behind same xs k)

-- behind more of the same, the difference is later
pub later_difference : (same xs ys : List Receipt) (place : ℕ) → IsFirstDifference place xs ys → IsFirstDifference (length same + place) (same ++ xs) (same ++ ys)
later_difference same xs ys place is =
    let e : length same + place - 1 ≡ length same + (place - 1) = omega (arith, is.from_one) in
    record {
      from_one = omega (arith, is.from_one);
      before = rw e (take_behind same xs (place - 1) ∙ ap (λ (rs : List Receipt). same ++ rs) is.before ∙ sym (take_behind same ys (place - 1)));
      there = λ equal. is.there (append_cancel_left same (take place xs) (take place ys) (sym (take_behind same xs place) ∙ equal ∙ take_behind same ys place));
    }

-- behind the same receipts, the first ones differ
pub first_difference : (same xs ys : List Receipt) → take 1 xs ≢ take 1 ys → IsFirstDifference (length same + 1) (same ++ xs) (same ++ ys)
first_difference same xs ys differ = later_difference same xs ys 1 (record { from_one = omega arith; before = refl; there = differ })

-- two lists that differ somewhere aren't the same
pub differs : (xs ys : List Receipt) (place : ℕ) → IsFirstDifference place xs ys → xs ≢ ys
differs xs ys place is same = is.there (ap (take place) same)

-- they differ within the first, or right behind it
pub place_within : (xs ys : List Receipt) (place : ℕ) → IsFirstDifference place xs ys → place ≤ length xs + 1
place_within xs ys place is = ⊎_elim
    (λ (far : length xs + 1 < place).
    let all : take (place - 1) xs ≡ xs = take_all (place - 1) xs (omega (arith, far)) in
    let others : take (place - 1) ys ≡ xs = sym is.before ∙ all in
    let short : length ys ≤ place - 1 = omega (arith, far, ap length others, length-take (place - 1) ys) in
    let same : xs ≡ ys = sym others ∙ take_all (place - 1) ys short in
    absurd (is.there (ap (take place) same)))
    (λ (near : place ≤ length xs + 1). near)
    (cases_lt (length xs + 1) place)

-- a port has no more receipts than there are
pub mine_few : (port : ℕ) (rs : List Receipt) → length (mine port rs) ≤ length rs
mine_few port rs = omega (arith, length-filter_both (is_of port) (λ r. not (is_of port r)) (λ r. refl) rs)

-- what the entries of stretches call for, and of others
pub called_in_append : (pieces more : List Stretch) → called_in (pieces ++ more) ≡ called_in pieces ++ called_in more
called_in_append [] more = refl
called_in_append (piece ∷ pieces) more =
    ap (λ (rs : List Receipt). called_for piece.from piece.entries ++ rs) (called_in_append pieces more)
    ∙ sym (append_assoc (called_for piece.from piece.entries) (called_in pieces) (called_in more))

-- and of one more
pub called_in_push : (pieces : List Stretch) (piece : Stretch) → called_in (pieces ++ piece ∷ []) ≡ called_in pieces ++ called_for piece.from piece.entries
called_in_push pieces piece =
    called_in_append pieces (piece ∷ []) ∙ ap (λ (rs : List Receipt). called_in pieces ++ rs) (append-nil (called_for piece.from piece.entries))

-- what the stretches call for of a port: those before, this one, and those behind
pub mine_piece : (port : ℕ) (pieces : List Stretch) (i : ℕ) (piece : Stretch) → i < length pieces → piece ≡ slice_index_or pieces i piece
    → mine port (called_in pieces) ≡ mine port (called_in (take i pieces)) ++ (mine port (called_for piece.from piece.entries) ++ mine port (called_in (drop (i + 1) pieces)))
mine_piece port pieces i piece low is =
    let whole : pieces ≡ take i pieces ++ piece ∷ drop (i + 1) pieces =
    sym (take-append-drop i pieces) ∙ ap (λ (rest : List Stretch). take i pieces ++ rest) (drop_more pieces i piece low ∙ ap (λ (x : Stretch). x ∷ drop (i + 1) pieces) (sym is)) in
    ap (λ (all : List Stretch). mine port (called_in all)) whole
    ∙ ap (mine port) (called_in_append (take i pieces) (piece ∷ drop (i + 1) pieces))
    ∙ mine_append port (called_in (take i pieces)) (called_for piece.from piece.entries ++ called_in (drop (i + 1) pieces))
    ∙ ap (λ (rs : List Receipt). mine port (called_in (take i pieces)) ++ rs) (mine_append port (called_for piece.from piece.entries) (called_in (drop (i + 1) pieces)))

-- and with one more of them
pub mine_more : (port : ℕ) (pieces : List Stretch) (i : ℕ) (piece : Stretch) → i < length pieces → piece ≡ slice_index_or pieces i piece
    → mine port (called_in (take (i + 1) pieces)) ≡ mine port (called_in (take i pieces)) ++ mine port (called_for piece.from piece.entries)
mine_more port pieces i piece low is =
    let step : take (i + 1) pieces ≡ take i pieces ++ piece ∷ [] = take_more pieces i piece low ∙ ap (λ (x : Stretch). take i pieces ++ x ∷ []) (sym is) in
    ap (λ (all : List Stretch). mine port (called_in all)) step
    ∙ ap (mine port) (called_in_push (take i pieces) piece)
    ∙ mine_append port (called_in (take i pieces)) (called_for piece.from piece.entries)

-- a receipt that is left is the first difference
pub left_over : (before xs rest : List Receipt) (r : Receipt) → xs ≡ r ∷ rest → IsFirstDifference (length before + 1) (before ++ xs) before
left_over before xs rest r is =
    subst (λ (ys : List Receipt). IsFirstDifference (length before + 1) (before ++ xs) ys) (append-nil before)
    (first_difference before xs [] (λ same. not_nil r (sym (ap (take 1) is) ∙ same)))
  where
    not_nil : (x : Receipt) → x ∷ [] ≡ [] → ⊥
    not_nil x same = cc

-- where a segment's receipts differ, the first difference is behind what those before it call for
pub in_segment : (port : ℕ) (rs left : List Receipt) (pieces : List Stretch) (i : ℕ) (piece : Stretch) (place : ℕ) → i < length pieces → piece ≡ slice_index_or pieces i piece
    → mine port rs ≡ mine port (called_in (take i pieces)) ++ mine port left
    → ((more : List Receipt) → IsFirstDifference place (mine port left) (mine port (called_for piece.from piece.entries) ++ more))
    → IsFirstDifference (length (mine port (called_in (take i pieces))) + place) (mine port rs) (mine port (called_in pieces))
in_segment port rs left pieces i piece place low is taken differ =
    let before = mine port (called_in (take i pieces)) in
    let called = mine port (called_for piece.from piece.entries) in
    let behind = mine port (called_in (drop (i + 1) pieces)) in
    subst (λ (xs : List Receipt). IsFirstDifference (length before + place) xs (mine port (called_in pieces))) (sym taken)
    (subst (λ (ys : List Receipt). IsFirstDifference (length before + place) (before ++ mine port left) ys) (sym (mine_piece port pieces i piece low is))
    (later_difference before (mine port left) (called ++ behind) place (differ behind)))

-- where a receipt is left, it is behind all
pub behind_all : (port : ℕ) (rs left more : List Receipt) (r : Receipt) (pieces : List Stretch) (i : ℕ) → length pieces ≤ i
    → mine port rs ≡ mine port (called_in (take i pieces)) ++ mine port left → mine port left ≡ r ∷ more
    → IsFirstDifference (length (mine port (called_in (take i pieces))) + 1) (mine port rs) (mine port (called_in pieces))
behind_all port rs left more r pieces i high taken is =
    let before = mine port (called_in (take i pieces)) in
    subst (λ (xs : List Receipt). IsFirstDifference (length before + 1) xs (mine port (called_in pieces))) (sym taken)
    (subst (λ (ys : List Receipt). IsFirstDifference (length before + 1) (before ++ mine port left) ys)
    (ap (λ (ps : List Stretch). mine port (called_in ps)) (take_all i pieces high)) (left_over before (mine port left) more r is))
