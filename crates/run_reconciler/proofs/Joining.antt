-- Segments that go on one from the other.
use Rattle.std.proofs.Common.{◌≡◌, ◌↔◌, ◌+◌, ◌-◌, ◌<◌, ◌≤◌, ◌++◌, ◌∷◌, suc, zero, ℕ, Bool, false, IsTrue, List, [], length, take, slice_index_or, ⊎_elim, arith, refl, sym, ap, subst, ◌∙◌}
use Rattle.std.proofs.lemmas.Bool.{both_ways, cases_lt, false≢true}
use Rattle.std.proofs.lemmas.List.{get_or_default, get_or-set_other, get_or-set_same, get_or_append_left, get_or_push, length-append, length-set, take_all, take_more}
use Rattle.lsr_facts.specs.declared.router.Router.{Router}
use Rattle.abstract_router.specs.States.{State}
use Rattle.run_journal.specs.Journals.{Stretch}
use Rattle.run_journal.specs.Marks.{Counts, counted, counted_all, first_counts, first_mark, first_marks, mark_after}
use Rattle.run_journal.specs.declared.entry.CountedEntry.{CountedEntry}
use Rattle.run_journal.specs.declared.mark.Mark.{Mark}
use Rattle.run_reconciler.specs.Mismatches.{IsFirstGap}
use Rattle.run_reconciler.specs.Reconciled.{AreContinued, AreJoined}
use Rattle.run_reconciler.specs.Rounds.{GoOnFrom, IsFirstBreak, counts_after}
use Rattle.run_reconciler.specs.Walks.{GoesOn, IsAt, IsNext, passed}
use Rattle.run_reconciler.specs.declared.reconciling.Walk.{Walk}
use Rattle.run_journal.proofs.Marking.{counted_push}
use Rattle.run_reconciler.proofs.Walking.{at_passed, next_is}

-- a test says no where the fact doesn't hold
pub says_no : (P : Type 0) → (P → ⊥) → IsTrue false ↔ P
says_no P never = (λ h. absurd (false≢true h), λ p. absurd (never p))

-- the numbers after one entry more
pub counted_more : (n : Counts) (es : List CountedEntry) (i : ℕ) (e : CountedEntry) → i < length es → e ≡ slice_index_or es i e → counted_all n (take (i + 1) es) ≡ counted (counted_all n (take i es)) e
counted_more n es i e low is =
    ap (counted_all n) (take_more es i e low ∙ ap (λ (x : CountedEntry). take i es ++ x ∷ []) (sym is)) ∙ counted_push n (take i es) e

-- the walk comes to them
pub at_more : (w v : Walk) (n : Counts) (es : List CountedEntry) (i : ℕ) (e : CountedEntry) → i < length es → e ≡ slice_index_or es i e → v ≡ passed w e → IsAt w (counted_all n (take i es)) → IsAt v (counted_all n (take (i + 1) es))
at_more w v n es i e low is same at =
    subst (λ (x : Walk). IsAt x (counted_all n (take (i + 1) es))) (sym same)
    (subst (λ (m : Counts). IsAt (passed w e) m) (sym (counted_more n es i e low is)) (at_passed w (counted_all n (take i es)) e at))

-- there are as many marks as before
pub counted_length : (n : Counts) (es : List CountedEntry) → length (counted_all n es).marks ≡ length n.marks
counted_length n [] = refl
counted_length n (e ∷ es) = counted_length (counted n e) es ∙ length-set n.marks (e.entry.port - 1) (mark_after n e)

-- an entry that moves the mark: the test is of the mark after it
pub ends_next : (w : Walk) (m after : Counts) (e : CountedEntry) (k : ℕ) (mark : Mark) (b : Bool) → IsAt w m → after ≡ counted m e → w.index ≡ k → e.entry.port - 1 ≡ k → k < length m.marks
    → (IsTrue b ↔ IsNext w e mark) → IsTrue b ↔ (mark ≡ slice_index_or after.marks k mark)
ends_next w m after e k mark b at same index port low test =
    let next = next_is w m e mark at (index ∙ sym port) in
    let low' : e.entry.port - 1 < length m.marks = omega (arith, port, low) in
    let moved : slice_index_or after.marks k mark ≡ mark_after m e =
    ap (λ (x : Counts). slice_index_or x.marks k mark) same ∙ ap (λ (j : ℕ). slice_index_or (counted m e).marks j mark) (sym port) ∙ get_or-set_same m.marks (e.entry.port - 1) (mark_after m e) mark low' in
    (λ h. next.0 (test.0 h) ∙ sym moved, λ is. test.1 (next.1 (is ∙ moved)))

-- an entry that doesn't: the mark is as it was
pub ends_other : (m after : Counts) (e : CountedEntry) (k : ℕ) (mark : Mark) (b : Bool) → after ≡ counted m e → (e.entry.port - 1 ≡ k → ⊥)
    → (IsTrue b ↔ (mark ≡ slice_index_or m.marks k mark)) → IsTrue b ↔ (mark ≡ slice_index_or after.marks k mark)
ends_other m after e k mark b same port test =
    let kept : slice_index_or after.marks k mark ≡ slice_index_or m.marks k mark =
    ap (λ (x : Counts). slice_index_or x.marks k mark) same ∙ get_or-set_other m.marks (e.entry.port - 1) k (mark_after m e) mark (λ is. port (sym is)) in
    (λ h. test.0 h ∙ sym kept, λ is. test.1 (is ∙ kept))

-- so many ports have so many marks
pub first_length : (ports : ℕ) → length (first_marks ports) ≡ ports
first_length zero = refl
first_length (suc ports) = omega (arith, length-append (first_marks ports) (first_mark (suc ports) ∷ []), first_length ports)

-- each is that of its port
pub first_at : (ports i : ℕ) (d : Mark) → i < ports → slice_index_or (first_marks ports) i d ≡ first_mark (i + 1)
first_at zero i d low = absurd (omega (arith, low))
first_at (suc ports) i d low =
    ⊎_elim
    (λ (lt : i < ports). get_or_append_left (first_marks ports) (first_mark (suc ports) ∷ []) d i (omega (arith, lt, first_length ports)) ∙ first_at ports i d lt)
    (λ (ge : ports ≤ i).
    let e : length (first_marks ports) ≡ i = omega (arith, first_length ports, low, ge) in
    let f : suc ports ≡ i + 1 = omega (arith, low, ge) in
    get_or_push (first_marks ports) (first_mark (suc ports)) d i e ∙ ap first_mark f)
    (cases_lt i ports)

-- a mark that isn't that of its port: these aren't all first marks
pub no_first : (ms : List Mark) (i : ℕ) (d : Mark) (b : Bool) → i < length ms → (IsTrue b ↔ (slice_index_or ms i d ≡ first_mark (i + 1))) → b ≡ false → ms ≡ first_marks (length ms) → ⊥
no_first ms i d b low test is same =
    both_ways b is (test.1 (ap (λ (xs : List Mark). slice_index_or xs i d) same ∙ first_at (length ms) i d low))

-- a mark that isn't that after the entries: these aren't all of them
pub no_end : (ms ends : List Mark) (i : ℕ) (d : Mark) (b : Bool) → (IsTrue b ↔ (slice_index_or ms i d ≡ slice_index_or ends i (slice_index_or ms i d))) → b ≡ false → i < length ms → ms ≡ ends → ⊥
no_end ms ends i d b test is low same =
    both_ways b is (test.1 (get_or_default ms i d (slice_index_or ms i d) low ∙ ap (λ (xs : List Mark). slice_index_or xs i (slice_index_or ms i d)) same))

-- stretches that go on, and one more that goes on from the last
pub cont_more : (r : Router) (m : Counts) (p : Stretch) (qs : List Stretch) (k : ℕ) (before next : Stretch) → k < length qs → p.router ≡ r → m ≡ counted_all p.from p.entries
    → before ≡ slice_index_or (p ∷ qs) k before → next ≡ slice_index_or qs k next → GoesOn before next → AreContinued r p.end m (take k qs) → AreContinued r p.end m (take (suc k) qs)
cont_more r m p [] k before next low router counts b x goes are = absurd (omega (arith, low))
cont_more r m p (q ∷ qs) zero before next low router counts b x goes are =
    let g : GoesOn p q = subst (λ (s : Stretch). GoesOn p s) x (subst (λ (s : Stretch). GoesOn s next) b goes) in
    (g.0 ∙ router, g.1, g.2 ∙ sym counts, tt)
cont_more r m p (q ∷ qs) (suc k) before next low router counts b x goes are =
    (are.0, are.1, are.2, cont_more r (counted_all m q.entries) q qs k before next (omega (arith, low)) are.0 (ap (λ (n : Counts). counted_all n q.entries) (sym are.2)) b x goes are.3)

-- the last of those that go on goes on from the one before
cont_last : (r : Router) (m : Counts) (p : Stretch) (qs : List Stretch) (k : ℕ) (before next : Stretch) → k < length qs → p.router ≡ r → m ≡ counted_all p.from p.entries
    → before ≡ slice_index_or (p ∷ qs) k before → next ≡ slice_index_or qs k next → AreContinued r p.end m (take (suc k) qs) → GoesOn before next
cont_last r m p [] k before next low router counts b x are = absurd (omega (arith, low))
cont_last r m p (q ∷ qs) zero before next low router counts b x are =
    let g : GoesOn p q = (are.0 ∙ sym router, are.1, are.2 ∙ counts) in
    subst (λ (s : Stretch). GoesOn s next) (sym b) (subst (λ (s : Stretch). GoesOn p s) (sym x) g)
cont_last r m p (q ∷ qs) (suc k) before next low router counts b x are =
    cont_last r (counted_all m q.entries) q qs k before next (omega (arith, low)) are.0 (ap (λ (n : Counts). counted_all n q.entries) (sym are.2)) b x are.3

-- so do the first of them
cont_take : (r : Router) (s : State) (n : Counts) (qs : List Stretch) (k : ℕ) → AreContinued r s n qs → AreContinued r s n (take k qs)
cont_take r s n [] zero are = tt
cont_take r s n [] (suc k) are = tt
cont_take r s n (q ∷ qs) zero are = tt
cont_take r s n (q ∷ qs) (suc k) are = (are.0, are.1, are.2, cont_take r q.end (counted_all n q.entries) qs k are.3)

-- the first segments of a whole journal are one
pub joined_take : (pieces : List Stretch) (k : ℕ) → AreJoined pieces → AreJoined (take k pieces)
joined_take [] zero are = tt
joined_take [] (suc k) are = tt
joined_take (p ∷ qs) zero are = tt
joined_take (p ∷ qs) (suc k) are = (are.0, cont_take p.router p.end (counted_all p.from p.entries) qs k are.1)

-- where a segment doesn't go on from the one before, it is the first that doesn't
pub break_here : (last : Stretch) (pieces : List Stretch) (i : ℕ) (before next : Stretch) → i < length pieces → before ≡ slice_index_or (last ∷ pieces) i before → next ≡ slice_index_or pieces i next → (GoesOn before next → ⊥)
    → GoOnFrom last (take i pieces) → IsFirstBreak last (i + 1) pieces
break_here last pieces i before next low b x never are =
    let e : i + 1 - 1 ≡ i = omega arith in
    let f : i + 1 ≡ suc i = omega arith in
    record {
      from_one = omega arith;
      before = subst (λ (k : ℕ). GoOnFrom last (take k pieces)) (sym e) are;
      there = λ goes. never (cont_last last.router (counts_after last) last pieces i before next low refl refl b x (subst (λ (k : ℕ). GoOnFrom last (take k pieces)) f goes));
    }

-- it is one of them
pub break_within : (last : Stretch) (pieces : List Stretch) (number : ℕ) → IsFirstBreak last number pieces → number ≤ length pieces
break_within last pieces number is = ⊎_elim
    (λ (far : length pieces < number).
    let before : take (number - 1) pieces ≡ pieces = take_all (number - 1) pieces (omega (arith, far)) in
    let all : take number pieces ≡ pieces = take_all number pieces (omega (arith, far)) in
    absurd (is.there (subst (GoOnFrom last) (before ∙ sym all) is.before)))
    (λ (near : number ≤ length pieces). near)
    (cases_lt (length pieces) number)

-- and where the segments go on from the first of a journal up to there, it is the first gap of the journal
pub break_gap : (first : Stretch) (rest : List Stretch) (number : ℕ) → first.from ≡ first_counts (length first.from.marks) → IsFirstBreak first number rest → IsFirstGap (number + 1) (first ∷ rest)
break_gap first rest number opens is =
    let e : number + 1 - 1 ≡ suc (number - 1) = omega (arith, is.from_one) in
    let f : number + 1 ≡ suc number = omega arith in
    record {
      from_one = omega arith;
      before = subst (λ (k : ℕ). AreJoined (take k (first ∷ rest))) (sym e) (opens, is.before);
      there = λ joined. is.there (subst (λ (k : ℕ). AreJoined (take k (first ∷ rest))) f joined).1;
    }

-- segments of which one doesn't go on don't
pub break_apart : (last : Stretch) (pieces : List Stretch) (number : ℕ) → IsFirstBreak last number pieces → GoOnFrom last pieces → ⊥
break_apart last pieces number is goes = is.there (cont_take last.router last.end (counts_after last) pieces number goes)

-- where there is a gap, the segments are no whole journal
pub gap_apart : (pieces : List Stretch) (number : ℕ) → IsFirstGap number pieces → AreJoined pieces → ⊥
gap_apart pieces number gap joined = gap.there (joined_take pieces number joined)
