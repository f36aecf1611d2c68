-- Receipts of one run are as many as its entries.
use Rattle.std.proofs.Common.{◌≡◌, ◌≢◌, ◌≤◌, ◌∷◌, ⊎_elim, suc, zero, ℕ, List, [], false, length, not, refl, sym, ap, subst, ◌∙◌, arith}
use Rattle.std.proofs.lemmas.Bool.{cases_eq, eq-eqb, ne_eqb}
use Rattle.std.proofs.lemmas.List.Filters.{length-filter_both}
use Rattle.std.specs.Prelude.{filter, cond, ◌==◌}
use Rattle.run_journal.specs.Journals.{Stretch}
use Rattle.run_journal.specs.Marks.{Counts, counted}
use Rattle.run_journal.specs.declared.entry.CountedEntry.{CountedEntry}
use Rattle.run_journal.specs.declared.receipt.Receipt.{Receipt}
use Rattle.run_reconciler.specs.Reconciled.{IsReconciled, called_for, counts_at, entries_in, is_of}

-- each entry calls for one receipt
length-called_for : (n : Counts) (es : List CountedEntry) → length (called_for n es) ≡ length es
length-called_for n [] = refl
length-called_for n (e ∷ es) = ap suc (length-called_for (counted n e) es)

-- the receipts of other ports
abbrev others : ℕ → List Receipt → List Receipt
others port rs = filter (λ (r : Receipt). not (is_of port r)) rs

-- none of them is the port's
none_mine : (port : ℕ) (rs : List Receipt) → filter (is_of port) (others port rs) ≡ []
none_mine port [] = refl
none_mine port (r ∷ rs) = ⊎_elim
    (λ (own : r.mark.port ≡ port). rw (eq-eqb r.mark.port port own) (none_mine port rs))
    (λ (other : r.mark.port ≢ port).
    let test : (r.mark.port == port) ≡ false = ne_eqb r.mark.port port other in
    rw test (rw test (none_mine port rs)))
    (cases_eq r.mark.port port)

-- those of a third port are all among them
all_apart : (port third : ℕ) → third ≢ port → (rs : List Receipt) → filter (is_of third) (others port rs) ≡ filter (is_of third) rs
all_apart port third apart [] = refl
all_apart port third apart (r ∷ rs) = ⊎_elim
    (λ (own : r.mark.port ≡ port).
    let test : (r.mark.port == third) ≡ false = ne_eqb r.mark.port third (λ same. apart (sym same ∙ own)) in
    rw (eq-eqb r.mark.port port own) (rw test (all_apart port third apart rs)))
    (λ (other : r.mark.port ≢ port).
    rw (ne_eqb r.mark.port port other) (ap (λ (more : List Receipt). cond (is_of third r) (r ∷ more) more) (all_apart port third apart rs)))
    (cases_eq r.mark.port port)

-- Where each port has the same of both, there are as many.
as_many : (n : ℕ) (rs cs : List Receipt) → length rs ≤ n → ((port : ℕ) → filter (is_of port) rs ≡ filter (is_of port) cs) → length rs ≡ length cs
as_many n [] [] few same = refl
as_many n [] (c ∷ cs) few same =
    let own : filter (is_of c.mark.port) (c ∷ cs) ≡ c ∷ filter (is_of c.mark.port) cs = rw (eq-eqb c.mark.port c.mark.port refl) refl in
    let none : [] ≡ c ∷ filter (is_of c.mark.port) cs = same c.mark.port ∙ own in
    cc
as_many zero (r ∷ rs) cs few same = absurd (omega (arith, few))
as_many (suc n) (r ∷ rs) cs few same =
    let port = r.mark.port in
    let own : filter (is_of port) (r ∷ rs) ≡ r ∷ filter (is_of port) rs = rw (eq-eqb port port refl) refl in
    let here = length-filter_both (is_of port) (λ (x : Receipt). not (is_of port x)) (λ x. refl) (r ∷ rs) in
    let there = length-filter_both (is_of port) (λ (x : Receipt). not (is_of port x)) (λ x. refl) cs in
    let fewer : length (others port (r ∷ rs)) ≤ n = omega (arith, few, here, ap length own) in
    let rest : length (others port (r ∷ rs)) ≡ length (others port cs) = as_many n (others port (r ∷ rs)) (others port cs) fewer (λ third. ⊎_elim
    (λ (own : third ≡ port). subst (λ (p : ℕ). filter (is_of p) (others port (r ∷ rs)) ≡ filter (is_of p) (others port cs)) (sym own) (none_mine port (r ∷ rs) ∙ sym (none_mine port cs)))
    (λ (other : third ≢ port). all_apart port third other (r ∷ rs) ∙ same third ∙ sym (all_apart port third other cs))
    (cases_eq third port)) in
    omega (arith, here, there, rest, ap length (same port))

-- receipts of one run are as many as its entries
pub as_many_receipts : (pieces : List Stretch) (receipts : List Receipt) → IsReconciled pieces receipts → length receipts ≡ length (entries_in pieces)
as_many_receipts pieces receipts is =
    as_many (length receipts) receipts (called_for (counts_at pieces) (entries_in pieces)) (omega arith) is.1 ∙ length-called_for (counts_at pieces) (entries_in pieces)
