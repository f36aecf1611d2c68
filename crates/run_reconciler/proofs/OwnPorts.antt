-- So many ports have so many marks, and receipts of ports.
use Rattle.std.proofs.Common.{◌≡◌, ◌↔◌, ◌+◌, ◌<◌, ◌∷◌, ◌++◌, ℕ, IsTrue, List, length, nat_eq, slice_index_or, take, drop, arith, refl, sym, ap, subst, ◌∙◌}
use Rattle.std.proofs.lemmas.Bool.{eq-eqb, eqb-true}
use Rattle.std.proofs.lemmas.List.{drop_more, take-append-drop}
use Rattle.std.proofs.lemmas.List.Elements.{All-contains, Contains-append_right}
use Rattle.std.specs.List.{Contains}
use Rattle.run_journal.specs.Marks.{Counts, first_counts}
use Rattle.run_journal.specs.declared.receipt.Receipt.{Receipt}
use Rattle.run_reconciler.proofs.Joining.{first_length}
use Rattle.run_reconciler.specs.Judged.{AreOfPorts, IsPort, IsStrayPort}

-- the numbers of ports without an entry are those of as many ports as there are marks
pub of_ports : (n : Counts) (ports : ℕ) → n ≡ first_counts (length n.marks) → IsTrue (nat_eq (length n.marks) ports) ↔ (n ≡ first_counts ports)
of_ports n ports first =
    (λ same. first ∙ ap first_counts (eqb-true (length n.marks) ports same), λ is. eq-eqb (length n.marks) ports (ap (λ (m : Counts). length m.marks) is ∙ first_length ports))

-- the first receipt that is of none of the ports
pub stray_here : (ports : ℕ) (receipts : List Receipt) (i : ℕ) (r : Receipt) (port : ℕ) → i < length receipts → r ≡ slice_index_or receipts i r → port ≡ r.mark.port
    → (IsPort ports port → ⊥) → AreOfPorts ports (take i receipts) → IsStrayPort ports receipts port
stray_here ports receipts i r port low is same other those = record {
  before = take i receipts;
  receipt = r;
  after = drop (i + 1) receipts;
  all = sym (take-append-drop i receipts) ∙ ap (λ (rest : List Receipt). take i receipts ++ rest) (drop_more receipts i r low ∙ ap (λ (x : Receipt). x ∷ drop (i + 1) receipts) (sym is));
  own = those;
  none = λ its. other (subst (IsPort ports) (sym same) its);
  port_is = same;
}

-- where there is one, they aren't all of the ports
pub stray_apart : (ports : ℕ) (receipts : List Receipt) (port : ℕ) → IsStrayPort ports receipts port → AreOfPorts ports receipts → ⊥
stray_apart ports receipts port stray all =
    let here : Contains (stray.receipt ∷ stray.after) stray.receipt = (0, omega arith, refl) in
    let there : Contains receipts stray.receipt =
    subst (λ (rs : List Receipt). Contains rs stray.receipt) (sym stray.all) (Contains-append_right stray.before (stray.receipt ∷ stray.after) stray.receipt here) in
    stray.none (All-contains (λ (r : Receipt). IsPort ports r.mark.port) receipts stray.receipt all there)
