-- Ports that no entry and no receipt has, and all ports.
use Rattle.std.proofs.Common.{◌≡◌, ◌<◌, ◌≤◌, ◌++◌, ◌∷◌, suc, ℕ, List, [], All, ⊎_elim, arith, refl, sym, ap, subst, ◌∙◌}
use Rattle.std.proofs.lemmas.Bool.{cases_lt, ne_eqb}
use Rattle.run_journal.specs.Journals.{Stretch}
use Rattle.run_journal.specs.Marks.{Counts, counted}
use Rattle.run_journal.specs.declared.entry.CountedEntry.{CountedEntry}
use Rattle.run_journal.specs.declared.receipt.Receipt.{Receipt}
use Rattle.run_reconciler.specs.Mismatches.{IsOdd}
use Rattle.run_reconciler.specs.Reconciled.{AreJoined, IsReconciled, called_for, counts_at, entries_in}
use Rattle.run_reconciler.specs.Rounds.{AgreeByPort, IsFirstOdd}
use Rattle.run_reconciler.specs.Walks.{HasPorts, called_in, mine}
use Rattle.run_reconciler.specs.declared.reconciling.Mismatch.{Mismatch}
use Rattle.run_reconciler.proofs.Calling.{differs, joined_called, mine_append}

-- what holds of all holds of those behind the first
pub All_rest : {X : Type 0} (P : X → Type 0) (x : X) (xs : List X) → All P (x ∷ xs) → All P xs
All_rest P x xs all k d low = all (suc k) d (omega (arith, low))

pub All_first : {X : Type 0} (P : X → Type 0) (x : X) (xs : List X) → All P (x ∷ xs) → P x
All_first P x xs all = all 0 x (omega arith)

-- where no receipt has so great a port, none is its
none_mine : (port greatest : ℕ) (rs : List Receipt) → greatest < port → All (λ (r : Receipt). r.mark.port ≤ greatest) rs → mine port rs ≡ []
none_mine port greatest [] far all = refl
none_mine port greatest (r ∷ rs) far all =
    let low : r.mark.port ≤ greatest = All_first (λ (x : Receipt). x.mark.port ≤ greatest) r rs all in
    let other : r.mark.port ≡ port → ⊥ = λ same. omega (arith, same, low, far) in
    rw (ne_eqb r.mark.port port other) (none_mine port greatest rs far (All_rest (λ (x : Receipt). x.mark.port ≤ greatest) r rs all))

-- where no entry has so great a port, none calls for one of its
none_called : (port greatest : ℕ) (n : Counts) (es : List CountedEntry) → greatest < port → All (λ (e : CountedEntry). e.entry.port ≤ greatest) es → mine port (called_for n es) ≡ []
none_called port greatest n [] far all = refl
none_called port greatest n (e ∷ es) far all =
    let low : e.entry.port ≤ greatest = All_first (λ (x : CountedEntry). x.entry.port ≤ greatest) e es all in
    let other : e.entry.port ≡ port → ⊥ = λ same. omega (arith, same, low, far) in
    rw (ne_eqb e.entry.port port other) (none_called port greatest (counted n e) es far (All_rest (λ (x : CountedEntry). x.entry.port ≤ greatest) e es all))

-- nor does any of the segments'
none_called_in : (port greatest : ℕ) (pieces : List Stretch) → greatest < port → All (HasPorts greatest) pieces → mine port (called_in pieces) ≡ []
none_called_in port greatest [] far all = refl
none_called_in port greatest (piece ∷ more) far all =
    mine_append port (called_for piece.from piece.entries) (called_in more)
    ∙ ap (λ (rs : List Receipt). rs ++ mine port (called_in more)) (none_called port greatest piece.from piece.entries far (All_first (HasPorts greatest) piece more all))
    ∙ none_called_in port greatest more far (All_rest (HasPorts greatest) piece more all)

-- where each port up to the greatest has what the segments' entries call for, all ports have
pub all_ports : (pieces : List Stretch) (rs : List Receipt) (least greatest : ℕ) → least ≤ greatest → All (λ (r : Receipt). r.mark.port ≤ least) rs → All (HasPorts greatest) pieces
    → ((q : ℕ) → q ≤ greatest → mine q rs ≡ mine q (called_in pieces)) → AgreeByPort rs (called_in pieces)
all_ports pieces rs least greatest above receipts entries same port = ⊎_elim
    (λ (far : greatest < port). none_mine port least rs (omega (arith, far, above)) receipts ∙ sym (none_called_in port greatest pieces far entries))
    (λ (near : port ≤ greatest). same port near)
    (cases_lt greatest port)

-- segments that are a whole journal, and receipts that are those that their entries call for, are of one run
pub all_reconciled : (pieces : List Stretch) (rs : List Receipt) → AreJoined pieces → AgreeByPort rs (called_in pieces) → IsReconciled pieces rs
all_reconciled pieces rs joined those = (joined, λ port. those port ∙ ap (mine port) (sym (joined_called pieces joined)))

-- the first port whose receipts aren't those that a whole journal's entries call for
pub odd_run : (pieces : List Stretch) (rs : List Receipt) (m : Mismatch) → AreJoined pieces → IsFirstOdd rs (called_in pieces) m → IsOdd pieces rs m
odd_run pieces rs m joined odd =
    let called = called_for (counts_at pieces) (entries_in pieces) in
    let same : IsFirstOdd rs called m = subst (λ (all : List Receipt). IsFirstOdd rs all m) (sym (joined_called pieces joined)) odd in
    record { joined = joined; segment = same.segment; before = same.before; place = same.place }

-- where a port's aren't, they aren't of one run
pub odd_apart : (pieces : List Stretch) (rs : List Receipt) (m : Mismatch) → IsOdd pieces rs m → IsReconciled pieces rs → ⊥
odd_apart pieces rs m odd is =
    differs (mine m.port rs) (mine m.port (called_for (counts_at pieces) (entries_in pieces))) m.place odd.place (is.1 m.port)
