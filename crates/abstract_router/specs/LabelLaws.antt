-- The labels that LSPs hold where they are as they should be.
use Rattle.std.specs.Prelude.{◌≤◌, ℕ, suc, filter, length, true, false, cond, not, Bool, List, [], ◌∷◌}
use Rattle.std.proofs.Common.{sym, ap, ◌∙◌, arith}
use Rattle.std.proofs.lemmas.List.{length-map}
use Rattle.sorted_rows.specs.Rows.{keys_of}
use Rattle.lsr_facts.specs.Lifetimes.{begins_here}
use Rattle.lsr_facts.specs.declared.key.Key.{Key}
use Rattle.lsr_facts.specs.declared.path_fact.PathFact.{PathFact}
use Rattle.lsr_facts.specs.declared.router.Router.{Router}
use Rattle.label_space.specs.Bindings.{AreHeldOf}
use Rattle.abstract_router.specs.Soundness.{AreLabelled}
use Rattle.abstract_router.specs.States.{State}

-- Where exactly the LSPs that don't begin here hold labels, as they should, the labels are of the range and apart.
pub held-labelled : (r : Router) (s : State) → AreLabelled r s → AreHeldOf r.labels s.labels
held-labelled r s are = record { from_first = are.from_first; to_last = are.to_last; apart = are.apart }

-- some paths are no more than all
length_some : (test : Key × PathFact → Bool) (paths : List (Key × PathFact)) → length (keys_of (filter test paths)) ≤ length paths
length_some test [] = omega arith
length_some test (path ∷ paths) =
    let rest = length_some test paths in
    elim (test path) as (λ b. length (keys_of (cond b (path ∷ filter test paths) (filter test paths))) ≤ suc (length paths)) [ true ↦ omega arith | false ↦ omega arith ]

-- And there are no more of them than paths.
pub length-labelled : (r : Router) (s : State) → AreLabelled r s → length s.labels ≤ length s.facts.paths
length-labelled r s are =
    let few = length_some (λ path. not (begins_here path.1.role)) s.facts.paths in
    let as_many = sym (length-map s.labels (λ (row : Key × ℕ). row.0)) ∙ ap length are.of_lsps in
    omega (arith, few, as_many)
