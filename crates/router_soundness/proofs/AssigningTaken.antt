-- The bandwidth of bypasses may be promised anew once tunnels have gone over to new LSPs.
use Rattle.std.specs.Prelude.{◌≡◌, not, Bool, true, false, cond, T, Option, None}
use Rattle.std.specs.FinMap.Entries.{find, find-where_key, is_sorted}
use Rattle.std.specs.Option.{option_map_or}
use Rattle.std.proofs.Common.{ap, sym, ◌∙◌, subst, le_trans}
use Rattle.lsr_facts.specs.OrderLaws.{key_exact}
use Rattle.lsr_facts.specs.Orders.{key_cmp}
use Rattle.lsr_facts.specs.declared.key.Key.{Key}
use Rattle.lsr_facts.specs.declared.path_fact.PathFact.{PathFact}
use Rattle.lsr_facts.specs.declared.repair.Repair.{Repair}
use Rattle.lsr_facts.specs.declared.router.Router.{Router}
use Rattle.abstract_paths.specs.Tears.{leaves_by}
use Rattle.abstract_router.specs.Assigning.{is_in_use}
use Rattle.abstract_router.specs.Soundness.{IsSound}
use Rattle.abstract_router.specs.States.{State, is_one_of}
use Rattle.abstract_router.specs.Steps.{given_up, taken_over}
use Rattle.router_soundness.proofs.Assigning.{MayPromise}
use Rattle.router_soundness.proofs.AssigningRepairs.{passed_by}
use Rattle.router_soundness.proofs.Repairing.{repaired_with_facts}
use Rattle.router_soundness.proofs.Serving.{fewer_take}
use Rattle.router_soundness.specs.Drafted.{IsDrafted}

-- No more is in use then: paths went, and repairs and assignments are the same.
in_use_before : (r : Router) (s : State) (key : Key) → is_in_use (taken_over r s) key ≡ true → is_in_use s key ≡ true
unfolding taken_over
in_use_before r s key used =
    let repair = passed_by (λ (repair : Repair). option_map_or (leaves_by repair.resv.link) (find key_cmp key (taken_over r s).facts.paths) false) (find key_cmp key s.repairs) used in
    ap (λ (o : Option Repair). option_map_or (λ (repair : Repair). option_map_or (leaves_by repair.resv.link) (find key_cmp key s.facts.paths) false) o false) repair.1
    ∙ before repair.0 (left key) (sym (ap (λ (o : Option PathFact). option_map_or (leaves_by repair.0.resv.link) o false) (find-where_key key_cmp left key (λ k tied. ap left (sym (key_exact key k tied))) s.facts.paths)) ∙ repair.2)
  where
    left : Key → Bool
    left k = not (is_one_of (given_up r s) k)

    before : (repair : Repair) (b : Bool) → option_map_or (leaves_by repair.resv.link) (cond b (find key_cmp key s.facts.paths) None) false ≡ true → option_map_or (leaves_by repair.resv.link) (find key_cmp key s.facts.paths) false ≡ true
    before repair true is = is
    before repair false is = absurd (let e = is in cc)

-- So the bandwidth of bypasses may be promised anew.
pub may_promise : (r : Router) (before s : State) → IsSound r before → IsDrafted r before s → MayPromise (taken_over r s)
unfolding taken_over
may_promise r before s were drafted = record {
  resvs = drafted.held.in_order;
  repairs = repaired_with_facts s (taken_over r s).facts drafted.repaired drafted.repaired.each;
  bypasses = drafted.paths.bypasses.in_order;
  assignments = in_order;
  served = drafted.served;
  enough = drafted.enough;
  within = λ number. le_trans (fewer_take number (is_in_use (taken_over r s)) (is_in_use s) (in_use_before r s) s.assignments in_order) (drafted.within number);
}
  where
    in_order : T (is_sorted key_cmp s.assignments)
    in_order = subst (λ rows. T (is_sorted key_cmp rows)) (sym drafted.assignments) were.assigned.in_order
