-- The table of repairs stays as it should be, whichever change is made of it or of what stands beside it, and so it is once
-- what a lost link took away is repaired.
use Rattle.std.specs.Prelude.{◌≡◌, ◌&&◌, Bool, true, false, cond, not, T, List, [], ◌∷◌, filter, filter_map, map, Option, Some, None, is_some, IfSome}
use Rattle.std.specs.Bool.{then_some}
use Rattle.std.specs.FinMap.Entries.{find, find-put, is_sorted, is_sorted-put, put}
use Rattle.std.specs.List.{AllByRecursion, cons_option}
use Rattle.std.specs.Option.{option_and_then, option_map, option_map_or}
use Rattle.std.specs.Ordering.{eq_by_cmp}
use Rattle.std.proofs.Common.{refl, sym, ap, subst, ◌∙◌}
use Rattle.std.proofs.lemmas.Bool.{and_parts, cond_both}
use Rattle.sorted_rows.specs.EditLaws.{is_sorted-edited}
use Rattle.sorted_rows.specs.Edits.{edited}
use Rattle.sorted_rows.specs.ListLaws.{all-both, all-filter, all-weaker}
use Rattle.sorted_rows.specs.RowsLaws.{all-put_row, all_found, find-filter, is_sorted-filter, ties}
use Rattle.lsr_facts.specs.OrderLaws.{key_exact, key_total}
use Rattle.lsr_facts.specs.Orders.{key_cmp}
use Rattle.lsr_facts.specs.declared.assignment.Assignment.{Assignment}
use Rattle.lsr_facts.specs.declared.facts.Facts.{Facts}
use Rattle.lsr_facts.specs.declared.key.Key.{Key}
use Rattle.lsr_facts.specs.declared.path_fact.PathFact.{PathFact}
use Rattle.lsr_facts.specs.declared.router.Router.{Router}
use Rattle.forwarding_table.specs.Labels.{is_label}
use Rattle.lsr_facts.specs.declared.repair.Repair.{Repair}
use Rattle.lsr_facts.specs.declared.repair.Selected.{Selected}
use Rattle.lsr_facts.specs.declared.resv_fact.ResvFact.{ResvFact}
use Rattle.abstract_paths.specs.Places.{is_up}
use Rattle.abstract_paths.specs.RowLaws.{option_map-holds}
use Rattle.abstract_paths.specs.Tears.{leaves_by}
use Rattle.router_soundness.proofs.Holding.{found-all}
use Rattle.router_soundness.proofs.Selecting.{selected-is}
use Rattle.abstract_router.specs.Lsps.{around_of}
use Rattle.abstract_router.specs.Protecting.{repair_with, selected}
use Rattle.abstract_router.specs.Repairing.{new_repairs, put_repair, repair_of, repair_on, repair_stands, repaired, repairs_left}
use Rattle.abstract_router.specs.Soundness.{AreHeld, AreRepaired, IsResv}
use Rattle.abstract_router.specs.States.{State, is_repaired, with_facts, with_repair, with_repairs_where, with_resv, with_resvs_where}
use Rattle.abstract_router.specs.Steps.{left_standing, resvs_left, stands}

-- ---- changes of one table

-- Other things are known of links, time and paths, and no repair has expired by that.
pub repaired_with_facts : (s : State) (facts : Facts) → AreRepaired s → AllByRecursion (λ repair. IsResv facts.moment (repair.0, repair.1.resv)) s.repairs → AreRepaired (with_facts facts s)
repaired_with_facts s facts is each = record { in_order = is.in_order; each = each; apart = is.apart }

-- Whatever LSPs are promised of bypasses.
pub repaired_with_assignments : (s : State) (assignments : List (Key × Assignment)) → AreRepaired s → AreRepaired (record s { assignments = assignments })
repaired_with_assignments s assignments is = record { in_order = is.in_order; each = is.each; apart = is.apart }

-- Repairs that pass a test are kept, and the others go.
pub repaired_where : (s : State) (test : Key × Repair → Bool) → AreRepaired s → AreRepaired (with_repairs_where test s)
repaired_where s test is = record {
  in_order = is_sorted-filter key_cmp test s.repairs is.in_order;
  each = all-filter (λ (repair : Key × Repair). IsResv s.facts.moment (repair.0, repair.1.resv)) test s.repairs is.each;
  apart = all-filter (λ (repair : Key × Repair). find key_cmp repair.0 s.resvs ≡ None) test s.repairs is.apart;
}

-- an LSP that isn't reserved isn't so among the reservations that pass a test
pub none-kept : (test : Key × ResvFact → Bool) (q : Key) (resvs : List (Key × ResvFact)) → T (is_sorted key_cmp resvs) → find key_cmp q resvs ≡ None → find key_cmp q (filter test resvs) ≡ None
none-kept test q resvs h none = by (find key_cmp q (filter test resvs)) refl
  where
    by : (o : Option ResvFact) → find key_cmp q (filter test resvs) ≡ o → o ≡ None
    by None is = refl
    by (Some x) is = absurd (let e = sym none ∙ found-all test q x resvs h is in cc)

-- Reservations that pass a test are kept, and the others go.
pub repaired_resvs_where : (s : State) (test : Key × ResvFact → Bool) → T (is_sorted key_cmp s.resvs) → AreRepaired s → AreRepaired (with_resvs_where test s)
repaired_resvs_where s test h is = record {
  in_order = is.in_order;
  each = is.each;
  apart = all-weaker (λ (repair : Key × Repair). find key_cmp repair.0 s.resvs ≡ None) (λ (repair : Key × Repair). find key_cmp repair.0 (filter test s.resvs) ≡ None) (λ repair none. none-kept test repair.0 s.resvs h none) s.repairs is.apart;
}

module _ (s : State) (key : Key) (fact : ResvFact) (free : is_repaired s key ≡ false) where
  -- an LSP that is repaired isn't reserved by the reservation of another
  other : (repair : Key × Repair) → find key_cmp repair.0 s.repairs ≡ Some repair.1 → find key_cmp repair.0 s.resvs ≡ None → find key_cmp repair.0 (put key_cmp key fact s.resvs) ≡ None
  other repair found none = find-put key_cmp key_total repair.0 key fact s.resvs ∙ by (eq_by_cmp key_cmp repair.0 key) refl
    where
      by : (b : Bool) → eq_by_cmp key_cmp repair.0 key ≡ b → cond b (Some fact) (find key_cmp repair.0 s.resvs) ≡ None
      by true tie = absurd (let is : is_some (find key_cmp key s.repairs) ≡ true = subst (λ k. is_some (find key_cmp k s.repairs) ≡ true) (key_exact repair.0 key (ties _ tie)) (ap is_some found) in let e = sym free ∙ is in cc)
      by false apart = none

  -- The reservation of an LSP is put that isn't repaired.
  pub repaired_with_resv : AreRepaired s → AreRepaired (with_resv key fact s)
  repaired_with_resv is = record {
    in_order = is.in_order;
    each = is.each;
    apart = all-both (λ (repair : Key × Repair). find key_cmp repair.0 s.repairs ≡ Some repair.1) (λ (repair : Key × Repair). find key_cmp repair.0 s.resvs ≡ None)
        (λ (repair : Key × Repair). find key_cmp repair.0 (put key_cmp key fact s.resvs) ≡ None) other s.repairs (all_found key_cmp key_total s.repairs is.in_order) is.apart;
  }

-- The repair of an LSP is put that isn't reserved.
pub repaired_with_repair : (s : State) (key : Key) (repair : Repair) → IsResv s.facts.moment (key, repair.resv) → find key_cmp key s.resvs ≡ None → AreRepaired s → AreRepaired (with_repair key repair s)
repaired_with_repair s key repair resv free is = record {
  in_order = is_sorted-put key_cmp key_total key repair s.repairs is.in_order;
  each = all-put_row key_cmp (λ (repair : Key × Repair). IsResv s.facts.moment (repair.0, repair.1.resv)) key repair (λ k tied. subst (λ k. IsResv s.facts.moment (k, repair.resv)) (key_exact key k tied) resv) resv s.repairs is.each;
  apart = all-put_row key_cmp (λ (repair : Key × Repair). find key_cmp repair.0 s.resvs ≡ None) key repair (λ k tied. subst (λ k. find key_cmp k s.resvs ≡ None) (key_exact key k tied) free) free s.repairs is.apart;
}

-- ---- what a lost link took away

-- what holds of all that f gives of these elements
pub all-filter_map_within : {A B : Type 0} (P : B → Type 0) (f : A → Option B) (xs : List A) → AllByRecursion (λ x. IfSome (f x) P) xs → AllByRecursion P (filter_map f xs)
all-filter_map_within P f [] holds = tt
all-filter_map_within {A} {B} P f (x ∷ xs) holds = by (f x) holds.0 (all-filter_map_within P f xs holds.1)
  where
    by : (o : Option B) → IfSome o P → AllByRecursion P (filter_map f xs) → AllByRecursion P (cons_option o (filter_map f xs))
    by None h rest = rest
    by (Some y) h rest = (h, rest)

-- what holds of new repairs and of those before holds of all
pub all-put_in : (P : Key × Repair → Type 0) (new repairs : List (Key × Repair)) → AllByRecursion P new → AllByRecursion P repairs → AllByRecursion P (edited key_cmp (map put_repair new) repairs)
all-put_in P [] repairs now were = were
all-put_in P (repair ∷ new) repairs now were =
    all-put_row key_cmp P repair.0 repair.1 (λ k tied. subst (λ k. P (k, repair.1)) (key_exact repair.0 k tied) now.0) now.0 (edited key_cmp (map put_repair new) repairs) (all-put_in P new repairs now.1 were)

-- A repair that is new keeps a reservation as it should be, of an LSP whose own stands no more.
record IsNew (s : State) (repair : Key × Repair) : Type 0 where
  resv : IsResv s.facts.moment (repair.0, repair.1.resv)
  falls : find key_cmp repair.0 (filter (stands s.facts) s.resvs) ≡ None

module _ (r : Router) (s : State) (held : AreHeld r s) where
  -- a reservation on a link that is down doesn't stand
  pub falls_down : (key : Key) (resv : ResvFact) → find key_cmp key s.resvs ≡ Some resv → is_up s.facts.up resv.link ≡ false → find key_cmp key (filter (stands s.facts) s.resvs) ≡ None
  falls_down key resv found down =
      find-filter key_cmp key_total (stands s.facts) key (λ k v tied. ap (λ k. stands s.facts (k, v)) (sym (key_exact key k tied))) s.resvs held.in_order
      ∙ ap (option_and_then (λ v. then_some (stands s.facts (key, v)) v)) found
      ∙ ap (λ b. then_some (b && option_map_or (leaves_by resv.link) (find key_cmp key s.facts.paths) false) resv) down

  -- with another label that can be written it is a reservation as it should be still
  relabelled : (key : Key) (resv : ResvFact) → IsResv s.facts.moment (key, resv) → is_up s.facts.up resv.link ≡ false → find key_cmp key s.resvs ≡ Some resv
      → (o : Option Selected) → IfSome o (λ choice. is_label choice.label ≡ true) → IfSome (option_map (repair_with resv) o) (λ repair. IsNew s (key, repair))
  relabelled key resv is down found None label = tt
  relabelled key resv is down found (Some choice) label = record {
    resv = record { has_rate = is.has_rate; label = label; live = is.live; recorded = is.recorded; passing = is.passing; passed_on = is.passed_on; adspec_last = is.adspec_last };
    falls = falls_down key resv found down;
  }

  -- the repair of a reservation, if there is to be one
  repair-is : (resv : Key × ResvFact) → IsResv s.facts.moment resv → find key_cmp resv.0 s.resvs ≡ Some resv.1 → IfSome (option_map (λ (repair : Repair). (resv.0, repair)) (repair_of r s resv)) (IsNew s)
  repair-is resv is found = option_map-holds (IsNew s) (λ (repair : Repair). (resv.0, repair)) (repair_of r s resv) (by (find key_cmp resv.0 s.facts.paths))
    where
      on_path : (path : PathFact) → IfSome (repair_on r s resv.0 resv.1 path) (λ repair. IsNew s (resv.0, repair))
      on_path path =
          cond_both (leaves_by resv.1.link path && not (is_up s.facts.up resv.1.link)) _ _ (λ (o : Option Repair). IfSome o (λ repair. IsNew s (resv.0, repair)))
          (λ lost. relabelled resv.0 resv.1 is (is_down (is_up s.facts.up resv.1.link) (and_parts (leaves_by resv.1.link path) (not (is_up s.facts.up resv.1.link)) lost).1) found (selected (around_of r s) resv.0 path (find key_cmp resv.0 s.assignments) resv.1) (selected-is resv.1 is.label (around_of r s) resv.0 path (find key_cmp resv.0 s.assignments)))
          (λ other. tt)
        where
          is_down : (b : Bool) → not b ≡ true → b ≡ false
          is_down true e = absurd (let f = e in cc)
          is_down false e = refl

      by : (o : Option PathFact) → IfSome (option_and_then (repair_on r s resv.0 resv.1) o) (λ repair. IsNew s (resv.0, repair))
      by None = tt
      by (Some path) = on_path path

  all_new : AllByRecursion (IsNew s) (new_repairs r s)
  unfolding new_repairs
  all_new =
      all-filter_map_within (IsNew s) (λ resv. option_map (λ (repair : Repair). (resv.0, repair)) (repair_of r s resv)) s.resvs
      (all-both (IsResv s.facts.moment) (λ resv. find key_cmp resv.0 s.resvs ≡ Some resv.1) (λ resv. IfSome (option_map (λ (repair : Repair). (resv.0, repair)) (repair_of r s resv)) (IsNew s)) repair-is s.resvs held.each (all_found key_cmp key_total s.resvs held.in_order))

  -- Repairs are as they should be once what a lost link took away is repaired, and the reservations are gone that stand no
  -- more: no LSP has both then.
  pub repaired_after : AreRepaired s → AreRepaired (resvs_left (repaired r s))
  unfolding repaired
  repaired_after were = record {
    in_order = is_sorted-edited key_cmp key_total (map put_repair (new_repairs r s)) s.repairs were.in_order;
    each = all-put_in (λ repair. IsResv s.facts.moment (repair.0, repair.1.resv)) (new_repairs r s) s.repairs (all-weaker (IsNew s) (λ repair. IsResv s.facts.moment (repair.0, repair.1.resv)) (λ repair new. new.resv) (new_repairs r s) all_new) were.each;
    apart = all-put_in (λ repair. find key_cmp repair.0 (filter (stands s.facts) s.resvs) ≡ None) (new_repairs r s) s.repairs (all-weaker (IsNew s) (λ repair. find key_cmp repair.0 (filter (stands s.facts) s.resvs) ≡ None) (λ repair new. new.falls) (new_repairs r s) all_new)
        (repaired_resvs_where s (stands s.facts) held.in_order were).apart;
  }

  -- And so they are once those of them are left that stand.
  pub repaired_left : AreRepaired s → AreRepaired (left_standing r (repaired r s))
  unfolding repairs_left
  repaired_left were = repaired_where (resvs_left (repaired r s)) (repair_stands r (resvs_left (repaired r s))) (repaired_after were)
