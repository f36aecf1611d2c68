-- The table of reservations stays as it should be, whichever change is made of it or of what stands beside it.
use Rattle.std.specs.Prelude.{◌≡◌, ℕ, ◌≤◌, Bool, true, false, T, List, filter, Option, Some, None, is_some}
use Rattle.std.specs.Bool.{then_some}
use Rattle.std.specs.FinMap.Entries.{find, is_sorted}
use Rattle.std.specs.List.{AllByRecursion}
use Rattle.std.specs.Option.{option_and_then}
use Rattle.std.proofs.Common.{sym, ap, subst, ◌∙◌, arith}
use Rattle.sorted_rows.specs.ListLaws.{all-filter}
use Rattle.sorted_rows.specs.RowsLaws.{find-filter, is_sorted-filter}
use Rattle.lsr_facts.specs.OrderLaws.{key_exact, key_total}
use Rattle.lsr_facts.specs.Orders.{key_cmp}
use Rattle.lsr_facts.specs.declared.assignment.Assignment.{Assignment}
use Rattle.lsr_facts.specs.declared.facts.Facts.{Facts}
use Rattle.lsr_facts.specs.declared.key.Key.{Key}
use Rattle.lsr_facts.specs.declared.router.Router.{Router}
use Rattle.lsr_facts.specs.AdmissionLaws.{reserved_of-better-le, reserved_of-but_holding, reserved_of-where_key-le}
use Rattle.lsr_facts.specs.Claims.{reserved_of}
use Rattle.lsr_facts.specs.declared.repair.Repair.{Repair}
use Rattle.lsr_facts.specs.declared.resv_fact.ResvFact.{ResvFact}
use Rattle.abstract_router.specs.ClaimsLaws.{sorted-claims}
use Rattle.router_soundness.proofs.Claiming.{claims-filter, claims-other_paths, claims_most}
use Rattle.abstract_router.specs.Preempting.{claims_of, limit_of}
use Rattle.abstract_router.specs.Soundness.{AreHeld, IsResv}
use Rattle.abstract_router.specs.States.{State, with_facts, with_resvs_where}

-- what is found among reservations that pass a test is found among all of them
pub found-all : (test : Key × ResvFact → Bool) (q : Key) (x : ResvFact) (resvs : List (Key × ResvFact)) → T (is_sorted key_cmp resvs) → find key_cmp q (filter test resvs) ≡ Some x → find key_cmp q resvs ≡ Some x
found-all test q x resvs h found =
    by (find key_cmp q resvs) (sym (find-filter key_cmp key_total test q (λ k v tied. ap (λ k. test (k, v)) (sym (key_exact q k tied))) resvs h) ∙ found)
  where
    kept : (v : ResvFact) (b : Bool) → then_some b v ≡ Some x → v ≡ x
    kept v true same = let e = same in cc
    kept v false none = absurd (let e = none in cc)

    by : (o : Option ResvFact) → option_and_then (λ v. then_some (test (q, v)) v) o ≡ Some x → o ≡ Some x
    by None none = absurd (let e = none in cc)
    by (Some v) same = ap Some (kept v (test (q, v)) same)

-- Reservations that pass a test are kept, and the others go.
pub held_where : (r : Router) (s : State) (test : Key × ResvFact → Bool) → AreHeld r s → AreHeld r (with_resvs_where test s)
held_where r s test held = record {
  in_order = is_sorted-filter key_cmp test s.resvs held.in_order;
  each = all-filter (IsResv s.facts.moment) test s.resvs held.each;
  one_style = λ a b x y at_a at_b. held.one_style a b x y (found-all test a x s.resvs held.in_order at_a) (found-all test b y s.resvs held.in_order at_b);
  within = λ link priority most. fewer link priority (held.within link priority most);
}
  where
    fewer : (link priority : ℕ) → reserved_of link priority (claims_of s.facts.paths s.resvs) ≤ limit_of r link → reserved_of link priority (claims_of s.facts.paths (filter test s.resvs)) ≤ limit_of r link
    fewer link priority within =
        let less = reserved_of-where_key-le link priority (λ k. is_some (find key_cmp k (filter test s.resvs))) (claims_of s.facts.paths s.resvs) (sorted-claims s.facts.paths s.resvs held.in_order) in
        subst (λ claims. reserved_of link priority claims ≤ limit_of r link) (sym (claims-filter s.facts.paths test s.resvs held.in_order)) (omega (arith, less, within))

-- Whatever is known of repairs.
pub held_with_repairs : (r : Router) (s : State) (repairs : List (Key × Repair)) → AreHeld r s → AreHeld r (record s { repairs = repairs })
held_with_repairs r s repairs held = record { in_order = held.in_order; each = held.each; one_style = held.one_style; within = held.within }

-- Whatever LSPs are promised of bypasses.
pub held_with_assignments : (r : Router) (s : State) (assignments : List (Key × Assignment)) → AreHeld r s → AreHeld r (record s { assignments = assignments })
held_with_assignments r s assignments held = record { in_order = held.in_order; each = held.each; one_style = held.one_style; within = held.within }

-- Other things are known of links, time and paths, and no reservation has expired by that.
pub held_with_facts : (r : Router) (s : State) (facts : Facts) → AreHeld r s → AllByRecursion (IsResv facts.moment) s.resvs → AreHeld r (with_facts facts s)
held_with_facts r s facts held each = record {
  in_order = held.in_order;
  each = each;
  one_style = held.one_style;
  within = λ link priority most. by link priority most (held.within link 7 (omega arith));
}
  where
    by : (link priority : ℕ) → priority ≤ 7 → reserved_of link 7 (claims_of s.facts.paths s.resvs) ≤ limit_of r link → reserved_of link priority (claims_of facts.paths s.resvs) ≤ limit_of r link
    by link priority most within =
        let less = reserved_of-better-le link priority 7 (claims_of facts.paths s.resvs) (sorted-claims facts.paths s.resvs held.in_order) most in
        let same = reserved_of-but_holding link 7 (claims_of facts.paths s.resvs) (claims_of s.facts.paths s.resvs) (claims_most facts.paths s.resvs) (claims_most s.facts.paths s.resvs) (claims-other_paths facts.paths s.facts.paths s.resvs) in
        omega (arith, less, same, within)
