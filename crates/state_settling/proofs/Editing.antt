-- What is told of edits leads to the reservations and the claims after them.
use Rattle.std.specs.Prelude.{◌≡◌, ◌≤◌, ◌==◌, nat_lt, ℕ, true, false, cond, T, List, [], ◌∷◌, ◌++◌, map, reverse, Option, Some, None, IfOk, IfSome, IsOk, Result, Ok, Err}
use Rattle.std.specs.FinMap.Entries.{find, is_sorted, same_entries}
use Rattle.std.specs.List.{AllByRecursion}
use Rattle.std.specs.Option.{option_and_then, option_map}
use Rattle.std.specs.Ordering.{eq_by_cmp}
use Rattle.std.proofs.Common.{refl, sym, ap, subst, ◌∙◌, append_assoc, arith}
use Rattle.std.proofs.lemmas.List.{reverse-append}
use Rattle.std.proofs.lemmas.Bool.{cond_both, eqb-true, ltb-false}
use Rattle.rsvp_bodies.specs.Traffic.{flowspec_rate}
use Rattle.sorted_rows.specs.RowsLaws.{all-from_find, find-all, find-map, is_sorted-both, ties}
use Rattle.sorted_rows.specs.EditLaws.{find-edited, is_sorted-edited}
use Rattle.sorted_rows.specs.Edits.{edited, over}
use Rattle.lsr_facts.specs.OrderLaws.{key_exact, key_total}
use Rattle.lsr_facts.specs.Orders.{key_cmp}
use Rattle.lsr_facts.specs.declared.key.Key.{Key}
use Rattle.lsr_facts.specs.declared.path_fact.PathFact.{PathFact}
use Rattle.lsr_facts.specs.Claims.{claim_of}
use Rattle.lsr_facts.specs.Priorities.{counted, holding_of, lesser}
use Rattle.rsvp_bodies.specs.declared.attr.Attr.{Attr}
use Rattle.lsr_facts.specs.declared.resv_fact.ResvFact.{ResvFact}
use Rattle.abstract_paths.specs.RowLaws.{keys-map}
use Rattle.abstract_router.specs.Preempting.{attr_at, claims_of}
use Rattle.admission.specs.Bandwidths.{AreEdits, Edit, IsEdit, claim_edits, resv_edits}
use Rattle.state_settling.specs.Keeping.{edit_at, holding_at, kept_edit, moved}

-- what is found of an LSP where each row has another value
find-map_row : {X Y : Type 0} (f : Key × X → Y) (q : Key) (es : List (Key × X)) → find key_cmp q (map (λ e. (e.0, f e)) es) ≡ option_map (λ v. f (q, v)) (find key_cmp q es)
find-map_row f q [] = refl
find-map_row f q (e ∷ es) =
    elim (eq_by_cmp key_cmp q e.0) as (λ b. eq_by_cmp key_cmp q e.0 ≡ b → cond b (Some (f e)) (find key_cmp q (map (λ row. (row.0, f row)) es)) ≡ option_map (λ v. f (q, v)) (cond b (Some e.1) (find key_cmp q es))) [
      | true ↦ λ t. ap (λ k. Some (f (k, e.1))) (sym (key_exact q e.0 (ties _ t)))
      | false ↦ λ t. find-map_row f q es
    ] refl

-- the lesser of two is at most the second
lesser_most : (a b : ℕ) → lesser a b ≤ b
lesser_most a b = cond_both (nat_lt b a) b a (λ n. n ≤ b) (λ below. omega arith) (λ above. omega (arith, ltb-false b a above))

-- a priority at which something is kept is 7 at most
holding_most : (attr : Option Attr) → holding_of attr ≤ 7
unfolding holding_of
holding_most None = omega arith
holding_most (Some a) = omega (arith, lesser_most (counted a.setup) (counted a.hold), lesser_most a.hold 7)

-- Of one LSP, whose path has its reservation kept at a from now on, and had it at b.
module _ (a b : ℕ) where
  abbrev kept : Option ResvFact → Edit
  kept now = option_map (λ fact. (fact, a)) now

  abbrev elsewhere : Option ResvFact → Edit
  elsewhere here = option_and_then (λ fact. cond (a == b) None (Some (fact, a))) here

  -- the reservation that it has
  resv_told : {E : Type 0} (edit : Option (Option ResvFact)) (path : Option E) (here : Option ResvFact) → over (option_map (λ (now : Edit). option_map (λ given. given.0) now) (edit_at (option_map kept edit) path (elsewhere here))) here ≡ over edit here
  resv_told (Some None) path here = refl
  resv_told (Some (Some fact)) path here = refl
  resv_told None None here = refl
  resv_told None (Some p) None = refl
  resv_told None (Some p) (Some fact) =
      elim (a == b) as (λ t. over (option_map (λ (now : Edit). option_map (λ given. given.0) now) (option_map Some (cond {A = Edit} t None (Some (fact, a))))) (Some fact) ≡ Some fact) [ true ↦ refl | false ↦ refl ]

  -- what it claims
  claim_told : {E : Type 0} (edit : Option (Option ResvFact)) (path : Option E) (here : Option ResvFact) → (path ≡ None → a ≡ b) → over (option_map (λ (now : Edit). option_map (λ given. claim_of given.0 given.1) now) (edit_at (option_map kept edit) path (elsewhere here))) (option_map (λ fact. claim_of fact b) here) ≡ option_map (λ fact. claim_of fact a) (over edit here)
  claim_told (Some None) path here same = refl
  claim_told (Some (Some fact)) path here same = refl
  claim_told None None here same = ap (λ holding. option_map (λ (fact : ResvFact). claim_of fact holding) here) (sym (same refl))
  claim_told None (Some p) None same = refl
  claim_told None (Some p) (Some fact) same =
      elim (a == b) as (λ t. (a == b) ≡ t → over (option_map (λ (now : Edit). option_map (λ given. claim_of given.0 given.1) now) (option_map Some (cond {A = Edit} t None (Some (fact, a))))) (Some (claim_of fact b)) ≡ Some (claim_of fact a)) [
        | true ↦ λ is. ap (λ holding. Some (claim_of fact holding)) (sym (eqb-true a b is))
        | false ↦ λ is. refl
      ] refl

  -- and that its edit can be made
  edit_told : {E : Type 0} (edit : Option (Option ResvFact)) (path : Option E) (here : Option ResvFact) → a ≤ 7 → IfSome (over edit here) (λ fact. IsOk (flowspec_rate fact.flowspec)) → IfSome (edit_at (option_map kept edit) path (elsewhere here)) IsEdit
  edit_told (Some None) path here most rated = tt
  edit_told (Some (Some fact)) path here most rated = (rated, most)
  edit_told None None here most rated = tt
  edit_told None (Some p) None most rated = tt
  edit_told None (Some p) (Some fact) most rated =
      elim (a == b) as (λ t. IfSome (option_map Some (cond {A = Edit} t None (Some (fact, a)))) IsEdit) [ true ↦ tt | false ↦ (rated, most) ]

-- what is found of what reservations claim
find-claims : (paths : List (Key × PathFact)) (resvs : List (Key × ResvFact)) (q : Key) → find key_cmp q (claims_of paths resvs) ≡ option_map (λ fact. claim_of fact (holding_at paths q)) (find key_cmp q resvs)
unfolding claims_of
find-claims paths resvs q = find-map_row (λ (resv : Key × ResvFact). claim_of resv.1 (holding_at paths resv.0)) q resvs

is_sorted-claims : (paths : List (Key × PathFact)) (resvs : List (Key × ResvFact)) → T (is_sorted key_cmp resvs) → T (is_sorted key_cmp (claims_of paths resvs))
unfolding claims_of
is_sorted-claims paths resvs h = subst T (sym (is_sorted-both key_cmp (claims_of paths resvs) resvs (keys-map (λ (resv : Key × ResvFact). claim_of resv.1 (holding_at paths resv.0)) resvs))) h

-- The edits of reservations, with their priorities, stand in the order of their keys.
pub is_sorted-kept : (paths : List (Key × PathFact)) (edits : List (Key × Option ResvFact)) → T (is_sorted key_cmp edits) → T (is_sorted key_cmp (map (kept_edit paths) edits))
is_sorted-kept paths edits h =
    subst T (sym (is_sorted-both key_cmp (map (kept_edit paths) edits) edits (keys-map (λ (edit : Key × Option ResvFact). option_map (λ fact. (fact, holding_at paths edit.0)) edit.1) edits))) h

-- One edit more is taken from the end of what is left, and put behind those that are there.
pub one_kept : (paths : List (Key × PathFact)) (there now : List (Key × Edit)) (before left : List (Key × Option ResvFact)) (edit : Key × Option ResvFact) → before ≡ left ++ edit ∷ [] → now ≡ there ++ kept_edit paths edit ∷ [] → now ++ map (kept_edit paths) (reverse left) ≡ there ++ map (kept_edit paths) (reverse before)
one_kept paths there now before left edit popped pushed =
    ap (λ es. es ++ map (kept_edit paths) (reverse left)) pushed
    ∙ append_assoc there (kept_edit paths edit ∷ []) (map (kept_edit paths) (reverse left))
    ∙ ap (λ es. there ++ map (kept_edit paths) es) (sym (ap reverse popped ∙ reverse-append left (edit ∷ [])))

-- what follows from two facts of what there is, if it is
pub ok_both : {A E : Type 0} (P Q S : A → Type 0) → ((x : A) → P x → Q x → S x) → (r : Result A E) → IfOk r P → IfOk r Q → IfOk r S
ok_both P Q S step (Ok x) p q = step x p q
ok_both P Q S step (Err e) p q = tt

-- Of each LSP it is told what these edits say of it.
abbrev pub IsTold : List (Key × PathFact) → List (Key × Option PathFact) → List (Key × ResvFact) → List (Key × Edit) → List (Key × Edit) → Type 0
IsTold before paths resvs kept told =
    (key : Key) → find key_cmp key told ≡ edit_at (find key_cmp key kept) (find key_cmp key paths) (moved before (edited key_cmp paths before) resvs key)

module _ (before : List (Key × PathFact)) (paths : List (Key × Option PathFact)) (resvs : List (Key × ResvFact)) (edits : List (Key × Option ResvFact)) (kept_all : List (Key × Edit)) (are : kept_all ≡ map (kept_edit (edited key_cmp paths before)) edits) (told : List (Key × Edit)) (is : IsTold before paths resvs kept_all told) where
  -- what is told of an LSP, by what is edited of it
  told_at : (q : Key) → find key_cmp q told ≡ edit_at (option_map (kept (holding_at (edited key_cmp paths before) q) (holding_at before q)) (find key_cmp q edits)) (find key_cmp q paths) (moved before (edited key_cmp paths before) resvs q)
  told_at q =
      is q
      ∙ ap (λ kept. edit_at (find key_cmp q kept) (find key_cmp q paths) (moved before (edited key_cmp paths before) resvs q)) are
      ∙ ap (λ o. edit_at o (find key_cmp q paths) (moved before (edited key_cmp paths before) resvs q))
      (find-map_row (λ (edit : Key × Option ResvFact). option_map (λ fact. (fact, holding_at (edited key_cmp paths before) edit.0)) edit.1) q edits)

  -- a path that isn't edited has its reservation kept as before
  same_holding : (q : Key) → find key_cmp q paths ≡ None → holding_at (edited key_cmp paths before) q ≡ holding_at before q
  same_holding q none =
      ap (λ (known : Option PathFact). holding_of (option_and_then (λ fact. fact.attr) known)) (find-edited key_cmp key_total q paths before ∙ ap (λ edit. over edit (find key_cmp q before)) none)

  module _ (h : T (is_sorted key_cmp resvs)) where
    -- The reservations are those that the edits lead to,
    pub resvs_told : edited key_cmp (resv_edits told) resvs ≡ edited key_cmp edits resvs
    resvs_told =
        same_entries key_cmp key_total key_exact (edited key_cmp (resv_edits told) resvs) (edited key_cmp edits resvs)
        (is_sorted-edited key_cmp key_total (resv_edits told) resvs h) (is_sorted-edited key_cmp key_total edits resvs h)
        (λ q.
        find-edited key_cmp key_total q (resv_edits told) resvs
        ∙ ap (λ edit. over edit (find key_cmp q resvs)) (find-map key_cmp (λ (now : Edit). option_map (λ given. given.0) now) q told ∙ ap (option_map (λ (now : Edit). option_map (λ given. given.0) now)) (told_at q))
        ∙ resv_told (holding_at (edited key_cmp paths before) q) (holding_at before q) (find key_cmp q edits) (find key_cmp q paths) (find key_cmp q resvs)
        ∙ sym (find-edited key_cmp key_total q edits resvs))

    -- and beside each stands what it claims.
    pub claims_told : edited key_cmp (claim_edits told) (claims_of before resvs) ≡ claims_of (edited key_cmp paths before) (edited key_cmp edits resvs)
    claims_told =
        same_entries key_cmp key_total key_exact (edited key_cmp (claim_edits told) (claims_of before resvs)) (claims_of (edited key_cmp paths before) (edited key_cmp edits resvs))
        (is_sorted-edited key_cmp key_total (claim_edits told) (claims_of before resvs) (is_sorted-claims before resvs h))
        (is_sorted-claims (edited key_cmp paths before) (edited key_cmp edits resvs) (is_sorted-edited key_cmp key_total edits resvs h))
        (λ q.
        find-edited key_cmp key_total q (claim_edits told) (claims_of before resvs)
        ∙ (λ i. over
        ((find-map key_cmp (λ (now : Edit). option_map (λ given. claim_of given.0 given.1) now) q told ∙ ap (option_map (λ (now : Edit). option_map (λ given. claim_of given.0 given.1) now)) (told_at q)) i)
        (find-claims before resvs q i))
        ∙ claim_told (holding_at (edited key_cmp paths before) q) (holding_at before q) (find key_cmp q edits) (find key_cmp q paths) (find key_cmp q resvs) (same_holding q)
        ∙ ap (option_map (λ fact. claim_of fact (holding_at (edited key_cmp paths before) q))) (sym (find-edited key_cmp key_total q edits resvs))
        ∙ sym (find-claims (edited key_cmp paths before) (edited key_cmp edits resvs) q))

  -- Each of the edits can be made.
  pub edits_told : T (is_sorted key_cmp told) → AllByRecursion (λ resv. IsOk (flowspec_rate resv.1.flowspec)) (edited key_cmp edits resvs) → AreEdits told
  edits_told g rated =
      all-from_find key_cmp key_total (λ edit. IsEdit edit.1) told g
      (λ q now found.
      subst (λ o. IfSome o IsEdit) (sym (told_at q) ∙ found)
      (edit_told (holding_at (edited key_cmp paths before) q) (holding_at before q) (find key_cmp q edits) (find key_cmp q paths) (find key_cmp q resvs) (holding_most (attr_at (edited key_cmp paths before) q))
      (subst (λ o. IfSome o (λ (fact : ResvFact). IsOk (flowspec_rate fact.flowspec))) (find-edited key_cmp key_total q edits resvs)
      (find-all key_cmp (λ (fact : ResvFact). IsOk (flowspec_rate fact.flowspec)) q (edited key_cmp edits resvs) rated))))
