-- Whether a change changes what is forwarded, by its edits of both tables.
use Rattle.std.proofs.Common.{◌≡◌, ◌≢◌, ◌==◌, ℕ, T, Bool, true, false, cond, not, length, List, [], ◌∷◌, Option, Some, refl, sym, ap, subst, ◌∙◌}
use Rattle.std.proofs.Math.Dec.{eqb→eq, eqb_refl}
use Rattle.std.specs.FinMap.Entries.{find}
use Rattle.std.specs.List as lists
use Rattle.std.specs.Option.{option_map}
use Rattle.std.specs.Ordering.{is_eq, nat_cmp}
use Rattle.std.proofs.lemmas.Cmp.{nat_cmp_total, tied_itself}
use Rattle.std.proofs.lemmas.Map.Lookups.{exact_unsigned}
use Rattle.sorted_rows.specs.Edits.{edited}
use Rattle.sorted_rows.specs.RowsLaws.{ties}
use Rattle.forwarding_table.specs.declared.action.Action.{Action}
use Rattle.lsr_facts.specs.declared.router.Router.{Router}
use Rattle.abstract_router.specs.States.{State}
use Rattle.abstract_router.specs.Tables.{ForwardAlike, TellsChange, look, look_tunnel, table_of, tunnel_table_of}
use Rattle.label_table.specs.Rows.{IsTableOf}
use Rattle.router_tables.specs.Changes.{IsChange, changed}
use Rattle.router_tables.specs.declared.change.Change.{Change}

-- two numbers tie where they are the same
same_test : (a b : ℕ) → is_eq (nat_cmp a b) ≡ (b == a)
same_test a b =
    elim (is_eq (nat_cmp a b)) as (λ tie. is_eq (nat_cmp a b) ≡ tie → tie ≡ (b == a)) [
      | true ↦ λ is. let same : a ≡ b = exact_unsigned a b (ties (nat_cmp a b) is) in sym (holds (b == a) (subst (λ n. T (n == a)) same (eqb_refl a)))
      | false ↦ λ is. elim (b == a) as (λ test. (b == a) ≡ test → false ≡ test) [
        | true ↦ λ test. let same : b ≡ a = eqb→eq b a (subst T (sym test) tt) in absurd (let e = sym is ∙ ap (λ n. is_eq (nat_cmp a n)) same ∙ ap is_eq (tied_itself nat_cmp_total a) in cc)
        | false ↦ λ test. refl
      ] refl
    ] refl
  where
    holds : (b : Bool) → T b → b ≡ true
    holds true h = refl
    holds false h = absurd h

-- the first row of a key is found by a test of equal numbers, too
first_found : (label : ℕ) (rows : List (ℕ × Action)) → find nat_cmp label rows ≡ option_map (λ entry. entry.1) (lists.find (λ entry. entry.0 == label) rows)
first_found label [] = refl
first_found label (row ∷ rows) =
    ap (λ test. cond test (Some row.1) (find nat_cmp label rows)) (same_test label row.0)
    ∙ elim (row.0 == label) as (λ test. cond test (Some row.1) (find nat_cmp label rows) ≡ option_map (λ entry. entry.1) (cond test (Some row) (lists.find (λ entry. entry.0 == label) rows))) [
      | true ↦ refl
      | false ↦ first_found label rows
    ]

-- so a state's own entries are rows of its label table
own_rows : (r : Router) (s : State) → IsTableOf r s (table_of r s)
unfolding look
own_rows r s label = first_found label (table_of r s)

module _ (r : Router) (s : State) (c : Change) (is : IsChange r s c) where
  -- where it edits neither table, nothing changes
  pub alike : c.table ≡ [] → c.tunnel_table ≡ [] → ForwardAlike r s (changed c s)
  unfolding look_tunnel
  alike no_label no_tunnel = (
    λ label. sym (own_rows r s label) ∙ ap (λ edits. find nat_cmp label (edited nat_cmp edits (table_of r s))) (sym no_label) ∙ is.table.table (table_of r s) (own_rows r s) label,
    λ number. ap (find nat_cmp number) (ap (λ edits. edited nat_cmp edits (tunnel_table_of r s)) (sym no_tunnel) ∙ is.tunnel_table.table),
  )

  -- where it edits one, something does
  pub label_changes : (edits : List (ℕ × Option Action)) → c.table ≡ edits → edits ≢ [] → ForwardAlike r s (changed c s) → ⊥
  label_changes edits are some same = some (sym are ∙ is.table.none same.0)

  pub tunnel_changes : (edits : List (ℕ × Option Action)) → c.tunnel_table ≡ edits → edits ≢ [] → ForwardAlike r s (changed c s) → ⊥
  tunnel_changes edits are some same = some (sym are ∙ is.tunnel_table.none same.1)

  -- an edit stands among edits that are counted
  none_counted : (edits : List (ℕ × Option Action)) → (length edits == 0) ≡ true → edits ≡ []
  none_counted [] is = refl
  none_counted (edit ∷ edits) is = absurd (let none = eqb→eq (length (edit ∷ edits)) 0 (subst T (sym is) tt) in cc)

  some_counted : (edits : List (ℕ × Option Action)) → (length edits == 0) ≡ false → edits ≢ []
  some_counted edits is none = let zero = sym (ap (λ (es : List (ℕ × Option Action)). length es == 0) none) ∙ is in cc

  -- So where it edits no label, it is told by its edits of tunnels.
  pub told_by_tunnel_edits : (first second : Bool) → first ≡ (length c.table == 0) → first ≡ true → second ≡ (length c.tunnel_table == 0) → TellsChange (not second) r s (changed c s)
  told_by_tunnel_edits true true first none second = alike (none_counted c.table (sym first)) (none_counted c.tunnel_table (sym second))
  told_by_tunnel_edits true false first none second = tunnel_changes c.tunnel_table refl (some_counted c.tunnel_table (sym second))
  told_by_tunnel_edits false second first none is = cc
