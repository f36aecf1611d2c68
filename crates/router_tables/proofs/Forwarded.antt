-- Whether anything is forwarded, by the rows of both tables.
use Rattle.std.proofs.Common.{◌≡◌, ℕ, Bool, ◌<◌, ◌≤◌, nat_lt, arith, List, [], ◌∷◌, length, Some, None, refl, sym, ap, subst, ◌∙◌}
use Rattle.std.specs.FinMap.Entries.{find}
use Rattle.std.specs.Ordering.{nat_cmp}
use Rattle.std.proofs.lemmas.Bool.{lt-ltb}
use Rattle.std.proofs.lemmas.Cmp.{nat_cmp_total}
use Rattle.sorted_rows.specs.RowsLaws.{find-first}
use Rattle.forwarding_table.specs.declared.action.Action.{Action}
use Rattle.lsr_facts.specs.declared.router.Router.{Router}
use Rattle.abstract_router.specs.States.{State}
use Rattle.abstract_router.specs.Tables.{ForwardAlike, TellsChange, look_tunnel, tunnel_table_of}
use Rattle.label_table.specs.RowLaws.{table-no_path}
use Rattle.label_table.specs.Rows.{IsTableOf}
use Rattle.label_table.specs.TunnelLaws.{tunnel_table-none}
use Rattle.router_tables.specs.States.{emptied}

module _ (r : Router) (s : State) where
  -- where there are no rows, nothing changes
  pub none_forwarded : (labels tunnels : List (ℕ × Action)) → labels ≡ [] → tunnels ≡ [] → IsTableOf r s labels → tunnels ≡ tunnel_table_of r s → ForwardAlike r s (emptied s)
  unfolding look_tunnel
  none_forwarded labels tunnels no_label no_tunnel table tunnel_table = (
    λ label. sym (table label) ∙ ap (find nat_cmp label) no_label ∙ table-no_path r (emptied s) refl label,
    λ number. ap (find nat_cmp number) (sym tunnel_table ∙ no_tunnel ∙ sym (tunnel_table-none r (emptied s) refl refl)),
  )

  -- a label that has an action loses it
  pub label_forwarded : (row : ℕ × Action) (labels : List (ℕ × Action)) → IsTableOf r s (row ∷ labels) → ForwardAlike r s (emptied s) → ⊥
  label_forwarded row labels table alike =
      let had = sym (find-first nat_cmp nat_cmp_total row labels) ∙ table row.0 ∙ alike.0 row.0 ∙ sym (table-no_path r (emptied s) refl row.0) in
      (let lost : Some row.1 ≡ None = had in cc)

  -- and so does a tunnel
  pub tunnel_forwarded : (row : ℕ × Action) (tunnels : List (ℕ × Action)) → (row ∷ tunnels) ≡ tunnel_table_of r s → ForwardAlike r s (emptied s) → ⊥
  unfolding look_tunnel
  tunnel_forwarded row tunnels table alike =
      let had = sym (find-first nat_cmp nat_cmp_total row tunnels) ∙ ap (find nat_cmp row.0) table ∙ alike.1 row.0 ∙ ap (find nat_cmp row.0) (tunnel_table-none r (emptied s) refl refl) in
      (let lost : Some row.1 ≡ None = had in cc)

  -- So it is told by whether labels have rows,
  pub told_by_labels : (labels : List (ℕ × Action)) (n : ℕ) → IsTableOf r s labels → n ≡ length labels → 0 < n → TellsChange (nat_lt 0 n) r s (emptied s)
  told_by_labels [] n table is some = absurd (omega (arith, is, some))
  told_by_labels (row ∷ labels) n table is some = subst (λ (b : Bool). TellsChange b r s (emptied s)) (sym (lt-ltb 0 n some)) (label_forwarded row labels table)

  -- and else by whether tunnels have.
  pub told_by_tunnels : (labels tunnels : List (ℕ × Action)) (n m : ℕ) → IsTableOf r s labels → tunnels ≡ tunnel_table_of r s → n ≡ length labels → n ≤ 0 → m ≡ length tunnels → TellsChange (nat_lt 0 m) r s (emptied s)
  told_by_tunnels [] [] n m table tunnel_table is none has =
      subst (λ (b : Bool). TellsChange b r s (emptied s)) (sym (ap (nat_lt 0) has)) (none_forwarded [] [] refl refl table tunnel_table)
  told_by_tunnels [] (row ∷ tunnels) n m table tunnel_table is none has =
      let some : 0 < m = omega (arith, has) in
      subst (λ (b : Bool). TellsChange b r s (emptied s)) (sym (lt-ltb 0 m some)) (tunnel_forwarded row tunnels tunnel_table)
  told_by_tunnels (row ∷ labels) tunnels n m table tunnel_table is none has = absurd (omega (arith, is, none))
