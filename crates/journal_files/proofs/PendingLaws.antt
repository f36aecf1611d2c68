-- Of pending LSPs a file says the IDs, and their paths the rest.
use Rattle.std.specs.Prelude.{◌≡◌, [], ◌∷◌, ℕ, List, map, Option, Some, None, option_map, refl}
use Rattle.std.specs.List.{AllByRecursion}
use Rattle.std.specs.FinMap.Entries.{find, is_sorted}
use Rattle.std.specs.Ordering.{nat_cmp}
use Rattle.sorted_rows.specs.RowsLaws.{is_sorted-both}
use Rattle.abstract_paths.specs.RowLaws.{keys-map}
use Rattle.std.proofs.Common.{T, ap, subst, sym, ◌∙◌}
use Rattle.field_bytes.specs.Making.{MadeFits}
use Rattle.field_bytes.specs.PairLaws.{PairFits}
use Rattle.lsr_facts.specs.Orders.{key_cmp}
use Rattle.lsr_facts.specs.Tunnels.{head_key}
use Rattle.lsr_facts.specs.declared.key.Key.{Key}
use Rattle.lsr_facts.specs.declared.path_fact.PathFact.{PathFact}
use Rattle.lsr_facts.specs.declared.router.Router.{Router}
use Rattle.lsr_facts.specs.declared.state.State.{State}
use Rattle.lsr_facts.specs.declared.tunnel.Tunnel.{Tunnel}
use Rattle.lsr_facts.specs.declared.tunnel.TunnelLsp.{TunnelLsp}
use Rattle.fact_fields.specs.Tunnels.{IsUntold, TunnelOf, id_of, pending_id, tunnel_parts, untold, untold_by}
use Rattle.journal_files.specs.Pending.{ArePendingTold, AreUntold, lsp_by, told_lsp, told_state, told_tunnel, untold_row, untold_state}

-- tunnels as a file has them are so
pub fitting_untold : (Number : ℕ → Type 0) (Fits : TunnelOf → Type 0) (tunnels : List (ℕ × Tunnel)) →
    AllByRecursion (PairFits Number (MadeFits IsUntold tunnel_parts Fits)) tunnels → AreUntold tunnels
fitting_untold Number Fits [] fit = tt
fitting_untold Number Fits (row ∷ rows) fit = (fit.0.1.0, fitting_untold Number Fits rows fit.1)

id_kept : (id : ℕ) (t : Tunnel) (path : Option PathFact) → (lsp_by id t path).id ≡ id
id_kept id t None = refl
id_kept id t (Some path) = refl

same_row : (r : Router) (paths : List (Key × PathFact)) (row : ℕ × Tunnel) → IsUntold row.1 → untold (told_tunnel r paths row).1 ≡ row.1
same_row r paths row is =
    let t = row.1 in
    let told = (told_tunnel r paths row).1 in
    let id : pending_id told ≡ pending_id t = same_id t.pending in
    (λ i. record t { pending = untold_by (id i) t.current.tspec }) ∙ (λ i. record t { pending = sym is i }) where
      same_id : (pending : Option TunnelLsp) → id_of (option_map (λ lsp. told_lsp r paths row.0 row.1 lsp.id) pending) ≡ id_of pending
      same_id None = refl
      same_id (Some lsp) = id_kept lsp.id row.1 (find key_cmp (head_key r row.0 row.1.endpoint lsp.id) paths)

untold_rows : (r : Router) (paths : List (Key × PathFact)) (rows : List (ℕ × Tunnel)) → AreUntold rows → map untold_row (map (told_tunnel r paths) rows) ≡ rows
untold_rows r paths [] all = refl
untold_rows r paths (row ∷ rows) all = λ i. (row.0, same_row r paths row all.0 i) ∷ untold_rows r paths rows all.1 i

-- what paths say is left out again
pub untold_told : (r : Router) (s : State) → AreUntold s.facts.tunnels → untold_state (told_state r s) ≡ s
untold_told r s all = λ i. record s { facts = record s.facts { tunnels = untold_rows r s.facts.paths s.facts.tunnels all i } }

-- and what they say is what they say
pub told_so : (r : Router) (s : State) → AreUntold s.facts.tunnels → ArePendingTold r (told_state r s)
told_so r s all = ap (told_state r) (sym (untold_told r s all))

-- the numbers of tunnels stay
pub told_rising : (r : Router) (paths : List (Key × PathFact)) (rows told : List (ℕ × Tunnel)) → told ≡ map (told_tunnel r paths) rows → T (is_sorted nat_cmp rows) → T (is_sorted nat_cmp told)
told_rising r paths rows told e sorted =
    subst T (sym (ap (is_sorted nat_cmp) e ∙ is_sorted-both nat_cmp (map (told_tunnel r paths) rows) rows (keys-map (λ (row : ℕ × Tunnel). (told_tunnel r paths row).1) rows))) sorted
