-- What a standing router's paths say of pending LSPs is what its tunnels say.
use Rattle.std.proofs.Common.{◌≡◌, ◌≤◌, ◌==◌, [], ◌∷◌, ℕ, Bool, T, true, false, if◌then◌else◌, List, map, Option, Some, None, option_map, refl, sym, ap, subst, ◌∙◌, arith, eqb→eq}
use Rattle.std.specs.Prelude.{IfSome}
use Rattle.std.specs.Option.{unwrap_or}
use Rattle.std.specs.List.{AllByRecursion}
use Rattle.std.specs.FinMap.Entries.{find}
use Rattle.rsvp_bodies.specs.declared.step.Step.{Step}
use Rattle.lsr_facts.specs.Orders.{key_cmp}
use Rattle.lsr_facts.specs.Tunnels.{IsPendingAs, IsTunnel, head_key}
use Rattle.lsr_facts.specs.declared.key.Key.{Key}
use Rattle.lsr_facts.specs.declared.path_fact.PathFact.{PathFact}
use Rattle.lsr_facts.specs.declared.router.Router.{Router}
use Rattle.lsr_facts.specs.declared.state.State.{State}
use Rattle.lsr_facts.specs.declared.tunnel.Tunnel.{Tunnel}
use Rattle.lsr_facts.specs.declared.tunnel.TunnelLsp.{TunnelLsp}
use Rattle.abstract_paths.specs.Soundness.{IsPendingSignalled, IsSignalled, IsStanding, asked_of}
use Rattle.fact_fields.specs.Tunnels.{id_of, untold_by}
use Rattle.journal_files.specs.Pending.{ArePendingTold, lsp_by, told_lsp, told_state, told_tunnel, untold_row, untold_state}

numbered : (id : ℕ) (tspec : List ℕ) → 1 ≤ id → untold_by id tspec ≡ Some (record { id = id; route = []; tspec = tspec })
numbered id tspec least = by_case (id == 0) refl where
  lsp : Bool → Option TunnelLsp
  lsp b = if b then None else Some (record { id = id; route = []; tspec = tspec })

  by_case : (b : Bool) → (id == 0) ≡ b → untold_by id tspec ≡ Some (record { id = id; route = []; tspec = tspec })
  by_case true e = let h : id ≡ 0 = eqb→eq id 0 (subst T (sym e) tt) in absurd (omega (arith, h, least))
  by_case false e = ap lsp e

-- what a path that was asked for what an LSP is says of it
said : (lsp : TunnelLsp) (t : Tunnel) (found : Option PathFact) → option_map asked_of found ≡ Some (Some lsp.route, lsp.tspec) → lsp_by lsp.id t found ≡ lsp
said lsp t None e = cc
said lsp t (Some path) e =
    let same : asked_of path ≡ (Some lsp.route, lsp.tspec) = ap (λ (v : Option (Option (List Step) × List ℕ)). unwrap_or v (asked_of path)) e in
    (λ i. record { id = lsp.id; route = unwrap_or ((same i).0) []; tspec = (same i).1 })

pending_again : (r : Router) (paths : List (Key × PathFact)) (number : ℕ) (t : Tunnel) (pending : Option TunnelLsp) → IsPendingAs r t pending →
    IfSome pending (λ lsp. IsSignalled paths (head_key r number t.endpoint lsp.id) lsp) → option_map (λ lsp. told_lsp r paths number t lsp.id) (untold_by (id_of pending) t.current.tspec) ≡ pending
pending_again r paths number t None is signalled = refl
pending_again r paths number t (Some lsp) is signalled =
    ap (option_map (λ (l : TunnelLsp). told_lsp r paths number t l.id)) (numbered lsp.id t.current.tspec is.0.numbered)
    ∙ ap (λ (l : TunnelLsp). Some l) (said lsp t (find key_cmp (head_key r number t.endpoint lsp.id) paths) signalled)

rows_again : (r : Router) (paths : List (Key × PathFact)) (rows : List (ℕ × Tunnel)) → AllByRecursion (IsTunnel r) rows → AllByRecursion (IsPendingSignalled r paths) rows → map (told_tunnel r paths) (map untold_row rows) ≡ rows
rows_again r paths [] all signalled = refl
rows_again r paths (row ∷ rows) all signalled =
    let here = pending_again r paths row.0 row.1 row.1.pending all.0.pending signalled.0 in
    let others = rows_again r paths rows all.1 signalled.1 in
    (λ i. (row.0, record row.1 { pending = here i }) ∷ others i)

pub standing_told : (r : Router) (s : State) → IsStanding r s.facts → ArePendingTold r s
standing_told r s standing =
    let again = rows_again r s.facts.paths s.facts.tunnels standing.tunnels.each standing.pending in
    sym (λ i. record s { facts = record s.facts { tunnels = again i } })
