-- Each entry of the label table stands on a path that is known, and each of the table of tunnels on a tunnel.
use Rattle.std.specs.Prelude.{◌≡◌, ℕ, ◌==◌, true, false, cond, if◌then◌else◌, List, [], ◌∷◌, filter_map, find as find_first, map, Option, Some, None, is_some, IfSome}
use Rattle.std.specs.FinMap.Entries.{find}
use Rattle.std.specs.List.{AllByRecursion, cons_option}
use Rattle.std.specs.Option.{option_and_then, option_map, option_map_or, option_or, unwrap_or}
use Rattle.std.specs.Ordering.{nat_cmp}
use Rattle.std.proofs.Common.{refl, ap, sym, subst, ◌∙◌, inl, inr}
use Rattle.std.proofs.lemmas.Bool.{and_parts, eqb-true}
use Rattle.std.proofs.lemmas.Cmp.{nat_cmp_total}
use Rattle.std.proofs.lemmas.Map.Lookups.{exact_unsigned}
use Rattle.sorted_rows.specs.RowsLaws.{all_found, find-all_row}
use Rattle.lsr_facts.specs.OrderLaws.{key_exact, key_total}
use Rattle.lsr_facts.specs.Orders.{key_cmp}
use Rattle.lsr_facts.specs.Tunnels.{current_key}
use Rattle.lsr_facts.specs.declared.key.Key.{Key}
use Rattle.lsr_facts.specs.declared.path_fact.PathFact.{PathFact}
use Rattle.lsr_facts.specs.declared.router.Router.{Router}
use Rattle.lsr_facts.specs.declared.tunnel.Tunnel.{Tunnel}
use Rattle.forwarding_table.specs.declared.action.Action.{Action}
use Rattle.forwarding_table.specs.declared.action.Action.TheVariants.{Pop, PushHead, SwapPush}
use Rattle.lsr_facts.specs.Reservations.{timeless_repair, timeless_resv}
use Rattle.lsr_facts.specs.declared.repair.Over.{Over}
use Rattle.lsr_facts.specs.declared.repair.Repair.{Repair}
use Rattle.lsr_facts.specs.declared.resv_fact.ResvFact.{ResvFact}
use Rattle.abstract_paths.specs.Paths.{goes_on}
use Rattle.abstract_paths.specs.Places.{is_up}
use Rattle.abstract_paths.specs.Tears.{leaves_by}
use Rattle.abstract_paths.specs.TouchedLaws.{find-made}
use Rattle.abstract_router.specs.BypassTunnels.{bypass_tunnels_of, over_at}
use Rattle.abstract_router.specs.Lsps.{Lsp, around_of, lsp_of, lsps_of}
use Rattle.abstract_router.specs.Soundness.{IsSound}
use Rattle.abstract_router.specs.States.{State, is_repaired, is_reserved}
use Rattle.abstract_router.specs.Steps.{stands}
use Rattle.abstract_router.specs.Tables.{IsActionOf, IsEntry, IsPushOf, IsTunnelEntry, action_of, entry_of, look, look_tunnel, push_by, push_of, push_through, swap_by, swap_through, table_of, tunnel_table_of}
use Rattle.router_soundness.proofs.Selecting.{over_at-up}

module _ (r : Router) (s : State) (is : IsSound r s) where
  -- a reservation that is found is over a link that is up
  over_up : (key : Key) (resv : ResvFact) → find key_cmp key s.resvs ≡ Some resv → is_up s.facts.up resv.link ≡ true
  over_up key resv found =
      let stands : stands s.facts (key, resv) ≡ true = subst (λ o. IfSome o (λ v. stands s.facts (key, v) ≡ true)) found (find-all_row key_cmp key_exact (λ v. stands s.facts v ≡ true) key s.resvs is.standing) in
      (and_parts (is_up s.facts.up resv.link) (option_map_or (leaves_by resv.link) (find key_cmp key s.facts.paths) false) stands).0

  -- the action of a path that it has
  of_path : (key : Key) (path : PathFact) (action : Action) → action_of (around_of r s) (lsp_of s key path) ≡ Some action → IsActionOf r s key path action
  of_path key path action =
      elim (goes_on path.role) as (λ b. goes_on path.role ≡ b → (if b then option_or (option_map swap_by (option_map timeless_resv (find key_cmp key s.resvs))) (option_and_then (swap_through (bypass_tunnels_of r s)) (option_map timeless_repair (find key_cmp key s.repairs))) else Some Pop) ≡ Some action → IsActionOf r s key path action) [
        | true ↦ λ goes. by_resv (find key_cmp key s.resvs) refl
        | false ↦ λ ends. λ e. inl (ends, let h = e in cc)
      ] refl
    where
      by_over : (repair : Repair) → find key_cmp key s.repairs ≡ Some repair → (o : Option Over) → over_at (bypass_tunnels_of r s) repair.bypass ≡ o
          → option_map (λ over. SwapPush repair.resv.label over.label over.link) o ≡ Some action → IsActionOf r s key path action
      by_over repair found None down e = absurd (let h = e in cc)
      by_over repair found (Some over) up e = inr (inr (record { repair = repair; repaired = found; over = over; bypass = up; up = over_at-up r s repair.bypass over up }, let h = e in cc))

      by_repair : (o : Option Repair) → find key_cmp key s.repairs ≡ o → option_and_then (swap_through (bypass_tunnels_of r s)) (option_map timeless_repair o) ≡ Some action → IsActionOf r s key path action
      by_repair None found e = absurd (let h = e in cc)
      by_repair (Some repair) found e = by_over repair found (over_at (bypass_tunnels_of r s) repair.bypass) refl e

      by_resv : (o : Option ResvFact) → find key_cmp key s.resvs ≡ o
          → option_or (option_map swap_by (option_map timeless_resv o)) (option_and_then (swap_through (bypass_tunnels_of r s)) (option_map timeless_repair (find key_cmp key s.repairs))) ≡ Some action → IsActionOf r s key path action
      by_resv None found e = by_repair (find key_cmp key s.repairs) refl e
      by_resv (Some resv) found e = inr (inl (record { resv = resv; reserved = found; up = over_up key resv found }, let h = e in cc))

  -- the entry of a path that is known
  of_entry : (path : Key × PathFact) (label : ℕ) (action : Action) → find key_cmp path.0 s.facts.paths ≡ Some path.1 → entry_of (around_of r s) (lsp_of s path.0 path.1) ≡ Some (label, action) → IsEntry r s label action
  of_entry path label action known = by (find key_cmp path.0 s.labels) refl
    where
      by_action : (held : ℕ) → find key_cmp path.0 s.labels ≡ Some held → (o : Option Action) → action_of (around_of r s) (lsp_of s path.0 path.1) ≡ o → option_map {U = ℕ × Action} (λ (a : Action). (held, a)) o ≡ Some (label, action) → IsEntry r s label action
      by_action held at None none e = absurd (let h = e in cc)
      by_action held at (Some a) some e =
          let same_label : held ≡ label = ap (λ (o : Option (ℕ × Action)). (unwrap_or o (0, Pop)).0) e in
          let same_action : a ≡ action = ap (λ (o : Option (ℕ × Action)). (unwrap_or o (0, Pop)).1) e in
          record { key = path.0; path = path.1; known = known; held = at ∙ ap Some same_label; stands = of_path path.0 path.1 action (some ∙ ap Some same_action) }

      by : (o : Option ℕ) → find key_cmp path.0 s.labels ≡ o → option_and_then (λ (l : ℕ). option_map {U = ℕ × Action} (λ (a : Action). (l, a)) (action_of (around_of r s) (lsp_of s path.0 path.1))) o ≡ Some (label, action) → IsEntry r s label action
      by None none e = absurd (let h = e in cc)
      by (Some held) at e = by_action held at (action_of (around_of r s) (lsp_of s path.0 path.1)) refl e

  -- the entries of the LSPs of these paths
  abbrev entries : List (Key × PathFact) → List (ℕ × Action)
  entries paths = filter_map (λ (lsp : Key × Lsp). entry_of (around_of r s) lsp.1) (map (λ (path : Key × PathFact). (path.0, lsp_of s path.0 path.1)) paths)

  -- one of the entries of paths that are known
  of_entries : (label : ℕ) (action : Action) (paths : List (Key × PathFact)) → AllByRecursion (λ path. find key_cmp path.0 s.facts.paths ≡ Some path.1) paths
      → option_map (λ entry. entry.1) (find_first (λ entry. entry.0 == label) (entries paths)) ≡ Some action → IsEntry r s label action
  of_entries label action [] known = λ e. absurd (let h = e in cc)
  of_entries label action (path ∷ paths) known =
      elim (entry_of (around_of r s) (lsp_of s path.0 path.1)) as (λ o. entry_of (around_of r s) (lsp_of s path.0 path.1) ≡ o → option_map (λ entry. entry.1) (find_first (λ entry. entry.0 == label) (cons_option o (entries paths))) ≡ Some action → IsEntry r s label action) [
        | None ↦ λ none. λ e. of_entries label action paths known.1 e
        | Some entry ↦ λ some. elim (entry.0 == label) as (λ b. (entry.0 == label) ≡ b → option_map (λ entry. entry.1) (cond b (Some entry) (find_first (λ entry. entry.0 == label) (entries paths))) ≡ Some action → IsEntry r s label action) [
          | true ↦ λ on. λ e. of_entry path label action known.0 (some ∙ (λ i. Some (eqb-true entry.0 label on i, (let h : entry.1 ≡ action = let h = e in cc in h) i)))
          | false ↦ λ off. λ e. of_entries label action paths known.1 e
        ] refl
      ] refl

  -- what is done with the traffic of a tunnel whose current LSP this is
  of_head : (key : Key) (action : Action) → option_or (option_map push_by (find key_cmp key s.resvs)) (option_and_then (push_through (bypass_tunnels_of r s)) (find key_cmp key s.repairs)) ≡ Some action → IsPushOf r s key action
  of_head key action = by_resv (find key_cmp key s.resvs) refl
    where
      by_over : (repair : Repair) → find key_cmp key s.repairs ≡ Some repair → (o : Option Over) → over_at (bypass_tunnels_of r s) repair.bypass ≡ o
          → option_map (λ over. PushHead (Some repair.resv.label) over.label over.link) o ≡ Some action → IsPushOf r s key action
      by_over repair found None down e = absurd (let h = e in cc)
      by_over repair found (Some over) up e = inr (record { repair = repair; repaired = found; over = over; bypass = up; up = over_at-up r s repair.bypass over up }, let h = e in cc)

      by_repair : (o : Option Repair) → find key_cmp key s.repairs ≡ o → option_and_then (push_through (bypass_tunnels_of r s)) o ≡ Some action → IsPushOf r s key action
      by_repair None found e = absurd (let h = e in cc)
      by_repair (Some repair) found e = by_over repair found (over_at (bypass_tunnels_of r s) repair.bypass) refl e

      by_resv : (o : Option ResvFact) → find key_cmp key s.resvs ≡ o → option_or (option_map push_by o) (option_and_then (push_through (bypass_tunnels_of r s)) (find key_cmp key s.repairs)) ≡ Some action → IsPushOf r s key action
      by_resv None found e = by_repair (find key_cmp key s.repairs) refl e
      by_resv (Some resv) found e = inl (record { resv = resv; reserved = found; up = over_up key resv found }, let h = e in cc)

-- Each entry of the table of tunnels stands on a tunnel that is known, and on a reservation or a repair of its current LSP.
pub tunnel_entry_stands : (r : Router) (s : State) (number : ℕ) (action : Action) → IsSound r s → look_tunnel r s number ≡ Some action → IsTunnelEntry r s number action
unfolding look_tunnel tunnel_table_of
tunnel_entry_stands r s number action is at =
    by (find nat_cmp number s.facts.tunnels) refl (sym (find-made nat_cmp nat_cmp_total exact_unsigned (push_of r s) number s.facts.tunnels is.paths.tunnels.in_order) ∙ at)
  where
    by : (o : Option Tunnel) → find nat_cmp number s.facts.tunnels ≡ o → option_and_then (λ (t : Tunnel). push_of r s (number, t)) o ≡ Some action → IsTunnelEntry r s number action
    by None none e = absurd (let h = e in cc)
    by (Some tunnel) known e = record { tunnel = tunnel; known = known; stands = of_head r s is (current_key r (number, tunnel)) action e }

-- Each entry of the table stands on a path that is known.
pub entry_stands : (r : Router) (s : State) (label : ℕ) (action : Action) → IsSound r s → look r s label ≡ Some action → IsEntry r s label action
unfolding look table_of lsps_of
entry_stands r s label action is = of_entries r s is label action s.facts.paths (all_found key_cmp key_total s.facts.paths is.paths.paths.in_order)

-- No LSP is both reserved and repaired.
pub reserved_or_repaired : (r : Router) (s : State) (key : Key) → IsSound r s → is_repaired s key ≡ true → is_reserved s key ≡ false
reserved_or_repaired r s key is = by (find key_cmp key s.repairs) (find-all_row key_cmp key_exact (λ (repair : Key × Repair). find key_cmp repair.0 s.resvs ≡ None) key s.repairs is.repaired.apart)
  where
    by : (o : Option Repair) → IfSome o (λ repair. find key_cmp key s.resvs ≡ None) → is_some o ≡ true → is_some (find key_cmp key s.resvs) ≡ false
    by None apart repaired = absurd (let e = repaired in cc)
    by (Some repair) apart repaired = ap is_some apart
