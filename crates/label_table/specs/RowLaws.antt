-- What a state's label table has for a label: the action of the LSP that holds it.
use Rattle.std.specs.Prelude.{◌≡◌, ℕ, ◌==◌, ◌+◌, ◌≤◌, Bool, true, false, cond, nat_eq, T, List, [], ◌∷◌, filter_map, find as find_first, map, Option, Some, None, length}
use Rattle.std.specs.FinMap.Entries.{find, is_sorted}
use Rattle.std.specs.List.{IsDistinct, cons_option}
use Rattle.std.specs.Option.{option_and_then, option_map, unwrap_or}
use Rattle.std.specs.Ordering.{eq_by_cmp, is_eq}
use Rattle.std.proofs.Common.{refl, sym, ap, subst, ◌∙◌, arith}
use Rattle.std.proofs.lemmas.Bool.{eq-eqb, eqb-true}
use Rattle.std.proofs.lemmas.Cmp.{tied_itself}
use Rattle.std.proofs.lemmas.List.{length-map}
use Rattle.sorted_rows.specs.Rows.{values_of}
use Rattle.sorted_rows.specs.RowsLaws.{find-behind, second, ties}
use Rattle.lsr_facts.specs.OrderLaws.{key_exact, key_total}
use Rattle.lsr_facts.specs.Orders.{key_cmp}
use Rattle.lsr_facts.specs.declared.key.Key.{Key}
use Rattle.lsr_facts.specs.declared.path_fact.PathFact.{PathFact}
use Rattle.lsr_facts.specs.declared.router.Router.{Router}
use Rattle.forwarding_table.specs.declared.action.Action.{Action}
use Rattle.forwarding_table.specs.declared.action.Action.TheVariants.{Pop}
use Rattle.abstract_router.specs.BypassTunnels.{bypass_tunnels_of}
use Rattle.abstract_router.specs.LspLaws.{AreAlike, look-alike}
use Rattle.abstract_router.specs.Lsps.{Around, Lsp, around_of, lsp_of, lsps_of}
use Rattle.abstract_router.specs.States.{State}
use Rattle.abstract_router.specs.Tables.{action_of, entry_of, look, table_of}
use Rattle.label_space.specs.BindingLaws.{one_key, unheld-not_found}
use Rattle.label_space.specs.FreeLabels.{is_held}
use Rattle.label_table.specs.Rows.{IsTableOf, action_at}

-- the action of the first entry of a label
abbrev first_of : ℕ → List (ℕ × Action) → Option Action
first_of label entries = option_map (λ entry. entry.1) (find_first (λ entry. entry.0 == label) entries)

-- an entry of another label is passed over
passed_over : (label : ℕ) (o : Option (ℕ × Action)) (entries : List (ℕ × Action)) → ((action : Action) → o ≡ Some (label, action) → ⊥) → first_of label (cons_option o entries) ≡ first_of label entries
passed_over label None entries other = refl
passed_over label (Some entry) entries other = by (entry.0 == label) refl
  where
    by : (b : Bool) → (entry.0 == label) ≡ b → option_map (λ (e : ℕ × Action). e.1) (cond b (Some entry) (find_first (λ e. e.0 == label) entries)) ≡ first_of label entries
    by true same = absurd (other entry.1 (λ i. Some (eqb-true entry.0 label same i, entry.1)))
    by false apart = refl

-- and the first one of the label counts
first_counts : (label : ℕ) (action : Action) (entries : List (ℕ × Action)) → first_of label ((label, action) ∷ entries) ≡ Some action
first_counts label action entries =
    ap (λ b. option_map (λ (e : ℕ × Action). e.1) (cond b (Some (label, action)) (find_first (λ e. e.0 == label) entries))) (eq-eqb label label refl)

-- the entry of an LSP is under the label that it holds
entry_held : (a : Around) (lsp : Lsp) (label : ℕ) (action : Action) → entry_of a lsp ≡ Some (label, action) → lsp.label ≡ Some label
entry_held a lsp label action = by lsp.label refl
  where
    own : (held : ℕ) (o : Option Action) → option_map {U = ℕ × Action} (λ (acts : Action). (held, acts)) o ≡ Some (label, action) → held ≡ label
    own held None e = absurd (let h = e in cc)
    own held (Some acts) e = ap (λ (o : Option (ℕ × Action)). (unwrap_or o (0, Pop)).0) e

    by : (o : Option ℕ) → lsp.label ≡ o → option_and_then (λ (l : ℕ). option_map {U = ℕ × Action} (λ (acts : Action). (l, acts)) (action_of a lsp)) o ≡ Some (label, action) → lsp.label ≡ Some label
    by None none e = absurd (let h = e in cc)
    by (Some held) at e = at ∙ ap Some (own held (action_of a lsp) e)

module _ (r : Router) (s : State) (label : ℕ) where
  -- the entries of the LSPs of these paths
  abbrev entries : List (Key × PathFact) → List (ℕ × Action)
  entries paths = filter_map (λ (lsp : Key × Lsp). entry_of (around_of r s) lsp.1) (map (λ (path : Key × PathFact). (path.0, lsp_of s path.0 path.1)) paths)

  -- no LSP has an entry for a label that none holds
  none_of_paths : is_held s.labels label ≡ false → (paths : List (Key × PathFact)) → first_of label (entries paths) ≡ None
  none_of_paths unheld [] = refl
  none_of_paths unheld (path ∷ paths) =
      passed_over label (entry_of (around_of r s) (lsp_of s path.0 path.1)) (entries paths) (λ action is. unheld-not_found s.labels label unheld path.0 (entry_held (around_of r s) (lsp_of s path.0 path.1) label action is))
      ∙ none_of_paths unheld paths

  module _ (apart : IsDistinct nat_eq (values_of s.labels)) (key : Key) (held : find key_cmp key s.labels ≡ Some label) where
    -- the entry of the LSP that holds the label
    own_entry : (path : PathFact) → entry_of (around_of r s) (lsp_of s key path) ≡ option_map (λ action. (label, action)) (action_of (around_of r s) (lsp_of s key path))
    own_entry path = ap (option_and_then (λ l. option_map (λ action. (l, action)) (action_of (around_of r s) (lsp_of s key path)))) held

    -- it is the first of the label, if there is one
    own_first : (o : Option Action) (rows : List (ℕ × Action)) → first_of label rows ≡ None → first_of label (cons_option (option_map (λ action. (label, action)) o) rows) ≡ o
    own_first None rows none = none
    own_first (Some action) rows none = first_counts label action rows

    -- among LSPs the label has the action of that one
    among_paths : (paths : List (Key × PathFact)) → T (is_sorted key_cmp paths) → first_of label (entries paths) ≡ option_and_then (action_of (around_of r s)) (option_map (lsp_of s key) (find key_cmp key paths))
    among_paths [] h = refl
    among_paths (path ∷ paths) h =
        let rest = among_paths paths (second _ _ h) in
        elim (eq_by_cmp key_cmp key path.0) as (λ b. eq_by_cmp key_cmp key path.0 ≡ b → first_of label (cons_option (entry_of (around_of r s) (lsp_of s path.0 path.1)) (entries paths)) ≡ option_and_then (action_of (around_of r s)) (option_map (lsp_of s key) (cond b (Some path.1) (find key_cmp key paths)))) [
          | true ↦ λ tie. by_key path paths h rest (key_exact key path.0 (ties _ tie))
          | false ↦ λ other. passed_over label (entry_of (around_of r s) (lsp_of s path.0 path.1)) (entries paths) (λ action is. not_tied path.0 other (one_key s.labels apart key path.0 label held (entry_held (around_of r s) (lsp_of s path.0 path.1) label action is))) ∙ rest
        ] refl
      where
        not_tied : (q : Key) → eq_by_cmp key_cmp key q ≡ false → key ≡ q → ⊥
        not_tied q other same = absurd (let e = subst (λ k. eq_by_cmp key_cmp key k ≡ false) (sym same) other in let t = ap is_eq (tied_itself key_total key) in cc)

        by_key : (path : Key × PathFact) (paths : List (Key × PathFact)) → T (is_sorted key_cmp (path ∷ paths)) → first_of label (entries paths) ≡ option_and_then (action_of (around_of r s)) (option_map (lsp_of s key) (find key_cmp key paths)) → key ≡ path.0 → first_of label (cons_option (entry_of (around_of r s) (lsp_of s path.0 path.1)) (entries paths)) ≡ action_of (around_of r s) (lsp_of s key path.1)
        by_key path paths h rest same =
            let behind : find key_cmp key paths ≡ None = find-behind key_cmp key_total key path paths h (subst (λ k. key_cmp key k ≡ key_cmp key key) same refl ∙ tied_itself key_total key) in
            ap (λ k. first_of label (cons_option (entry_of (around_of r s) (lsp_of s k path.1)) (entries paths))) (sym same)
            ∙ ap (λ o. first_of label (cons_option o (entries paths))) (own_entry path.1)
            ∙ own_first (action_of (around_of r s) (lsp_of s key path.1)) (entries paths) (rest ∙ ap (λ (o : Option PathFact). option_and_then (action_of (around_of r s)) (option_map (lsp_of s key) o)) behind)

-- A label that no LSP holds has no action.
pub look-unheld : (r : Router) (s : State) (label : ℕ) → is_held s.labels label ≡ false → look r s label ≡ None
unfolding look table_of lsps_of
look-unheld r s label unheld = none_of_paths r s label unheld s.facts.paths

-- A label that an LSP holds has the action of that LSP.
pub look-held : (r : Router) (s : State) → T (is_sorted key_cmp s.facts.paths) → IsDistinct nat_eq (values_of s.labels) → (key : Key) (label : ℕ) → find key_cmp key s.labels ≡ Some label → look r s label ≡ action_at r s key
unfolding look table_of lsps_of
look-held r s sorted apart key label held = among_paths r s label apart key held s.facts.paths sorted

-- a label has an action where it is among the entries
pub look-entry : (r : Router) (s : State) (label : ℕ) → look r s label ≡ first_of label (table_of r s)
unfolding look
look-entry r s label = refl

-- A router that knows no path has no actions.
pub table-no_path : (r : Router) (s : State) → s.facts.paths ≡ [] → IsTableOf r s []
unfolding look table_of lsps_of
table-no_path r s none label = sym (ap (λ paths. first_of label (entries r s label paths)) none)

-- What bypasses run over stands on the links that are up, on tunnels, on bypasses, on paths and on reservations alone.
pub bypass_tunnels-alike : (r : Router) (s t : State) → s.facts.up ≡ t.facts.up → s.facts.tunnels ≡ t.facts.tunnels → s.facts.bypasses ≡ t.facts.bypasses → s.facts.paths ≡ t.facts.paths → s.resvs ≡ t.resvs → bypass_tunnels_of r s ≡ bypass_tunnels_of r t
unfolding bypass_tunnels_of
bypass_tunnels-alike r s t up tunnels bypasses paths resvs =
    λ i. bypass_tunnels_of r (record s { facts = record s.facts { up = up i; tunnels = tunnels i; bypasses = bypasses i; paths = paths i }; resvs = resvs i })

-- The label table stands on paths, on reservations, repairs and labels, and on what bypasses run over alone.
pub table-alike : (r : Router) (s t : State) (rows : List (ℕ × Action)) → bypass_tunnels_of r s ≡ bypass_tunnels_of r t → s.facts.paths ≡ t.facts.paths → AreAlike s t → IsTableOf r s rows → IsTableOf r t rows
table-alike r s t rows bypass_tunnels paths are is label = is label ∙ look-alike r s t label bypass_tunnels paths are

-- No more are given than are asked.
pub length_cons : {A : Type 0} (o : Option A) (xs : List A) → length (cons_option o xs) ≤ length xs + 1
length_cons None xs = omega arith
length_cons (Some x) xs = omega arith

pub length_asked : {A B : Type 0} (f : A → Option B) (xs : List A) → length (filter_map f xs) ≤ length xs
length_asked f [] = omega arith
length_asked f (x ∷ xs) = omega (arith, length_cons (f x) (filter_map f xs), length_asked f xs)

-- So there are no more entries than paths.
pub length_table : (r : Router) (s : State) → length (table_of r s) ≤ length s.facts.paths
unfolding table_of lsps_of
length_table r s =
    let lsps = length-map {B = Key × Lsp} s.facts.paths (λ row. (row.0, lsp_of s row.0 row.1)) in
    omega (arith, lsps, length_asked (λ (lsp : Key × Lsp). entry_of (around_of r s) lsp.1) (lsps_of s))
