-- Changes that lead to the label table of a router.
use Rattle.std.specs.Prelude.{◌≡◌, ◌≢◌, ◌==◌, ℕ, ◌≤◌, ◌<◌, Bool, true, false, cond, All, IfSome, List, [], ◌∷◌, ◌++◌, Option, Some, None, find}
use Rattle.std.specs.FinMap.Entries as rows
use Rattle.std.specs.Cmp.{unsigned_tied}
use Rattle.std.specs.List.{AllByRecursion}
use Rattle.std.specs.Option.{option_map}
use Rattle.std.specs.Ordering.{eq_by_cmp, nat_cmp}
use Rattle.std.proofs.Common.{refl, ap, subst, sym, ◌∙◌}
use Rattle.std.proofs.lemmas.Bool.{eq-eqb, eqb-false, eqb-true, ne_eqb}
use Rattle.std.proofs.lemmas.List.Elements.{All-cons, All-head, All-nil, All-tail}
use Rattle.std.proofs.lemmas.Cmp.{nat_cmp_total}
use Rattle.sorted_rows.specs.EditLaws.{find-edited}
use Rattle.sorted_rows.specs.Edits.{edited, over}
use Rattle.forwarding_table.specs.declared.action.Action.{Action}
use Rattle.lsr_facts.specs.declared.router.Router.{Router}
use Rattle.abstract_router.specs.States.{State}
use Rattle.abstract_router.specs.Tables.{look, look_tunnel, table_of, tunnel_table_of}
use Rattle.abstract_router.specs.Soundness.{IsSound}
use Rattle.lsr_facts.specs.Orders.{key_cmp}
use Rattle.router_soundness.proofs.Entries.{entry_stands}
use Rattle.sorted_rows.specs.RowsLaws.{find-all}
use Rattle.router_core.specs.Below.labels.Rows.{AreTableEdits}
use Rattle.router_core.specs.Below.labels.TunnelRows.{AreTunnelEdits}
use Rattle.lookup_plane.specs.Changes as changes
use Rattle.lookup_plane.specs.ChangesLaws.{look_added, look_tunnel_added}
use Rattle.lookup_plane.specs.declared.change.TableChange.{TableChange}
use Rattle.run_journal.specs.Journals.{LeadToTable}

-- two numbers tie where they are the same
same_test : (a b : ℕ) → eq_by_cmp nat_cmp a b ≡ (b == a)
same_test a b = unsigned_tied a b ∙ elim (a == b) as (λ t. (a == b) ≡ t → t ≡ (b == a)) [
  | true ↦ λ is. sym (eq-eqb b a (sym (eqb-true a b is)))
  | false ↦ λ is. sym (ne_eqb b a (λ e. eqb-false a b is (sym e)))
] refl

first_found : (label : ℕ) (es : List (ℕ × Action)) → rows.find nat_cmp label es ≡ option_map (λ entry. entry.1) (find (λ entry. entry.0 == label) es)
first_found label [] = refl
first_found label (e ∷ es) =
    ap (λ test. cond test (Some e.1) (rows.find nat_cmp label es)) (same_test label e.0)
    ∙ elim (e.0 == label) as (λ test. cond test (Some e.1) (rows.find nat_cmp label es) ≡ option_map (λ entry. entry.1) (cond test (Some e) (find (λ entry. entry.0 == label) es))) [
      | true ↦ refl
      | false ↦ first_found label es
    ]

module _ (r : Router) (before after : State) (list : List TableChange) (labels tunnels : List (ℕ × Option Action)) (are : LeadToTable r before list) where
  -- edits of a step
  pub edited_are : AreTableEdits r before after labels → AreTunnelEdits r before after tunnels → LeadToTable r after (list ++ (record { cleared = false; labels = labels; tunnels = tunnels }) ∷ [])
  unfolding look look_tunnel
  edited_are label_edits tunnel_edits = record {
    labels = λ label.
        look_added list (record { cleared = false; labels = labels; tunnels = tunnels }) label
        ∙ ap (over (rows.find nat_cmp label labels)) (are.labels label ∙ sym (first_found label (table_of r before)))
        ∙ sym (find-edited nat_cmp nat_cmp_total label labels (table_of r before))
        ∙ label_edits.table (table_of r before) (λ l. first_found l (table_of r before)) label;
    tunnels = λ number.
        look_tunnel_added list (record { cleared = false; labels = labels; tunnels = tunnels }) number
        ∙ ap (over (rows.find nat_cmp number tunnels)) (are.tunnels number)
        ∙ sym (find-edited nat_cmp nat_cmp_total number tunnels (tunnel_table_of r before))
        ∙ ap (rows.find nat_cmp number) tunnel_edits.table;
  }

-- a label that something is done with is of the router's range
within : (r : Router) (s : State) (label : ℕ) (o : Option Action) → IsSound r s → look r s label ≡ o → (o ≢ None) → (r.labels.first ≤ label) × (label ≤ r.labels.last)
within r s label None sound is some = absurd (some refl)
within r s label (Some action) sound is some =
    let entry = entry_stands r s label action sound is in (
      subst (λ o. IfSome o (λ l. r.labels.first ≤ l)) entry.held (find-all key_cmp (λ l. r.labels.first ≤ l) entry.key s.labels sound.labels.from_first),
      subst (λ o. IfSome o (λ l. l ≤ r.labels.last)) entry.held (find-all key_cmp (λ l. l ≤ r.labels.last) entry.key s.labels sound.labels.to_last),
    )

either : (r : Router) (before after : State) (label : ℕ) (o : Option Action) → IsSound r before → IsSound r after → look r before label ≡ o → look r before label ≢ look r after label → (r.labels.first ≤ label) × (label ≤ r.labels.last)
either r before after label (Some action) sound now is other = within r before label (Some action) sound is (λ e. cc)
either r before after label None sound now is other = within r after label (look r after label) now refl (λ e. other (is ∙ sym e))

-- so edits of a step are of the router's labels
pub in_range : (r : Router) (before after : State) (edits : List (ℕ × Option Action)) → IsSound r before → IsSound r after → All (λ edit. look r before edit.0 ≢ look r after edit.0) edits
    → All (λ edit. (r.labels.first ≤ edit.0) × (edit.0 ≤ r.labels.last)) edits
in_range r before after [] sound now all = All-nil (λ edit. (r.labels.first ≤ edit.0) × (edit.0 ≤ r.labels.last))
in_range r before after (edit ∷ edits) sound now all =
    All-cons (λ edit. (r.labels.first ≤ edit.0) × (edit.0 ≤ r.labels.last)) edit edits
    (either r before after edit.0 (look r before edit.0) sound now refl (All-head (λ edit. look r before edit.0 ≢ look r after edit.0) edit edits all))
    (in_range r before after edits sound now (All-tail (λ edit. look r before edit.0 ≢ look r after edit.0) edit edits all))
