-- What is found after edits, and that they keep the order.
use Rattle.std.specs.Prelude.{◌≡◌, ◌||◌, ℕ, not, Bool, true, false, cond, T, List, [], ◌∷◌, filter, Option, Some, None}
use Rattle.std.specs.FinMap.Entries.{find, is_sorted, put, where_key}
use Rattle.std.specs.Option.{option_map}
use Rattle.std.specs.Ordering.{is_eq, nat_cmp}
use Rattle.std.proofs.Common.{refl, sym, ap, subst, ◌∙◌}
use Rattle.std.proofs.lemmas.Cmp.{nat_cmp_total}
use Rattle.sorted_rows.specs.EditLaws.{edited-put, find-edited}
use Rattle.sorted_rows.specs.Edits as rows
use Rattle.sorted_rows.specs.Rows.{keys_of}
use Rattle.sorted_rows.specs.RowsLaws.{is_sorted-both, is_sorted-filter}
use Rattle.lsr_facts.specs.Lifetimes.{begins_here}
use Rattle.lsr_facts.specs.OrderLaws.{key_exact, key_total}
use Rattle.lsr_facts.specs.Orders.{key_cmp}
use Rattle.lsr_facts.specs.Timeless.{timeless_path}
use Rattle.lsr_facts.specs.declared.key.Key.{Key}
use Rattle.lsr_facts.specs.declared.path_fact.PathFact.{PathFact}
use Rattle.lsr_facts.specs.declared.tunnel.Tunnel.{Tunnel}
use Rattle.lsr_facts.specs.Reservations.{timeless_repair, timeless_resv}
use Rattle.abstract_paths.specs.StampLaws.{none-is}
use Rattle.abstract_paths.specs.Touched.{is_among}
use Rattle.abstract_router.specs.Labels.{labelled_keys}
use Rattle.abstract_router.specs.Lsps.{Lsp, lsp_at}
use Rattle.abstract_router.specs.States.{State, is_one_of}
use Rattle.state_views.specs.Edits.{edited, is_edited, without_rows}
use Rattle.state_views.specs.declared.edits.Edits.{Edits}

-- what is found after edits of tunnels
pub tunnel_edited : (number : ℕ) (edits : List (ℕ × Option Tunnel)) (tunnels : List (ℕ × Tunnel)) → find nat_cmp number (rows.edited nat_cmp edits tunnels) ≡ rows.over (find nat_cmp number edits) (find nat_cmp number tunnels)
tunnel_edited number edits tunnels = find-edited nat_cmp nat_cmp_total number edits tunnels

-- and of what LSPs have
pub row_edited : {X : Type 0} (key : Key) (edits : List (Key × Option X)) (before : List (Key × X)) → find key_cmp key (rows.edited key_cmp edits before) ≡ rows.over (find key_cmp key edits) (find key_cmp key before)
row_edited key edits before = find-edited key_cmp key_total key edits before

-- Labels are in the order of the LSPs, as paths are.
pub labels_in_order : (labels : List (Key × ℕ)) (paths : List (Key × PathFact)) → T (is_sorted key_cmp paths) → keys_of labels ≡ labelled_keys paths → T (is_sorted key_cmp labels)
labels_in_order labels paths sorted held =
    let kept = λ (path : Key × PathFact). not (begins_here path.1.role) in
    subst T (sym (is_sorted-both key_cmp labels (filter kept paths) held)) (is_sorted-filter key_cmp kept paths sorted)

-- rows without those of no LSP
pub without_none : {X : Type 0} (rows : List (Key × X)) → filter (λ row. not (is_one_of [] row.0)) rows ≡ rows
without_none [] = refl
without_none (row ∷ rows) = ap (λ l. row ∷ l) (without_none rows)

-- rows without one LSP's, and then without those of some, are those without all of these
pub without_more : {X : Type 0} (key : Key) (gone : List Key) (rows : List (Key × X)) → filter (λ row. not (is_one_of gone row.0)) (where_key key_cmp (λ other. not (is_eq (key_cmp key other))) rows) ≡ filter (λ row. not (is_one_of (key ∷ gone) row.0)) rows
without_more key gone [] = refl
without_more {X} key gone (row ∷ rows) =
    let left = where_key key_cmp (λ other. not (is_eq (key_cmp key other))) rows in
    let more = filter (λ (row : Key × X). not (is_one_of (key ∷ gone) row.0)) rows in
    let rest = without_more key gone rows in
    elim (is_eq (key_cmp key row.0)) as (λ b. filter (λ row. not (is_one_of gone row.0)) (cond (not b) (row ∷ left) left) ≡ cond (not (b || is_one_of gone row.0)) (row ∷ more) more) [
      | true ↦ rest
      | false ↦ ap (λ l. cond (not (is_one_of gone row.0)) (row ∷ l) l) rest
    ]

-- After edits by which some LSPs lose what they have, that of the others is left.
pub rows_without : {X : Type 0} (edits : List (Key × Option X)) (gone : List Key) (before : List (Key × X)) → T (is_sorted key_cmp before)
    → rows.edited key_cmp (without_rows edits gone) before ≡ filter (λ row. not (is_one_of gone row.0)) (rows.edited key_cmp edits before)
rows_without edits [] before h = sym (without_none (rows.edited key_cmp edits before))
rows_without edits (key ∷ gone) before h =
    rows_without (put key_cmp key None edits) gone before h
    ∙ ap (filter (λ row. not (is_one_of gone row.0))) (edited-put key_cmp key_total key_exact key None edits before h)
    ∙ without_more key gone (rows.edited key_cmp edits before)

-- neither of two tests passes
pub neither : (a b : Bool) → (a || b) ≡ false → (a ≡ false) × (b ≡ false)
neither true b e = absurd (let f = e in cc)
neither false b e = (refl, e)

-- The same is known of an LSP where path, label, reservation, repair and what it is promised are the same, but for when they
-- expire.
pub same_lsp : (s t : State) (key : Key) → find key_cmp key s.labels ≡ find key_cmp key t.labels
    → option_map timeless_resv (find key_cmp key s.resvs) ≡ option_map timeless_resv (find key_cmp key t.resvs)
    → option_map timeless_repair (find key_cmp key s.repairs) ≡ option_map timeless_repair (find key_cmp key t.repairs)
    → option_map timeless_path (find key_cmp key s.facts.paths) ≡ option_map timeless_path (find key_cmp key t.facts.paths)
    → find key_cmp key s.assignments ≡ find key_cmp key t.assignments
    → lsp_at s key ≡ lsp_at t key
same_lsp s t key label resv repair path assignment =
    of_path s (find key_cmp key s.facts.paths)
    ∙ (λ i. option_map (λ (p : PathFact). record { path = p; label = label i; resv = resv i; repair = repair i; assignment = assignment i }) (path i))
    ∙ sym (of_path t (find key_cmp key t.facts.paths))
  where
    of_path : (x : State) (o : Option PathFact)
        → option_map {U = Lsp} (λ p. record { path = timeless_path p; label = find key_cmp key x.labels; resv = option_map timeless_resv (find key_cmp key x.resvs); repair = option_map timeless_repair (find key_cmp key x.repairs); assignment = find key_cmp key x.assignments }) o
        ≡ option_map {U = Lsp} (λ p. record { path = p; label = find key_cmp key x.labels; resv = option_map timeless_resv (find key_cmp key x.resvs); repair = option_map timeless_repair (find key_cmp key x.repairs); assignment = find key_cmp key x.assignments }) (option_map timeless_path o)
    of_path x None = refl
    of_path x (Some p) = refl

-- what is found where there is no edit
as_before : {X : Type 0} (key : Key) (edits : List (Key × Option X)) (before : List (Key × X)) → is_among key_cmp edits key ≡ false → find key_cmp key before ≡ find key_cmp key (rows.edited key_cmp edits before)
as_before key edits before none =
    sym (row_edited key edits before ∙ ap (λ edit. rows.over edit (find key_cmp key before)) (none-is (find key_cmp key edits) none))

-- So it is where the LSP has no edit.
pub same_unedited : (s : State) (e : Edits) (key : Key) → is_edited e key ≡ false → lsp_at s key ≡ lsp_at (edited e s) key
same_unedited s e key none =
    let assignments = neither (is_among key_cmp e.assignments key) (is_among key_cmp e.labels key || (is_among key_cmp e.repairs key || (is_among key_cmp e.resvs key || is_among key_cmp e.paths key))) none in
    let labels = neither (is_among key_cmp e.labels key) (is_among key_cmp e.repairs key || (is_among key_cmp e.resvs key || is_among key_cmp e.paths key)) assignments.1 in
    let repairs = neither (is_among key_cmp e.repairs key) (is_among key_cmp e.resvs key || is_among key_cmp e.paths key) labels.1 in
    let resvs = neither (is_among key_cmp e.resvs key) (is_among key_cmp e.paths key) repairs.1 in
    same_lsp s (edited e s) key (as_before key e.labels s.labels labels.0)
    (ap (option_map timeless_resv) (as_before key e.resvs s.resvs resvs.0)) (ap (option_map timeless_repair) (as_before key e.repairs s.repairs repairs.0))
    (ap (option_map timeless_path) (as_before key e.paths s.facts.paths resvs.1)) (as_before key e.assignments s.assignments assignments.0)
