-- Laws of LSPs as a list in the order of their keys, and of the label table that they stand for.
use Rattle.std.specs.Prelude.{◌≡◌, ◌==◌, ℕ, Bool, not, T, List, filter_map, find as find_first, map}
use Rattle.std.specs.FinMap.Entries.{find, is_sorted, where_key}
use Rattle.std.specs.Option.{option_map}
use Rattle.std.proofs.Common.{sym, subst, ◌∙◌}
use Rattle.sorted_rows.specs.Rows.{keys_of}
use Rattle.sorted_rows.specs.RowsLaws.{is_sorted-both}
use Rattle.lsr_facts.specs.OrderLaws.{key_exact, key_total}
use Rattle.lsr_facts.specs.Orders.{key_cmp}
use Rattle.lsr_facts.specs.declared.key.Key.{Key}
use Rattle.lsr_facts.specs.declared.path_fact.PathFact.{PathFact}
use Rattle.lsr_facts.specs.declared.router.Router.{Router}
use Rattle.forwarding_table.specs.declared.action.Action.{Action}
use Rattle.abstract_paths.specs.Places.{place_of}
use Rattle.abstract_paths.specs.RowLaws.{keys-map}
use Rattle.abstract_paths.specs.StampLaws.{find-map_row}
use Rattle.abstract_paths.specs.Touched.{is_among}
use Rattle.abstract_paths.specs.TouchedLaws.{same_elsewhere, where_key-among}
use Rattle.abstract_router.specs.BypassTunnels.{bypass_tunnels_of}
use Rattle.abstract_router.specs.Lsps.{Lsp, lsp_at, lsp_of, lsps_of}
use Rattle.abstract_router.specs.States.{State}
use Rattle.abstract_router.specs.Tables.{entry_of, look, table_of}
use Rattle.abstract_router.specs.Touched.{IsSameElsewhere}

-- Exactly the LSPs are there whose paths are.
pub keys-lsps : (s : State) → keys_of (lsps_of s) ≡ keys_of s.facts.paths
unfolding lsps_of
keys-lsps s = keys-map (λ row. lsp_of s row.0 row.1) s.facts.paths

-- They stand in order where the paths do.
pub is_sorted-lsps : (s : State) → T (is_sorted key_cmp s.facts.paths) → T (is_sorted key_cmp (lsps_of s))
is_sorted-lsps s h = subst T (sym (is_sorted-both key_cmp (lsps_of s) s.facts.paths (keys-lsps s))) h

-- What is found of them is what is known of the LSP.
pub find-lsps : (key : Key) (s : State) → find key_cmp key (lsps_of s) ≡ lsp_at s key
unfolding lsps_of
find-lsps key s = find-map_row key_cmp key_exact (λ row. lsp_of s row.0 row.1) key s.facts.paths

-- Of LSPs that aren't touched the same is known.
pub lsps-elsewhere : (r : Router) (touched : Key → Bool) (before after : State) → T (is_sorted key_cmp before.facts.paths) → T (is_sorted key_cmp after.facts.paths) → IsSameElsewhere r touched before after
    → where_key key_cmp (λ key. not (touched key)) (lsps_of before) ≡ where_key key_cmp (λ key. not (touched key)) (lsps_of after)
lsps-elsewhere r touched before after g h same =
    same_elsewhere key_cmp key_total key_exact touched (lsps_of before) (lsps_of after) (is_sorted-lsps before g) (is_sorted-lsps after h)
    (λ key apart. find-lsps key before ∙ same.lsps key apart ∙ sym (find-lsps key after))

-- The LSPs under the keys of rows in order are what look-ups at these keys find.
pub lsps-among : {E : Type 0} (s : State) (es : List (Key × E)) → T (is_sorted key_cmp es) → T (is_sorted key_cmp s.facts.paths)
    → where_key key_cmp (is_among key_cmp es) (lsps_of s) ≡ filter_map (λ e. option_map (λ lsp. (e.0, lsp)) (lsp_at s e.0)) es
lsps-among s es g h =
    where_key-among key_cmp key_total key_exact es (lsps_of s) g (is_sorted-lsps s h)
    ∙ (λ i. filter_map (λ e. option_map (λ lsp. (e.0, lsp)) (find-lsps e.0 s i)) es)

-- Two states know the same of the reservations, the repairs, the labels and the assignments of LSPs.
pub record AreAlike (s t : State) : Type 0 where
  pub resvs : s.resvs ≡ t.resvs
  pub repairs : s.repairs ≡ t.repairs
  pub labels : s.labels ≡ t.labels
  pub assignments : s.assignments ≡ t.assignments

-- The LSPs stand on these and on paths alone,
pub lsps-alike : (s t : State) → s.facts.paths ≡ t.facts.paths → AreAlike s t → lsps_of s ≡ lsps_of t
unfolding lsps_of
lsps-alike s t paths are =
    λ i. map (λ (row : Key × PathFact). (row.0, lsp_of (record s { resvs = are.resvs i; repairs = are.repairs i; labels = are.labels i; assignments = are.assignments i }) row.0 row.1)) (paths i)

-- and so does the action of a label, with what bypasses run over.
pub look-alike : (r : Router) (s t : State) (label : ℕ) → bypass_tunnels_of r s ≡ bypass_tunnels_of r t → s.facts.paths ≡ t.facts.paths → AreAlike s t → look r s label ≡ look r t label
unfolding look table_of
look-alike r s t label bypass_tunnels paths are =
    λ i. option_map (λ (entry : ℕ × Action). entry.1) (find_first (λ (entry : ℕ × Action). entry.0 == label) (filter_map (λ (lsp : Key × Lsp). entry_of (record { place = place_of r s.facts; bypass_tunnels = bypass_tunnels i }) lsp.1) (lsps-alike s t paths are i)))
