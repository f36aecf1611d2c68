-- What is wanted of all LSPs is all that is wanted.
use Rattle.std.specs.Prelude.{◌≡◌, true, T, is_some, Some}
use Rattle.std.specs.FinMap.Entries.{find, is_sorted, where_key}
use Rattle.std.specs.List.{AllByRecursion, flat_map}
use Rattle.std.proofs.Common.{ap}
use Rattle.sorted_rows.specs.ListLaws.{all-map, all-weaker, filter-all_pass}
use Rattle.sorted_rows.specs.RowsLaws.{all_found}
use Rattle.lsr_facts.specs.OrderLaws.{key_total}
use Rattle.lsr_facts.specs.Orders.{key_cmp}
use Rattle.lsr_facts.specs.declared.key.Key.{Key}
use Rattle.lsr_facts.specs.declared.path_fact.PathFact.{PathFact}
use Rattle.lsr_facts.specs.declared.router.Router.{Router}
use Rattle.abstract_paths.specs.Touched.{is_among}
use Rattle.abstract_router.specs.Lsps.{Lsp, around_of, lsp_of, lsps_of}
use Rattle.abstract_router.specs.States.{State}
use Rattle.abstract_router.specs.Upstreams.{upstream_at, upstream_of, upstream_rows}
use Rattle.abstract_router.specs.Wanted.{item_rows, items_at, items_of}

-- all LSPs are among those whose paths are known
all_lsps : (s : State) → T (is_sorted key_cmp s.facts.paths) → where_key key_cmp (is_among key_cmp s.facts.paths) (lsps_of s) ≡ lsps_of s
unfolding lsps_of
all_lsps s sorted =
    let paths = s.facts.paths in
    let among : AllByRecursion (λ (path : Key × PathFact). is_among key_cmp paths path.0 ≡ true) paths =
    all-weaker (λ (path : Key × PathFact). find key_cmp path.0 paths ≡ Some path.1) (λ path. is_among key_cmp paths path.0 ≡ true) (λ path is. ap is_some is) paths (all_found key_cmp key_total paths sorted) in
    filter-all_pass (λ (lsp : Key × Lsp). is_among key_cmp paths lsp.0) (lsps_of s) (all-map (λ (lsp : Key × Lsp). is_among key_cmp paths lsp.0 ≡ true) (λ (row : Key × PathFact). (row.0, lsp_of s row.0 row.1)) paths among)

-- So what is wanted under the keys of all paths is what is wanted downstream,
pub all_items : (r : Router) (s : State) → T (is_sorted key_cmp s.facts.paths) → items_at r s (is_among key_cmp s.facts.paths) ≡ items_of r s
unfolding items_at items_of
all_items r s sorted = ap (item_rows (around_of r s)) (all_lsps s sorted)

-- and upstream.
pub all_upstream : (r : Router) (s : State) → T (is_sorted key_cmp s.facts.paths) → upstream_at r s (is_among key_cmp s.facts.paths) ≡ upstream_of r s
unfolding upstream_at upstream_of
all_upstream r s sorted = ap (flat_map (upstream_rows (around_of r s))) (all_lsps s sorted)
