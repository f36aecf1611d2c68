-- What LSPs want, of what they share: Paths and Resvs alike.
use Rattle.std.specs.Prelude.{◌≡◌, ◌++◌, Bool, T, List, [], ◌∷◌, Option, filter_map, map}
use Rattle.std.specs.FinMap.Entries.{is_sorted, where_key}
use Rattle.std.specs.List.{cons_option, flat_map}
use Rattle.std.proofs.Common.{ap, refl}
use Rattle.lsr_facts.specs.Orders.{item_cmp, key_cmp}
use Rattle.lsr_facts.specs.declared.key.Key.{Key}
use Rattle.lsr_facts.specs.declared.router.Router.{Router}
use Rattle.lsr_facts.specs.Upstreams.{upstream_cmp}
use Rattle.lsr_facts.specs.declared.upstream.Upstream.{Upstream}
use Rattle.abstract_paths.specs.declared.events.Output.{Output}
use Rattle.abstract_paths.specs.Soundness.{ArePaths}
use Rattle.abstract_paths.specs.Touched.{key_of_item}
use Rattle.abstract_router.specs.Lsps.{Around, Lsp, around_of, lsps_of}
use Rattle.abstract_router.specs.States.{State}
use Rattle.abstract_router.specs.UpstreamLaws.{is_sorted-upstream_sound, upstream-at_keys}
use Rattle.abstract_router.specs.Upstreams.{upstream_at, upstream_of, upstream_rows}
use Rattle.abstract_router.specs.Wanted.{backup_row, downstream_row, item_rows, items_at, items_of}
use Rattle.abstract_router.specs.WantedLaws.{is_sorted-items, items-at_keys}
use Rattle.state_sends.specs.Touching.{said_by_paths, said_by_resvs}

-- the Resvs that LSPs want
abbrev pub resv_rows : Around → List (Key × Lsp) → List (Upstream × Output)
resv_rows a lsps = flat_map (upstream_rows a) lsps

pub no_item_rows : (a : Around) → item_rows a [] ≡ []
no_item_rows a = refl

pub no_resv_rows : (a : Around) → resv_rows a [] ≡ []
no_resv_rows a = refl

pub item_parts : (r : Router) (s : State) (touched : Key → Bool) → where_key item_cmp (λ item. touched (key_of_item item)) (item_rows (around_of r s) (lsps_of s)) ≡ item_rows (around_of r s) (where_key key_cmp touched (lsps_of s))
unfolding items_of items_at
item_parts r s touched = items-at_keys r touched s

pub resv_parts : (r : Router) (s : State) (touched : Key → Bool) → where_key upstream_cmp (λ u. touched u.key) (resv_rows (around_of r s) (lsps_of s)) ≡ resv_rows (around_of r s) (where_key key_cmp touched (lsps_of s))
unfolding upstream_of upstream_at
resv_parts r s touched = upstream-at_keys r touched s

pub items_in_order : (r : Router) (s : State) → ArePaths r s.facts.moment s.facts.paths → T (is_sorted item_cmp (item_rows (around_of r s) (lsps_of s)))
unfolding items_of
items_in_order r s are = is_sorted-items r s are.in_order

pub resvs_in_order : (r : Router) (s : State) → ArePaths r s.facts.moment s.facts.paths → T (is_sorted upstream_cmp (resv_rows (around_of r s) (lsps_of s)))
unfolding upstream_of
resvs_in_order r s are = is_sorted-upstream_sound r s s.facts.moment are

-- what messages of a kind say of LSPs
abbrev pub all_said : (Lsp → Lsp) → List (Key × Lsp) → List (Key × Lsp)
all_said said lsps = map (λ lsp. (lsp.0, said lsp.1)) lsps

-- what comes of each LSP comes of what is said of it
given_said : {Y : Type 0} (said : Lsp → Lsp) (f : Key × Lsp → Option Y) → ((lsp : Key × Lsp) → f (lsp.0, said lsp.1) ≡ f lsp) → (lsps : List (Key × Lsp)) → filter_map f (all_said said lsps) ≡ filter_map f lsps
given_said said f same [] = refl
given_said said f same (lsp ∷ lsps) = λ i. cons_option (same lsp i) (given_said said f same lsps i)

-- So Paths say nothing of labels, nor of reservations.
pub items_said : (a : Around) (lsps : List (Key × Lsp)) → item_rows a (all_said said_by_paths lsps) ≡ item_rows a lsps
items_said a lsps = λ i. given_said said_by_paths (downstream_row a) (λ lsp. refl) lsps i ++ given_said said_by_paths (backup_row a) (λ lsp. refl) lsps i

pub resvs_said : (a : Around) (lsps : List (Key × Lsp)) → resv_rows a (all_said said_by_resvs lsps) ≡ resv_rows a lsps
resvs_said a [] = refl
resvs_said a (lsp ∷ lsps) = ap (λ rows. upstream_rows a lsp ++ rows) (resvs_said a lsps)
