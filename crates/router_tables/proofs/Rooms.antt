-- There is room in the tables for all that a sound router knows.
use Rattle.std.specs.Prelude.{◌≡◌, ◌+◌, ◌≤◌, ◌&&◌, ◌⊎◌, ℕ, Bool, true, false, if◌then◌else◌, T, List, [], ◌∷◌, filter_map, length, Option, Some, None, IfSome, is_none, is_some}
use Rattle.std.specs.FinMap.Entries.{find, is_sorted, same_entries}
use Rattle.std.specs.List.{cons_option}
use Rattle.std.specs.Option.{option_and_then, option_map, option_map_or}
use Rattle.std.proofs.Common.{refl, ap, arith, subst, ◌∙◌, inl, inr}
use Rattle.std.proofs.lemmas.List.{length-append, length-map}
use Rattle.std.proofs.lemmas.Option.{IfSome_then}
use Rattle.sorted_rows.specs.RowsLaws.{find-all_row}
use Rattle.lsr_facts.specs.Limits.{max_lsps, max_tunnels}
use Rattle.lsr_facts.specs.OrderLaws.{key_exact, key_total}
use Rattle.lsr_facts.specs.Orders.{key_cmp}
use Rattle.lsr_facts.specs.declared.key.Item.{Item}
use Rattle.lsr_facts.specs.declared.key.Item.TheVariants.{Backup}
use Rattle.lsr_facts.specs.declared.key.Key.{Key}
use Rattle.lsr_facts.specs.declared.path_fact.PathFact.{PathFact}
use Rattle.lsr_facts.specs.declared.router.Router.{Router}
use Rattle.lsr_facts.specs.declared.repair.Repair.{Repair}
use Rattle.lsr_facts.specs.declared.resv_fact.ResvFact.{ResvFact}
use Rattle.lsr_facts.specs.declared.upstream.Upstream.{Upstream}
use Rattle.abstract_paths.specs.TouchedLaws.{find-made, is_sorted-made}
use Rattle.abstract_paths.specs.Paths.{goes_on}
use Rattle.abstract_paths.specs.Places.{is_up}
use Rattle.abstract_paths.specs.Tears.{leaves_by}
use Rattle.abstract_router.specs.BypassTunnels.{bypass_tunnels_of, over_at}
use Rattle.abstract_router.specs.Lsps.{Around, Lsp, around_of, lsp_of, lsps_of}
use Rattle.abstract_router.specs.Repairing.{repair_stands}
use Rattle.abstract_router.specs.Wanted.{backup_row, downstream_row, items_of}
use Rattle.abstract_router.specs.Soundness.{IsHolding, IsSound}
use Rattle.abstract_router.specs.States.{State}
use Rattle.abstract_router.specs.Steps.{stands}
use Rattle.abstract_router.specs.Through.{backup_of}
use Rattle.abstract_router.specs.UpstreamLaws.{upstream-few}
use Rattle.abstract_router.specs.Upstreams.{upstream_of}
use Rattle.abstract_router.specs.LabelLaws.{length-labelled}
use Rattle.label_table.specs.RowLaws.{length_asked, length_cons}

module _ {X : Type 0} (paths : List (Key × PathFact)) (sorted : T (is_sorted key_cmp paths)) (rows : List (Key × X)) (in_order : T (is_sorted key_cmp rows)) where
  -- what rows have for the LSPs of paths
  abbrev of_paths : List (Key × X)
  of_paths = filter_map (λ (path : Key × PathFact). option_map (λ x. (path.0, x)) (find key_cmp path.0 rows)) paths

  -- what is found of an LSP whose path is known, where there is nothing of others
  found : (path : Option PathFact) (row : Option X) → IfSome row (λ x. is_some path ≡ true) → option_and_then (λ (p : PathFact). row) path ≡ row
  found (Some path) row known = refl
  found None None known = refl
  found None (Some x) known = absurd (let e = known in cc)

  -- Where each row is of an LSP whose path is known, there are no more of them than paths.
  few_rows : ((key : Key) → IfSome (find key_cmp key rows) (λ x. is_some (find key_cmp key paths) ≡ true)) → length rows ≤ length paths
  few_rows known =
      let all =
      same_entries key_cmp key_total key_exact of_paths rows
      (is_sorted-made key_cmp key_total key_exact (λ (path : Key × PathFact). find key_cmp path.0 rows) paths sorted)
      in_order
      (λ key. find-made key_cmp key_total key_exact (λ (path : Key × PathFact). find key_cmp path.0 rows) key paths sorted ∙ found (find key_cmp key paths) (find key_cmp key rows) (known key)) in
      omega (arith, ap length all, length_asked (λ (path : Key × PathFact). option_map {U = Key × X} (λ x. (path.0, x)) (find key_cmp path.0 rows)) paths)

-- a path that a test passes is known
known_by : (test : PathFact → Bool) (first : Bool) (path : Option PathFact) → (first && option_map_or test path false) ≡ true → is_some path ≡ true
known_by test first (Some path) passes = refl
known_by test true None passes = absurd (let e = passes in cc)
known_by test false None passes = absurd (let e = passes in cc)

-- so it is wherever something is
all_known : {X : Type 0} (test : X → PathFact → Bool) (first : X → Bool) (path : Option PathFact) (row : Option X) → IfSome row (λ x. (first x && option_map_or (test x) path false) ≡ true) → IfSome row (λ x. is_some path ≡ true)
all_known test first path None passes = tt
all_known test first path (Some x) passes = known_by (test x) (first x) path passes

-- of two of which one gives nothing, no more is given than is asked
length_either : {A B : Type 0} (f g : A → Option B) → ((x : A) → (f x ≡ None) ⊎ (g x ≡ None)) → (xs : List A) → length (filter_map f xs) + length (filter_map g xs) ≤ length xs
length_either f g either [] = omega arith
length_either f g either (x ∷ xs) =
    let rest = length_either f g either xs in
    elim (either x) [
      | inl none ↦ let same = ap (λ o. length (cons_option o (filter_map f xs))) none in omega (arith, rest, same, length_cons (g x) (filter_map g xs))
      | inr none ↦ let same = ap (λ o. length (cons_option o (filter_map g xs))) none in omega (arith, rest, same, length_cons (f x) (filter_map f xs))
    ]

-- nothing comes where a test fails, and a repaired LSP fails one
unless : {A : Type 0} (test : Bool) (o : Option A) → test ≡ false → (if test then o else None) ≡ None
unless test o fails = ap (λ b. if b then o else None) fails

not_repaired : (goes up : Bool) → (goes && false && up) ≡ false
not_repaired true up = refl
not_repaired false up = refl

-- So an LSP wants one Path at most: at its next hop, or through its bypass where it is repaired.
one_wanted : (a : Around) (lsp : Key × Lsp) → (downstream_row a lsp ≡ None) ⊎ (backup_row a lsp ≡ None)
one_wanted a lsp = by lsp.1.repair refl
  where
    by : (o : Option Repair) → lsp.1.repair ≡ o → (downstream_row a lsp ≡ None) ⊎ (backup_row a lsp ≡ None)
    by None none = inr (ap (option_and_then (λ (repair : Repair). option_map (λ output. (Backup lsp.0 repair.bypass, output)) (backup_of a lsp.0 lsp.1.path repair))) none)
    by (Some repair) some = inl (unless _ _ (ap (λ o. goes_on lsp.1.path.role && is_none o && is_up a.place.up lsp.1.path.out_link) some ∙ not_repaired (goes_on lsp.1.path.role) (is_up a.place.up lsp.1.path.out_link)))

module _ (r : Router) (s : State) (is : IsSound r s) where
  pub few_paths : length s.facts.paths ≤ max_lsps
  few_paths = is.paths.paths.few

  pub few_tunnels : length s.facts.tunnels ≤ max_tunnels
  few_tunnels = is.paths.tunnels.few

  -- the path of an LSP that is reserved is known, and of one that is repaired
  known_resv : (key : Key) → IfSome (find key_cmp key s.resvs) (λ resv. is_some (find key_cmp key s.facts.paths) ≡ true)
  known_resv key =
      all_known (λ (resv : ResvFact). leaves_by resv.link) (λ resv. is_up s.facts.up resv.link) (find key_cmp key s.facts.paths) (find key_cmp key s.resvs) (find-all_row key_cmp key_exact (λ resv. stands s.facts resv ≡ true) key s.resvs is.standing)

  known_repair : (key : Key) → IfSome (find key_cmp key s.repairs) (λ repair. is_some (find key_cmp key s.facts.paths) ≡ true)
  known_repair key =
      all_known (λ (repair : Repair). leaves_by repair.resv.link) (λ repair. is_some (over_at (bypass_tunnels_of r s) repair.bypass)) (find key_cmp key s.facts.paths) (find key_cmp key s.repairs) (find-all_row key_cmp key_exact (λ repair. repair_stands r s repair ≡ true) key s.repairs is.repairs_standing)

  -- and so of one that is promised bandwidth of a bypass
  known_given : (key : Key) → IfSome (find key_cmp key s.assignments) (λ given. is_some (find key_cmp key s.facts.paths) ≡ true)
  known_given key =
      IfSome_then (find key_cmp key s.assignments) (find-all_row key_cmp key_exact (IsHolding s) key s.assignments is.assigned.held) (λ given holds. elim holds [
        | inl resv ↦ subst (λ o. IfSome o (λ x. is_some (find key_cmp key s.facts.paths) ≡ true)) resv.1 (known_resv key)
        | inr repair ↦ subst (λ o. IfSome o (λ x. is_some (find key_cmp key s.facts.paths) ≡ true)) repair.1 (known_repair key)
      ])

  pub few_resvs : length s.resvs ≤ max_lsps
  few_resvs = omega (arith, few_rows s.facts.paths is.paths.paths.in_order s.resvs is.held.in_order known_resv, few_paths)

  pub few_repairs : length s.repairs ≤ max_lsps
  few_repairs = omega (arith, few_rows s.facts.paths is.paths.paths.in_order s.repairs is.repaired.in_order known_repair, few_paths)

  pub few_labels : length s.labels ≤ max_lsps
  few_labels = omega (arith, length-labelled r s is.labels, few_paths)

  pub few_assignments : length s.assignments ≤ max_lsps
  few_assignments = omega (arith, few_rows s.facts.paths is.paths.paths.in_order s.assignments is.assigned.in_order known_given, few_paths)

  pub few_moments : length s.facts.sent ≤ max_lsps
  unfolding items_of lsps_of
  few_moments =
      let as_many = length-map s.facts.sent (λ (row : Item × ℕ). row.0) in
      let wanted = length-map (items_of r s) (λ row. row.0) in
      let lsps = length-map {B = Key × Lsp} s.facts.paths (λ row. (row.0, lsp_of s row.0 row.1)) in
      let both = length-append (filter_map (downstream_row (around_of r s)) (lsps_of s)) (filter_map (backup_row (around_of r s)) (lsps_of s)) in
      omega (arith, as_many, wanted, lsps, both, ap length is.sent, length_either (downstream_row (around_of r s)) (backup_row (around_of r s)) (one_wanted (around_of r s)) (lsps_of s), few_paths)

  pub few_upstream : length s.sent_upstream ≤ 4096
  few_upstream =
      let as_many = length-map s.sent_upstream (λ (row : Upstream × ℕ). row.0) in
      let wanted = length-map (upstream_of r s) (λ row. row.0) in
      omega (arith, as_many, wanted, ap length is.sent_upstream, (upstream-few r s s.facts.moment is.paths.paths).1)
