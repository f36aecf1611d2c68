-- Where each reservation is over a link that is up, no link took one away, and nothing is repaired. So it is in a sound
-- state: all that stands there is left.
use Rattle.std.specs.Prelude.{◌≡◌, ◌&&◌, not, Bool, true, false, if◌then◌else◌, List, [], ◌∷◌, filter_map, map, Option, Some, None}
use Rattle.std.specs.FinMap.Entries.{find}
use Rattle.std.specs.List.{AllByRecursion, cons_option, flat_map}
use Rattle.std.specs.Option.{option_and_then, option_map, option_map_or}
use Rattle.std.proofs.Common.{refl, ap, ◌∙◌}
use Rattle.std.proofs.lemmas.Bool.{and_parts}
use Rattle.sorted_rows.specs.Edits.{edited}
use Rattle.sorted_rows.specs.ListLaws.{all-weaker, filter-all_pass}
use Rattle.lsr_facts.specs.Orders.{key_cmp}
use Rattle.lsr_facts.specs.declared.key.Key.{Key}
use Rattle.lsr_facts.specs.declared.path_fact.PathFact.{PathFact}
use Rattle.lsr_facts.specs.declared.router.Router.{Router}
use Rattle.lsr_facts.specs.declared.repair.Repair.{Repair}
use Rattle.lsr_facts.specs.declared.resv_fact.ResvFact.{ResvFact}
use Rattle.abstract_paths.specs.Places.{is_up}
use Rattle.abstract_paths.specs.Tears.{leaves_by}
use Rattle.abstract_router.specs.Lsps.{around_of}
use Rattle.abstract_router.specs.Protecting.{repair_with, selected}
use Rattle.abstract_router.specs.Repairing.{new_repairs, put_repair, repair_of, repair_on, repair_stands, repaired, repairs_left, told_of, told_repaired}
use Rattle.abstract_router.specs.Soundness.{IsSound}
use Rattle.abstract_router.specs.States.{State, with_repairs_where}
use Rattle.abstract_router.specs.Steps.{left_standing, stands}

-- where g gives nothing of each, it gives nothing
pub filter_map-none : {A B : Type 0} (g : A → Option B) (xs : List A) → AllByRecursion (λ x. g x ≡ None) xs → filter_map g xs ≡ []
filter_map-none g [] h = refl
filter_map-none g (x ∷ xs) h = ap (λ o. cons_option o (filter_map g xs)) h.0 ∙ filter_map-none g xs h.1

-- Each reservation is over a link that is up.
abbrev pub AreOverUp : State → Type 0
AreOverUp s = AllByRecursion (λ resv. is_up s.facts.up resv.1.link ≡ true) s.resvs

module _ (r : Router) (s : State) where
  -- so it isn't repaired
  unlost : (resv : Key × ResvFact) → is_up s.facts.up resv.1.link ≡ true → option_map {U = Key × Repair} (λ repair. (resv.0, repair)) (repair_of r s resv) ≡ None
  unlost resv up = by (find key_cmp resv.0 s.facts.paths)
    where
      never : (b : Bool) (o : Option Repair) → option_map {U = Key × Repair} (λ repair. (resv.0, repair)) (if b && false then o else None) ≡ None
      never true o = refl
      never false o = refl

      by : (path : Option PathFact) → option_map {U = Key × Repair} (λ repair. (resv.0, repair)) (option_and_then (repair_on r s resv.0 resv.1) path) ≡ None
      by None = refl
      by (Some path) =
          let again = option_map (repair_with resv.1) (selected (around_of r s) resv.0 path (find key_cmp resv.0 s.assignments) resv.1) in
          ap (λ b. option_map {U = Key × Repair} (λ repair. (resv.0, repair)) (if leaves_by resv.1.link path && not b then again else None)) up ∙ never (leaves_by resv.1.link path) again

  module _ (up : AreOverUp s) where
    none-new : new_repairs r s ≡ []
    unfolding new_repairs
    none-new =
        let again = λ (resv : Key × ResvFact). option_map {U = Key × Repair} (λ repair. (resv.0, repair)) (repair_of r s resv) in
        filter_map-none again s.resvs (all-weaker (λ resv. is_up s.facts.up resv.1.link ≡ true) (λ resv. again resv ≡ None) unlost s.resvs up)

    -- No repair is new then, and none is told.
    pub repaired-same : repaired r s ≡ s
    unfolding repaired
    repaired-same = ap (λ new. record s { repairs = edited key_cmp (map put_repair new) s.repairs }) none-new

    pub told-none : told_repaired r s ≡ []
    unfolding told_repaired
    told-none = ap (flat_map (told_of r s)) none-new

module _ (r : Router) (s : State) (is : IsSound r s) where
  -- All reservations of a sound state are over links that are up,
  pub over-up : AreOverUp s
  over-up =
      all-weaker (λ resv. stands s.facts resv ≡ true) (λ resv. is_up s.facts.up resv.1.link ≡ true)
      (λ resv stood. (and_parts (is_up s.facts.up resv.1.link) (option_map_or (leaves_by resv.1.link) (find key_cmp resv.0 s.facts.paths) false) stood).0) s.resvs is.standing

  -- and what stands there is left: all.
  pub left-same : left_standing r s ≡ s
  unfolding repairs_left
  left-same =
      ap (λ resvs. with_repairs_where (repair_stands r (record s { resvs = resvs })) (record s { resvs = resvs })) (filter-all_pass (stands s.facts) s.resvs is.standing)
      ∙ ap (λ repairs. record s { repairs = repairs }) (filter-all_pass (repair_stands r s) s.repairs is.repairs_standing)
