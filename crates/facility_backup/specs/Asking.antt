-- Bypasses, and the candidates for a reservation, as they are asked for one by one.
use Rattle.std.specs.Prelude.{◌≡◌, ℕ, T, List, [], ◌∷◌, filter_map, Option, Some, None}
use Rattle.std.specs.FinMap.Entries.{find, is_sorted}
use Rattle.std.specs.List.{cons_option}
use Rattle.std.specs.Option.{option_and_then, option_map}
use Rattle.std.specs.Ordering.{nat_cmp}
use Rattle.std.proofs.Common.{refl, ap}
use Rattle.std.proofs.lemmas.Cmp.{nat_cmp_total}
use Rattle.std.proofs.lemmas.Map.Lookups.{exact_unsigned}
use Rattle.lsr_facts.specs.declared.bypass.Bypass.{Bypass}
use Rattle.lsr_facts.specs.declared.router.Router.{Router}
use Rattle.lsr_facts.specs.declared.repair.BypassTunnel.{BypassTunnel}
use Rattle.lsr_facts.specs.declared.repair.Selected.{Selected}
use Rattle.lsr_facts.specs.declared.resv_fact.ResvFact.{ResvFact}
use Rattle.abstract_paths.specs.TouchedLaws.{find-made}
use Rattle.abstract_router.specs.BypassTunnels.{bypass_tunnel_by, bypass_tunnels_of}
use Rattle.abstract_router.specs.Lsps.{around_of}
use Rattle.abstract_router.specs.Protecting.{selected_by, ways_around}
use Rattle.abstract_router.specs.States.{State}

-- a bypass with its number, among all
abbrev pub row_by : Router → State → ℕ × Bypass → Option (ℕ × BypassTunnel)
row_by r s bypass = option_map (λ bypass_tunnel. (bypass.0, bypass_tunnel)) (bypass_tunnel_by r s bypass)

-- a bypass as a candidate for a reservation
abbrev pub candidate_by : Router → State → ResvFact → ℕ × Bypass → Option Selected
candidate_by r s resv bypass = option_and_then (λ bypass_tunnel. selected_by r resv (bypass.0, bypass_tunnel)) (bypass_tunnel_by r s bypass)

-- The bypass of a number is that of its row: no two rows have one number.
pub find-bypass_tunnels : (r : Router) (s : State) (number : ℕ) → T (is_sorted nat_cmp s.facts.bypasses)
    → find nat_cmp number (bypass_tunnels_of r s) ≡ option_and_then (λ bypass. bypass_tunnel_by r s (number, bypass)) (find nat_cmp number s.facts.bypasses)
unfolding bypass_tunnels_of
find-bypass_tunnels r s number sorted = find-made nat_cmp nat_cmp_total exact_unsigned (bypass_tunnel_by r s) number s.facts.bypasses sorted

-- what is picked of what is picked
picked-twice : {A B C : Type 0} (f : A → Option B) (name : A → B → C) (g : C → Option Selected) (xs : List A)
    → filter_map g (filter_map (λ x. option_map (name x) (f x)) xs) ≡ filter_map (λ x. option_and_then (λ y. g (name x y)) (f x)) xs
picked-twice f name g [] = refl
picked-twice {A} {B} {C} f name g (x ∷ xs) =
    elim (f x) as (λ o. filter_map g (cons_option (option_map (name x) o) (filter_map (λ (x : A). option_map (name x) (f x)) xs)) ≡ cons_option (option_and_then (λ y. g (name x y)) o) (filter_map (λ (x : A). option_and_then (λ (y : B). g (name x y)) (f x)) xs)) [
      | None ↦ picked-twice f name g xs
      | Some y ↦ ap (cons_option (g (name x y))) (picked-twice f name g xs)
    ]

-- The ways around a link are the candidates of all bypasses, in their order.
pub candidates : (r : Router) (s : State) (resv : ResvFact) → ways_around (around_of r s) resv ≡ filter_map (candidate_by r s resv) s.facts.bypasses
unfolding ways_around bypass_tunnels_of
candidates r s resv = picked-twice (bypass_tunnel_by r s) (λ bypass bypass_tunnel. (bypass.0, bypass_tunnel)) (selected_by r resv) s.facts.bypasses
