-- Routes of IPv4 steps alone: how many bytes they have, and when a message carries them.
use Rattle.std.proofs.Common.{◌≡◌, ◌∙◌, ◌*◌, ◌<◌, ◌≤◌, ℕ, true, List, [], ◌∷◌, ap, length, map, take, Option, Some, None, refl, subst, sym, arith, length-append}
use Rattle.std.proofs.lemmas.Bool.{le-leb}
use Rattle.std.proofs.lemmas.List.{length-map, length-take}
use Rattle.std.specs.Prelude.{IsTrue}
use Rattle.std.specs.List.{AllByRecursion, list_all}
use Rattle.std.specs.Net.Addr.{ipv4_octets}
use Rattle.toml.specs.Data.{Data, array, as_array}
use Rattle.toml.specs.View.{view, items_view}
use Rattle.toml.specs.declared.value.Value.{Value}
use Rattle.rsvp_contents.specs.Limits.{is_short_route, step_has_address}
use Rattle.rsvp_bodies.specs.Steps.{route_bytes, step_bytes}
use Rattle.rsvp_bodies.specs.declared.step.Step.{Step}
use Rattle.rsvp_bodies.specs.declared.step.Step.TheVariants.{Ipv4, Other}
use Rattle.rsvp_bodies.specs.Finding.{Finds}
use Rattle.rsvp_bodies.specs.RouteWords.{IsStepText}
use Rattle.lsr_facts.specs.Tunnels.{route_from}
use Rattle.lsr_facts.specs.declared.router.Router.{Router}
use Rattle.lsr_config.specs.Values.{elements, SaysEach, SaysStep, SaysSteps}
use Rattle.lsr_config.proofs.Finding.{array_from, elements-view}
use Rattle.lsr_config.proofs.Judging.{says_length}

-- an IPv4 step, to an address of four octets
abbrev pub IsIpv4Step : Step → Type 0
IsIpv4Step (Ipv4 loose prefix) = length (ipv4_octets prefix.address) ≡ 4
IsIpv4Step (Other bytes) = ⊥

step_length : (step : Step) → IsIpv4Step step → length (step_bytes step) ≡ 8
step_length (Ipv4 loose prefix) four = omega (arith, length-append (ipv4_octets prefix.address) (prefix.length ∷ 0 ∷ []), four)
step_length (Other bytes) h = absurd h

-- each step has eight bytes
pub route_length : (steps : List Step) → AllByRecursion IsIpv4Step steps → length (route_bytes steps) ≡ 8 * length steps
route_length [] h = refl
route_length (step ∷ steps) h = omega (arith, length-append (step_bytes step) (route_bytes steps), step_length step h.0, route_length steps h.1)

have_addresses : (steps : List Step) → AllByRecursion IsIpv4Step steps → list_all step_has_address steps ≡ true
have_addresses [] h = refl
have_addresses (Ipv4 loose prefix ∷ steps) h = rw (h.0, have_addresses steps h.1) refl
have_addresses (Other bytes ∷ steps) h = absurd h.0

pub route_is_short : (steps : List Step) → AllByRecursion IsIpv4Step steps → length steps ≤ 32 → IsTrue (is_short_route steps)
route_is_short steps h few = rw (le-leb (length steps) 32 few, le-leb (length (route_bytes steps)) 512 (omega (arith, few, route_length steps h)), have_addresses steps h) refl

-- ---- what texts write

step_written : (text : List ℕ) (step : Step) → IsStepText text step → IsIpv4Step step
step_written text (Ipv4 loose prefix) h = ap length h.2.0.value
step_written text (Other bytes) h = h

pub step_said : (d : Data) (step : Step) → SaysStep d step → IsIpv4Step step
unfolding SaysStep
step_said d step h = step_written h.0 step h.2.0

pub steps_said : (ds : List Data) (steps : List Step) → SaysEach SaysStep ds steps → AllByRecursion IsIpv4Step steps
steps_said [] [] h = tt
steps_said [] (step ∷ steps) h = absurd h
steps_said (d ∷ ds) [] h = absurd h
steps_said (d ∷ ds) (step ∷ steps) h = (step_said d step h.0, steps_said ds steps h.1)

-- the route from a router on
pub short_from : (r : Router) (steps : List Step) → length (ipv4_octets r.id) ≡ 4 → AllByRecursion IsIpv4Step steps → length steps ≤ 31 → IsTrue (is_short_route (route_from r steps))
short_from r steps four h few = route_is_short (route_from r steps) (four, h) (omega (arith, few))

-- ---- arrays of steps

pub few_said : (vs : List Value) (i : ℕ) (steps : List Step) → length vs ≤ 31 → SaysEach SaysStep (map view (take i vs)) steps → length steps ≤ 31
few_said vs i steps few h = omega (arith, few, says_length SaysStep _ steps h, length-map (take i vs) view, length-take i vs)

pub bytes_said : (vs : List Value) (i : ℕ) (steps : List Step) → length vs ≤ 31 → SaysEach SaysStep (map view (take i vs)) steps → length (route_bytes steps) ≤ 65528
bytes_said vs i steps few h = omega (arith, few_said vs i steps few h, route_length steps (steps_said _ steps h))

pub too_many : (vs : List Value) (steps : List Step) → 31 < length vs → ¬ (SaysEach SaysStep (map view vs) steps × (length steps ≤ 31))
too_many vs steps many h = omega (arith, many, h.1, says_length SaysStep _ steps h.0, length-map vs view)

pub steps_found : (d : Data) (vs : List Value) (o : Option (List Step)) → Some (items_view vs) ≡ as_array d → Finds (λ steps. SaysEach SaysStep (map view vs) steps × (length steps ≤ 31)) o → Finds (SaysSteps d) o
unfolding SaysSteps
steps_found d vs (Some steps) e h = (items_view vs, array_from d _ e, subst (λ ds. SaysEach SaysStep ds steps) (sym (elements-view vs)) h.0, h.1)
steps_found d vs None e h = λ steps says.
    let there : d ≡ array (items_view vs) = array_from d _ e in
    let same : says.0 ≡ items_view vs = cc in
    h steps (subst (λ ds. SaysEach SaysStep ds steps) (ap elements same ∙ elements-view vs) says.2, says.3)

pub no_steps : (d : Data) → None ≡ as_array d → (steps : List Step) → ¬ (SaysSteps d steps)
unfolding SaysSteps
no_steps d none steps h = let some : as_array d ≡ Some h.0 = ap as_array h.1 in cc
