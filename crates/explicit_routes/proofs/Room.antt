-- What is left of a route, and one more step, are written in no more bytes than the route was.
use Rattle.std.proofs.Common.{◌≡◌, ◌+◌, ◌≤◌, ℕ, zero, suc, true, false, List, [], ◌∷◌, Some, None, Bool, length, drop, arith, length-append}
use Rattle.std.specs.List.{flat_map}
use Rattle.std.specs.Prelude.{nat_le, if◌then◌else◌}
use Rattle.rsvp_bodies.specs.Steps.{route_bytes, step_bytes}
use Rattle.rsvp_bodies.specs.declared.prefix.Prefix.{Prefix}
use Rattle.rsvp_bodies.specs.declared.step.Step.{Step}
use Rattle.rsvp_bodies.specs.declared.step.Step.TheVariants.{Ipv4, Other}
use Rattle.abstract_paths.specs.Routing.{nodes_of}

-- the last items are written in no more bytes than all
pub length-last : {X : Type 0} (f : X → List ℕ) (n : ℕ) (xs : List X) → length (flat_map f (drop n xs)) ≤ length (flat_map f xs)
length-last f zero xs = omega arith
length-last f (suc n) [] = omega arith
length-last f (suc n) (x ∷ xs) =
    omega (arith, length-last f n xs, length-append (f x) (flat_map f xs))

-- a prefix that was kept is that of the step
kept_prefix : (loose : Bool) (prefix nodes : Prefix) → nodes_of (Ipv4 loose prefix) ≡ Some nodes → prefix ≡ nodes
kept_prefix loose prefix nodes e =
    elim (nat_le prefix.length 32) as (λ b. (if b then Some prefix else None) ≡ Some nodes → prefix ≡ nodes) [
      | true ↦ λ is. cc
      | false ↦ λ is. absurd cc
    ] e

-- the bytes of a step that leads to nodes
length-step : (step : Step) (nodes : Prefix) → nodes_of step ≡ Some nodes → length nodes.address.octets ≡ 4 → length (step_bytes step) ≡ 8
length-step (Ipv4 loose prefix) nodes e four =
    let same = kept_prefix loose prefix nodes e in
    rw same (omega (arith, length-append nodes.address.octets (nodes.length ∷ 0 ∷ [])))
length-step (Other bytes) nodes e four = absurd cc

-- behind a step that leads to nodes, the last steps of a route leave room for one more
pub room_for_one : (first : Step) (nodes : Prefix) (others : List Step) (n : ℕ) → nodes_of first ≡ Some nodes → length nodes.address.octets ≡ 4 → length (route_bytes (first ∷ others)) ≤ 65528 → length (route_bytes (drop n others)) + 8 ≤ 65528
room_for_one first nodes others n e four fits =
    let whole = length-append (step_bytes first) (route_bytes others) in
    omega (arith, length-step first nodes e four, length-last step_bytes n others)
