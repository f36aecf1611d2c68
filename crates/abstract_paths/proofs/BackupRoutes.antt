-- The route of an LSP that goes on over a bypass is within the limits, where what is left of its route is.
use Rattle.std.specs.Prelude.{Bool, true, false, if◌then◌else◌, IsTrue, List, [], ◌∷◌, drop, length, Option, Some, None, IfSome}
use Rattle.std.specs.List.{list_all}
use Rattle.std.specs.Net.Addr.{ipv4_octets}
use Rattle.std.specs.Option.{option_map_or, unwrap_or}
use Rattle.std.specs.declared.net.ipv4_addr.Ipv4Addr.{Ipv4Addr}
use Rattle.std.proofs.Common.{refl, arith, length-append}
use Rattle.std.proofs.lemmas.Bool.{and_from, cond_both, eq-eqb, false≢true}
use Rattle.rsvp_objects.specs.Ranges.{IsAddress}
use Rattle.rsvp_contents.specs.Limits.{is_address, is_short_route, step_has_address}
use Rattle.rsvp_bodies.specs.declared.step.Step.{Step}
use Rattle.rsvp_bodies.specs.declared.step.Step.TheVariants.{Ipv4, Other}
use Rattle.rsvp_bodies.specs.Steps.{step_bytes}
use Rattle.abstract_paths.proofs.NextHops.{HasRoomBefore, room-behind, room-drop, room-step}
use Rattle.abstract_paths.specs.BackupRoutes.{route_after, steps_after}
use Rattle.abstract_paths.specs.Places.{contains}
use Rattle.abstract_paths.specs.Routing.{nodes_of}
use Rattle.abstract_paths.specs.RowLaws.{option_or-holds}
use Rattle.abstract_paths.specs.Soundness.{begins_with_ipv4}

-- what follows the first step of a route leaves room before it
room-after_first : (steps : List Step) → IsTrue (is_short_route steps) → IsTrue (begins_with_ipv4 steps) → HasRoomBefore (drop 1 steps)
room-after_first [] short begins = record { count = omega arith; size = omega arith; addresses = refl }
room-after_first (Ipv4 loose prefix ∷ steps) short begins = room-behind loose prefix steps short
room-after_first (Other bytes ∷ steps) short begins = absurd (false≢true begins)

-- and so does what follows the last one that leads to an address
room-steps_after : (a : Ipv4Addr) (steps : List Step) → HasRoomBefore (drop 1 steps) → IfSome (steps_after a steps) HasRoomBefore
unfolding steps_after
room-steps_after a [] room = tt
room-steps_after a (step ∷ steps) room =
    option_or-holds HasRoomBefore (steps_after a steps) _ (room-steps_after a steps (room-drop 1 steps room))
    (cond_both (option_map_or (λ nodes. contains nodes a) (nodes_of step) false) (Some steps) None (λ o. IfSome o HasRoomBefore) (λ leads. room) (λ other. tt))

-- one loose step to an address leaves room before it
room-loosely : (a : Ipv4Addr) → IsAddress a → HasRoomBefore (Ipv4 true (record { address = a; length = 32 }) ∷ [])
room-loosely a four = record {
  count = omega arith;
  size = omega (arith, four, length-append (step_bytes (Ipv4 true (record { address = a; length = 32 }))) [], length-append (ipv4_octets a) (32 ∷ 0 ∷ []));
  addresses = and_from (is_address a) (list_all step_has_address []) (eq-eqb (length (ipv4_octets a)) 4 four) refl;
}

-- what holds of what may be there, and of another in its place, holds of the one that is taken
unwrap_or-holds : {A : Type 0} (P : A → Type 0) (o : Option A) (other : A) → IfSome o P → P other → P (unwrap_or o other)
unwrap_or-holds P None other g h = h
unwrap_or-holds P (Some x) other g h = g

-- The route from a bypass's far end on is within the limits.
pub route_after-short : (endpoint far : Ipv4Addr) (is_nnhop : Bool) (steps : List Step) → IsAddress endpoint → IsAddress far → IsTrue (is_short_route steps) → IsTrue (begins_with_ipv4 steps) → IsTrue (is_short_route (route_after endpoint far is_nnhop steps))
route_after-short endpoint far is_nnhop steps endpoint_four far_four short begins =
    let towards : List Step = Ipv4 true (record { address = endpoint; length = 32 }) ∷ [] in
    let room = room-after_first steps short begins in
    room-step far (if is_nnhop then unwrap_or (steps_after far steps) towards else drop 1 steps) far_four
    (cond_both is_nnhop (unwrap_or (steps_after far steps) towards) (drop 1 steps) HasRoomBefore
    (λ later. unwrap_or-holds HasRoomBefore (steps_after far steps) towards (room-steps_after far steps room) (room-loosely endpoint endpoint_four))
    (λ next. room))
