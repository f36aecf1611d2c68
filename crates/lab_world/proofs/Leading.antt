-- A wire leads to a router that is there.
use Rattle.std.specs.Prelude.{◌≡◌, ◌<◌, ℕ, true, List, length, take, slice_get, Option, Some, None, IfSome, is_some}
use Rattle.std.specs.Option.{option_and_then, option_map_or}
use Rattle.std.proofs.Common.{refl, ap, subst, sym, inl, inr, ◌∙◌}
use Rattle.std.proofs.lemmas.Bool.{and_parts}
use Rattle.std.proofs.lemmas.List.{length-map}
use Rattle.std.proofs.lemmas.Option.{slice_get_within}
use Rattle.lsr_facts.specs.Routers.{link_at}
use Rattle.lsr_facts.specs.declared.router.Router.{Router}
use Rattle.abstract_router.specs.States.{RouterState}
use Rattle.abstract_world.specs.Wires.{AreJoined, can_join, link_of, other_end}
use Rattle.abstract_world.specs.Worlds.{WorldState, routers_in}
use Rattle.abstract_world.specs.declared.joint.End.{End}
use Rattle.abstract_world.specs.declared.joint.Joint.{Joint}
use Rattle.world_laws.proofs.Wired.{found_wire}

-- where a link is there, its router is
link_there : (routers : List Router) (e : End) → is_some (link_of routers e) ≡ true → e.router < length routers
link_there routers e is = by (slice_get routers e.router) refl is where
  by : (o : Option Router) → slice_get routers e.router ≡ o → is_some (option_and_then (λ r. link_at r e.link) o) ≡ true → e.router < length routers
  by None at is = absurd (let e = is in cc)
  by (Some r) at is = slice_get_within routers e.router r at

-- both links of a wire that could be put up are there
links_there : (routers : List Router) (others : List Joint) (j : Joint) → can_join routers others j ≡ true → (j.one.router < length routers) × (j.other.router < length routers)
links_there routers others j is =
    let first = (and_parts _ _ (and_parts _ _ (and_parts _ _ is).0).0).0 in
    let both = and_parts _ _ first in
    (link_there routers j.one both.0, link_there routers j.other both.1)

-- a wire leads to a router that is there
pub leads_there : (routers : List Router) (joints : List Joint) (e f : End) → AreJoined routers joints → other_end joints e ≡ Some f → f.router < length routers
leads_there routers joints e f joined is =
    let wire = found_wire joints e f is in
    let can = joined wire.place (slice_get_within joints wire.place wire.joint wire.there) in
    let both = links_there routers (take wire.place joints) wire.joint (sym (ap (λ (o : Option Joint). option_map_or (can_join routers (take wire.place joints)) o true) wire.there) ∙ can) in
    elim wire.leads [ inl at ↦ subst (λ (g : End). g.router < length routers) at both.1 | inr at ↦ subst (λ (g : End). g.router < length routers) at both.0 ]

-- so it is in a world
pub leads_in_world : (w : WorldState) (e : End) → AreJoined (routers_in w.routers) w.joints → IfSome (other_end w.joints e) (λ f. f.router < length w.routers)
leads_in_world w e joined = by (other_end w.joints e) refl where
  by : (o : Option End) → other_end w.joints e ≡ o → IfSome o (λ f. f.router < length w.routers)
  by None is = tt
  by (Some f) is = subst (λ (n : ℕ). f.router < n) (length-map w.routers (λ (q : RouterState). q.router)) (leads_there (routers_in w.routers) w.joints e f joined is)
