-- A wire leads to a router of the world.
use Rattle.std.specs.Prelude.{◌≡◌, ◌<◌, List, Option, IfSome, length}
use Rattle.std.proofs.Common.{ap, subst, sym, ◌∙◌}
use Rattle.abstract_world.specs.Wires.{other_end}
use Rattle.abstract_world.specs.Worlds.{WorldState, sent_over}
use Rattle.abstract_world.specs.declared.joint.End.{End}
use Rattle.abstract_world.specs.declared.joint.Joint.{Joint}
use Rattle.lab_world.specs.Invariant.{IsWorld}
use Rattle.lab_world.proofs.Leading.{leads_in_world}
use Rattle.lab_world.proofs.world.World.end_of.Goals as goal

pub returns-clause-there : goal.returns-clause-there
returns-clause-there c =
    let w = c.args.self.now in
    let world : IsWorld w.routers w.joints = subst (λ (v : WorldState). IsWorld v.routers v.joints) c.self.view_is c.self.invariant.world in
    let over = sent_over c.args.sent.now in
    let is : c.other_end.result ≡ other_end w.joints over = c.other_end.ensures ∙ ap (λ (joints : List Joint). other_end joints over) (c.as_slice.ensures.value ∙ ap (λ (v : WorldState). v.joints) c.self.view_is) in
    subst (λ (o : Option End). IfSome o (λ end. end.router < length w.routers)) (sym is) (leads_in_world w over world.joined)
