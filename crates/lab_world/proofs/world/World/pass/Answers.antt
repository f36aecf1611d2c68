-- A frame that is passed on is one frame more.
use Rattle.std.specs.Prelude.{◌≡◌, ◌++◌, [], ◌∷◌, List, Ok, map}
use Rattle.std.proofs.Common.{ap, refl, subst, sym, ◌∙◌}
use Rattle.abstract_paths.specs.declared.events.Output.{Output}
use Rattle.abstract_world.specs.Worlds.{WorldState, sent_by, with_frames}
use Rattle.abstract_world.specs.declared.sent.Sent.{Sent}
use Rattle.abstract_world.specs.declared.told.Answer.TheVariants as answers
use Rattle.datagrams.specs.declared.datagram.Datagram.TheVariants as kinds
use Rattle.datagrams.specs.declared.datagram.Passed.{Passed}
use Rattle.datagrams.specs.declared.datagram.Passed.TheVariants as passes
use Rattle.lab_world.specs.Invariant.{IsSoundWorld}
use Rattle.lab_world.specs.Steps.{ComesTrue}
use Rattle.lab_world.proofs.Keeping.{kept_passed}
use Rattle.lab_world.proofs.world.World.pass.Goals as goal

pub invariant_of-self-in-Sent : goal.invariant_of-self-in-Sent
invariant_of-self-in-Sent c =
    let inside = c.self.inside in
    let place = c.args.place in
    let passed : Passed = passes.Sent c.in-Sent.link c.in-Sent.frame in
    let output : Output = record { link = c.in-Sent.link; frame = c.in-Sent.frame } in
    let view : WorldState = record { routers = inside.routers.items; joints = inside.joints.items; frames = inside.frames.items; given = inside.given.items } in
    let came : ComesTrue view place (Ok (kinds.Passed passed)) =
    subst (λ (w : WorldState). ComesTrue w place (Ok (kinds.Passed passed))) (sym c.self.view_is) (subst (λ (p : Passed). ComesTrue c.args.self.now place (Ok (kinds.Passed p))) c.in-Sent.is c.requires) in
    let frames : c.push_reserved.new.self.items ≡ inside.frames.items ++ map (sent_by place) (output ∷ []) = c.push_reserved.ensures.items ∙ ap (λ (l : List Sent). l ++ sent_by place output ∷ []) c.reserve.ensures.items in
    subst IsSoundWorld (λ i. record { routers = inside.routers.items; joints = inside.joints.items; frames = sym frames i; given = inside.given.items })
    (kept_passed view place passed answers.PassedOn (with_frames place (output ∷ []) view) c.self.invariant came (refl, refl))
