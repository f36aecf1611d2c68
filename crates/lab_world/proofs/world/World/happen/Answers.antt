-- An event makes its step, or is left out.
use Rattle.std.specs.Prelude.{◌≡◌, ◌+◌, ◌≤◌, ◌<◌, ◌++◌, [], ◌∷◌, ℕ, List, Some, length, map, slice_get, vec_capacity, vec_len}
use Rattle.std.proofs.Common.{ap, refl, subst, sym, ◌∙◌}
use Rattle.std.proofs.lemmas.Option.{slice_get_read}
use Rattle.lsr_facts.specs.declared.key.Key.{Key}
use Rattle.abstract_paths.specs.declared.events.Made.{Made}
use Rattle.abstract_paths.specs.declared.events.Output.{Output}
use Rattle.abstract_router.specs.States.{RouterState}
use Rattle.abstract_router.specs.Steps.{Step}
use Rattle.abstract_world.specs.Worlds.{WorldState, given_by, sent_by, stepped}
use Rattle.abstract_world.specs.declared.sent.Sent.{Sent}
use Rattle.router_core.proofs.Making.{made_same}
use Rattle.lab_world.specs.Invariant.{IsSoundWorld}
use Rattle.lab_world.specs.Steps.{HappensTrue}
use Rattle.lab_world.proofs.Keeping.{kept_step}
use Rattle.lab_world.proofs.Stepping.{is_step, kept_so, told_left}
use Rattle.lab_world.proofs.world.World.happen.Goals as goal

pub returns-in-Err : goal.returns-in-Err
returns-in-Err c =
    let inside = c.self.inside in
    let q = c.index.result.now in
    let there : c.args.place < length inside.routers.items = subst (λ (w : WorldState). c.args.place < length w.routers) (sym c.self.view_is) c.requires.there in
    let known : slice_get inside.routers.items c.args.place ≡ Some q = slice_get_read inside.routers.items (length inside.routers.items) c.args.place q refl there c.index.ensures in
    let knows = subst (λ (w : WorldState). slice_get w.routers c.args.place ≡ Some q) c.self.view_is known in
    record {
      happens = told_left c.args.self.now c.args.place c.args.event c.in-Err.refusal q c.left_out.result knows c.in-Err.ensures.left c.left_out.ensures;
      kept = kept_so c.args.self.now c.left_out.result;
    }

pub make_at-labels-requires-clause-ready : goal.make_at-labels-requires-clause-ready
make_at-labels-requires-clause-ready c =
    let inside = c.self.inside in
    let q = c.index.result.now in
    let there : c.args.place < length inside.routers.items = subst (λ (w : WorldState). c.args.place < length w.routers) (sym c.self.view_is) c.requires.there in
    let known : slice_get inside.routers.items c.args.place ≡ Some q = slice_get_read inside.routers.items (length inside.routers.items) c.args.place q refl there c.index.ensures in
    (q, known, (c.args.event, c.in-Ok.ensures.ready))

pub send_all-requires : goal.send_all-requires
send_all-requires c =
    subst (λ (l : List Output). vec_len c.reserve.new.self + length l ≤ vec_capacity c.reserve.new.self)
    (c.outputs.ensures c.args.event ∙ sym (c.make_at-labels.ensures.outputs c.args.event)) c.in_ok-reserve.ensures.ok

pub give_all-requires : goal.give_all-requires
give_all-requires c =
    subst (λ (l : List (Key × ℕ)). vec_len c.reserve-2.new.self + length l ≤ vec_capacity c.reserve-2.new.self)
    (c.chosen.ensures c.args.event ∙ sym (c.make_at-labels.ensures.labels c.args.event) ∙ sym c.as_slice.ensures.rows) c.in_ok-reserve-2.ensures.ok

pub invariant_of-self-2 : goal.invariant_of-self-2
invariant_of-self-2 c =
    let inside = c.self.inside in
    let place = c.args.place in
    let event = c.args.event in
    let q = c.index.result.now in
    let there : place < length inside.routers.items = subst (λ (w : WorldState). place < length w.routers) (sym c.self.view_is) c.requires.there in
    let known : slice_get inside.routers.items place ≡ Some q = slice_get_read inside.routers.items (length inside.routers.items) place q refl there c.index.ensures in
    let now = c.make_at-labels.ensures.made q known in
    let labels = c.make_at-labels.result.0 in
    let outputs = c.make_at-labels.result.1 in
    let made : Made = record { event = event; labels = labels; reply = c.reply-reply.result; outputs = outputs } in
    let same : _ ≡ made = made_same event c.in-Ok.ready labels c.reply-reply.result outputs (c.make_at-labels.ensures.labels event) (c.reply-reply.ensures event) (c.make_at-labels.ensures.outputs event) in
    let step : Step q.router q.state made now.0 = subst (λ (m : Made). Step q.router q.state m now.0) same (now.3 event c.in-Ok.ensures.ready) in
    let frames = c.send_all.ensures ∙ ap (λ (l : List Sent). l ++ map (sent_by place) outputs) c.reserve.ensures.items in
    let given = c.give_all.ensures ∙ (λ i. c.reserve-2.ensures.items i ++ map (given_by place) (c.as_slice.ensures.rows i)) in
    let view : WorldState = record { routers = inside.routers.items; joints = inside.joints.items; frames = inside.frames.items; given = inside.given.items } in
    let came = subst (λ (w : WorldState). HappensTrue w place event) (sym c.self.view_is) c.requires.came in
    subst IsSoundWorld (sym (λ i. record { routers = now.1 i; joints = inside.joints.items; frames = frames i; given = given i })) (kept_step view place q made now.0 c.self.invariant came known step now.2)

pub returns-clause-happens : goal.returns-clause-happens
returns-clause-happens c =
    let inside = c.self.inside in
    let place = c.args.place in
    let event = c.args.event in
    let q = c.index.result.now in
    let there : place < length inside.routers.items = subst (λ (w : WorldState). place < length w.routers) (sym c.self.view_is) c.requires.there in
    let known : slice_get inside.routers.items place ≡ Some q = slice_get_read inside.routers.items (length inside.routers.items) place q refl there c.index.ensures in
    let knows = subst (λ (w : WorldState). slice_get w.routers place ≡ Some q) c.self.view_is known in
    let now = c.make_at-labels.ensures.made q known in
    let labels = c.make_at-labels.result.0 in
    let outputs = c.make_at-labels.result.1 in
    let made : Made = record { event = event; labels = labels; reply = c.reply-reply.result; outputs = outputs } in
    let then : RouterState = record { router = q.router; state = now.0 } in
    let same : _ ≡ made = made_same event c.in-Ok.ready labels c.reply-reply.result outputs (c.make_at-labels.ensures.labels event) (c.reply-reply.ensures event) (c.make_at-labels.ensures.outputs event) in
    let step : Step q.router q.state made now.0 = subst (λ (m : Made). Step q.router q.state m now.0) same (now.3 event c.in-Ok.ensures.ready) in
    let frames = c.send_all.ensures ∙ ap (λ (l : List Sent). l ++ map (sent_by place) outputs) c.reserve.ensures.items in
    let given = c.give_all.ensures ∙ (λ i. c.reserve-2.ensures.items i ++ map (given_by place) (c.as_slice.ensures.rows i)) in
    let changed = (λ i. record { routers = now.1 i; joints = inside.joints.items; frames = frames i; given = given i }) ∙ ap (stepped place then made) c.self.view_is in
    ((place, made) ∷ [], (made, refl, refl, refl, is_step c.args.self.now place q made now.0 _ knows step changed))
