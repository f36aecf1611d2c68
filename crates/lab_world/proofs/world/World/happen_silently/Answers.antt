-- A restart and a start make their step, or are left out.
use Rattle.std.specs.Prelude.{◌≡◌, ◌<◌, [], ◌∷◌, Some, length, slice_get}
use Rattle.std.proofs.Common.{ap, refl, subst, sym, ◌∙◌}
use Rattle.std.proofs.lemmas.List.{length-set}
use Rattle.std.proofs.lemmas.Option.{slice_get_read}
use Rattle.abstract_paths.specs.declared.events.Made.{Made}
use Rattle.abstract_router.specs.States.{RouterState}
use Rattle.abstract_router.specs.Steps.{Step}
use Rattle.abstract_world.specs.Worlds.{WorldState, stepped}
use Rattle.router_core.proofs.Making.{made_same}
use Rattle.lab_world.specs.Invariant.{IsSoundWorld}
use Rattle.lab_world.proofs.Keeping.{kept_step, quiet_true}
use Rattle.lab_world.proofs.Stepping.{gives_none, is_quiet, is_step, left_quiet, sends_none, stepped_quietly}
use Rattle.lab_world.proofs.world.World.happen_silently.Goals as goal

pub returns-in-Err-clause-happens : goal.returns-in-Err-clause-happens
returns-in-Err-clause-happens c =
    let inside = c.self.inside in
    let q = c.index.result.now in
    let there : c.args.place < length inside.routers.items = subst (λ (w : WorldState). c.args.place < length w.routers) (sym c.self.view_is) c.requires.there in
    let known : slice_get inside.routers.items c.args.place ≡ Some q = slice_get_read inside.routers.items (length inside.routers.items) c.args.place q refl there c.index.ensures in (
      [],
      (
        refl,
        record {
          router = q.router;
          state = q.state;
          knows = subst (λ (w : WorldState). slice_get w.routers c.args.place ≡ Some q) c.self.view_is known;
          why = left_quiet q.router q.state c.args.event c.in-Err.refusal (is_quiet q.router q.state c.args.event c.requires.silent) c.in-Err.ensures.left;
          kept = refl;
        },
      ),
    )

pub make_at-requires-clause-ready : goal.make_at-requires-clause-ready
make_at-requires-clause-ready c =
    let inside = c.self.inside in
    let q = c.index.result.now in
    let there : c.args.place < length inside.routers.items = subst (λ (w : WorldState). c.args.place < length w.routers) (sym c.self.view_is) c.requires.there in
    let known : slice_get inside.routers.items c.args.place ≡ Some q = slice_get_read inside.routers.items (length inside.routers.items) c.args.place q refl there c.index.ensures in
    (q, known, (c.args.event, c.in-Ok.ensures.ready))

pub invariant_of-self : goal.invariant_of-self
invariant_of-self c =
    let inside = c.self.inside in
    let place = c.args.place in
    let event = c.args.event in
    let q = c.index.result.now in
    let there : place < length inside.routers.items = subst (λ (w : WorldState). place < length w.routers) (sym c.self.view_is) c.requires.there in
    let known : slice_get inside.routers.items place ≡ Some q = slice_get_read inside.routers.items (length inside.routers.items) place q refl there c.index.ensures in
    let now = c.make_at.ensures.made q known in
    let labels = c.make_at.result.0 in
    let outputs = c.make_at.result.1 in
    let made : Made = record { event = event; labels = labels; reply = c.reply-reply.result; outputs = outputs } in
    let then : RouterState = record { router = q.router; state = now.0 } in
    let same : _ ≡ made = made_same event c.in-Ok.ready labels c.reply-reply.result outputs (c.make_at.ensures.labels event) (c.reply-reply.ensures event) (c.make_at.ensures.outputs event) in
    let step : Step q.router q.state made now.0 = subst (λ (m : Made). Step q.router q.state m now.0) same (now.3 event c.in-Ok.ensures.ready) in
    let quiet = is_quiet q.router q.state event c.requires.silent in
    let view : WorldState = record { routers = inside.routers.items; joints = inside.joints.items; frames = inside.frames.items; given = inside.given.items } in
    let changed = (λ i. record { routers = now.1 i; joints = inside.joints.items; frames = inside.frames.items; given = inside.given.items })
    ∙ stepped_quietly view place then made (sends_none q.router q.state made now.0 quiet step) (gives_none q.router q.state made now.0 quiet step) in
    subst IsSoundWorld (sym changed) (kept_step view place q made now.0 c.self.invariant (quiet_true view place event c.requires.silent) known step now.2)

pub returns-clause-happens : goal.returns-clause-happens
returns-clause-happens c =
    let inside = c.self.inside in
    let place = c.args.place in
    let event = c.args.event in
    let q = c.index.result.now in
    let there : place < length inside.routers.items = subst (λ (w : WorldState). place < length w.routers) (sym c.self.view_is) c.requires.there in
    let known : slice_get inside.routers.items place ≡ Some q = slice_get_read inside.routers.items (length inside.routers.items) place q refl there c.index.ensures in
    let knows = subst (λ (w : WorldState). slice_get w.routers place ≡ Some q) c.self.view_is known in
    let now = c.make_at.ensures.made q known in
    let labels = c.make_at.result.0 in
    let outputs = c.make_at.result.1 in
    let made : Made = record { event = event; labels = labels; reply = c.reply-reply.result; outputs = outputs } in
    let then : RouterState = record { router = q.router; state = now.0 } in
    let same : _ ≡ made = made_same event c.in-Ok.ready labels c.reply-reply.result outputs (c.make_at.ensures.labels event) (c.reply-reply.ensures event) (c.make_at.ensures.outputs event) in
    let step : Step q.router q.state made now.0 = subst (λ (m : Made). Step q.router q.state m now.0) same (now.3 event c.in-Ok.ensures.ready) in
    let quiet = is_quiet q.router q.state event c.requires.silent in
    let view : WorldState = record { routers = inside.routers.items; joints = inside.joints.items; frames = inside.frames.items; given = inside.given.items } in
    let changed = (λ i. record { routers = now.1 i; joints = inside.joints.items; frames = inside.frames.items; given = inside.given.items })
    ∙ stepped_quietly view place then made (sends_none q.router q.state made now.0 quiet step) (gives_none q.router q.state made now.0 quiet step)
    ∙ ap (stepped place then made) c.self.view_is in
    ((place, made) ∷ [], (made, refl, refl, refl, is_step c.args.self.now place q made now.0 _ knows step changed))

pub returns-clause-routers : goal.returns-clause-routers
returns-clause-routers c =
    let inside = c.self.inside in
    let q = c.index.result.now in
    let there : c.args.place < length inside.routers.items = subst (λ (w : WorldState). c.args.place < length w.routers) (sym c.self.view_is) c.requires.there in
    let known : slice_get inside.routers.items c.args.place ≡ Some q = slice_get_read inside.routers.items (length inside.routers.items) c.args.place q refl there c.index.ensures in
    let now = c.make_at.ensures.made q known in
    ap length now.1 ∙ length-set inside.routers.items c.args.place (record { router = q.router; state = now.0 }) ∙ ap (λ (w : WorldState). length w.routers) c.self.view_is
