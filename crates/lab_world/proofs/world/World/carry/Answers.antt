-- The frame comes to its router as the bytes that it is written as.
use Rattle.std.specs.Prelude.{◌≡◌, ◌<◌, ℕ, List, Some, length, slice_get}
use Rattle.std.proofs.Common.{refl, subst, sym, ◌∙◌}
use Rattle.std.proofs.lemmas.Option.{slice_get_read}
use Rattle.abstract_router.specs.Tables.{forwarded}
use Rattle.abstract_world.specs.Worlds.{WorldState}
use Rattle.datagrams.specs.Datagrams.{IsDatagram}
use Rattle.world_laws.proofs.Delivering.{carried_true}
use Rattle.lab_world.specs.Invariant.{IsSoundWorld}
use Rattle.lab_world.proofs.world.World.carry.Goals as goal

-- the frame as it comes
carried : goal.returns-clause-carried
carried c =
    let inside = c.self.inside in
    let end = c.in-Some-end_of.end in
    let q = c.index.result.now in
    let there : end.router < length inside.routers.items = subst (λ (w : WorldState). end.router < length w.routers) (sym c.self.view_is) c.in-Some-end_of.ensures.there in
    let known : slice_get inside.routers.items end.router ≡ Some q = slice_get_read inside.routers.items (length inside.routers.items) end.router q refl there c.index.ensures in
    record {
      sent = c.in-Some.sent.now;
      end = end;
      is_sent = sym c.in-Some.ensures;
      leads = sym c.in-Some-end_of.ensures.end;
      place_is = refl;
      router = q.router;
      state = q.state;
      knows = subst (λ (w : WorldState). slice_get w.routers end.router ≡ Some q) c.self.view_is known;
      spelled = c.in_ok-bytes.ensures.spelled;
      carried = c.in_ok-bytes.ensures.carried;
      read = subst (λ (bytes : List ℕ). IsDatagram q.router (forwarded q.router q.state) end.link bytes c.read-datagram.result) (c.as_slice.ensures.value ∙ c.in_ok-bytes.ensures.bytes_are) c.read-datagram.ensures;
    }

pub returns-clause-carried : goal.returns-clause-carried
returns-clause-carried c = carried c

pub returns-clause-came : goal.returns-clause-came
returns-clause-came c = λ closed.
    let w = c.args.self.now in
    let world : IsSoundWorld w = subst IsSoundWorld c.self.view_is c.self.invariant in
    carried_true w c.args.number c.in-Some-end_of.end.router c.read-datagram.result (record { joined = world.world.joined; closed = closed }) (world.so closed) (carried c)
