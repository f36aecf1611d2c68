use Rattle.std.proofs.Common.{sym, subst, drop}
use Rattle.left_right.specs.Sides.{view}
use Rattle.lookup_plane.specs.Changes.{IsChangeOf}
use Rattle.lookup_plane.specs.Published.{IsWriting}
use Rattle.lookup_plane.specs.declared.rule.View.{View}
use Rattle.lookup_plane.specs.declared.slots.Slots.{Slots}
use Rattle.lookup_plane.proofs.Turns.{writes_appended}
use Rattle.lookup_plane.proofs.plane.Plane.append.Goals as goal

pub invariant_of-self : goal.invariant_of-self
invariant_of-self g c =
    let first = c.self.inside.first_label in
    let last = c.self.inside.last_label in
    let after = drop c.append.new.self.behind c.append.new.self.log.items in
    let is : IsChangeOf first last c.args.change = subst (λ m. IsChangeOf m.first_label m.last_label c.args.change) (sym c.self.view_is) c.requires in
    subst (λ desk. IsWriting first last desk.shown.value (view {T = Slots} {V = View} desk.place).seen after) (sym c.append.ensures.desk)
    (writes_appended first last _ _ _ after c.args.change c.append.result (rw c.in-Some.is at c.self.invariant) is c.append.ensures.pending)
