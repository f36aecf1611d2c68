use Rattle.std.proofs.Common.{◌≡◌, ◌∙◌, ◌-◌, ◌<◌, ◌≤◌, ◌++◌, ◌∷◌, [], None, length, replicate, ap, arith}
use Rattle.std.proofs.lemmas.List.{take_all}
use Rattle.lookup_plane.specs.Slots.{padded, with_slot}
use Rattle.lookup_plane.proofs.Padding.{padded-grown, padded-kept, padded-set}
use Rattle.lookup_plane.proofs.tunnel_slots.TunnelSlots.set.Goals as goal

pub returns-then-place-len : goal.returns-then-place-len
returns-then-place-len c =
    let slots = c.self.inside.slots.items in
    rw (c.from-place.ensures, ← c.self.view_is)
    (padded-set 65536 c.args.number slots c.args.action (let h : c.args.number < length slots = omega (arith, c.if-place-len.true, c.from-place.ensures, c.len.ensures) in h))

pub returns-then-is_some : goal.returns-then-is_some
returns-then-is_some c =
    let number = c.args.number in
    let slots = c.self.inside.slots.items in
    let beyond : length slots ≤ number = omega (arith, c.if-place-len.false, c.from-place.ensures, c.len.ensures) in
    let filled : c.resize.new.self.items ≡ slots ++ replicate (number - length slots) None = grind (arith, take_all, c.resize.ensures.items, c.unwrap.ensures, c.from-place.ensures, beyond) in
    ap (λ all. padded 65536 all) (c.push_reserved.ensures.items ∙ ap (λ all. all ++ c.args.action ∷ []) filled)
    ∙ padded-grown 65536 number slots c.args.action beyond (omega (arith, c.ranges.number))
    ∙ ap (with_slot 0 (number, c.args.action)) c.self.view_is

pub returns-else-is_some : goal.returns-else-is_some
returns-else-is_some c =
    let number = c.args.number in
    let slots = c.self.inside.slots.items in
    let beyond : length slots ≤ number = omega (arith, c.if-place-len.false, c.from-place.ensures, c.len.ensures) in
    let none : c.args.action ≡ None = grind (arith, c.if-is_some.ensures) in
    rw (none, ← c.self.view_is) (padded-kept 65536 number slots beyond)
