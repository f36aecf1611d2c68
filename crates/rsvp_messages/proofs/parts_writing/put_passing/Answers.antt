use Rattle.std.proofs.Common.{rules, ◌+◌, drop, map}
use Rattle.rsvp_objects.specs.declared.object.Object.TheVariants as objects
use Rattle.rsvp_messages.proofs.Appended.{mapped_left, none_written, one_written}
use Rattle.rsvp_messages.proofs.parts_writing.put_passing.Goals as goal

pub loop-object-init : goal.loop-object-init
loop-object-init c = none_written c.args.out.now.items (map objects.Other c.args.passing.now) (search rules)

pub loop-object-preserved : goal.loop-object-preserved
loop-object-preserved c =
    let all = c.args.passing.now in
    let i = c.loop-object.object-index in
    one_written c.args.out.now.items c.loop-object.out.items c.write_opaque.new.out.items (map objects.Other all)
    (map objects.Other (drop i all)) (map objects.Other (drop (i + 1) all)) (objects.Other c.object-item.result)
    c.loop-object.invariant
    (mapped_left objects.Other all i c.object-item.result c.loop-object-test.true c.object-item.is)
    c.in_ok-write_opaque.ensures.ok
    c.in_ok-write_opaque.ensures.again
