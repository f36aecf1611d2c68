use Rattle.std.proofs.Common.{rules, ◌+◌, [], drop, map, get_or}
use Rattle.std.proofs.lemmas.List.{get_or_default}
use Rattle.rsvp_objects.specs.declared.object.Object.TheVariants as objects
use Rattle.rsvp_objects.specs.declared.values.Template.{Template}
use Rattle.rsvp_messages.proofs.Appended.{mapped_left, none_written, one_written}
use Rattle.rsvp_messages.proofs.flows_writing.put_filters.Goals as goal

pub loop-filter-init : goal.loop-filter-init
loop-filter-init c = none_written c.args.out.now.items (map objects.FilterSpec c.args.filters.now) (search rules)

pub loop-filter-preserved : goal.loop-filter-preserved
loop-filter-preserved c =
    let all = c.args.filters.now in
    let i = c.loop-filter.filter-index in
    let t : Template = get_or all i (record { sender = record { octets = [] }; lsp = 0 }) in
    one_written c.args.out.now.items c.loop-filter.out.items c.write_object.new.out.items (map objects.FilterSpec all)
    (map objects.FilterSpec (drop i all)) (map objects.FilterSpec (drop (i + 1) all)) (objects.FilterSpec t)
    c.loop-filter.invariant
    (mapped_left objects.FilterSpec all i t c.loop-filter-test.true (get_or_default all i _ t c.loop-filter-test.true))
    c.in_ok-write_object.ensures.ok
    c.in_ok-write_object.ensures.again
