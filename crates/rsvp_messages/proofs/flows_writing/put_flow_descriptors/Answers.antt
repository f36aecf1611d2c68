use Rattle.std.proofs.Common.{rules, ◌∷◌, [], ◌+◌, None, Some, drop}
use Rattle.std.specs.Option.{option_map}
use Rattle.rsvp_contents.specs.Flows.{flow_objects}
use Rattle.rsvp_messages.proofs.Appended.{flow_left, front_stays, more_written, none_written, on_err_from}
use Rattle.rsvp_messages.proofs.flows_writing.put_flow_descriptors.Goals as goal

pub loop-descriptor-init : goal.loop-descriptor-init
loop-descriptor-init c = none_written c.args.out.now.items (flow_objects None c.args.descriptors.now) (search rules)

pub loop-descriptor-preserved : goal.loop-descriptor-preserved
loop-descriptor-preserved c =
    let before = option_map (λ f. f.now) c.loop-descriptor.before in
    let all = c.args.descriptors.now in
    let d = c.descriptor-item.result in
    let i = c.loop-descriptor.descriptor-index in
    more_written c.args.out.now.items c.loop-descriptor.out.items c.put_flow_descriptor.new.out.items (flow_objects None all)
    (flow_objects before (drop i all)) (flow_objects before (d ∷ [])) (flow_objects (Some d.flowspec) (drop (i + 1) all))
    c.loop-descriptor.invariant
    (flow_left before all i d c.loop-descriptor-test.true c.descriptor-item.is)
    c.in_ok-put_flow_descriptor.ensures.ok
    c.in_ok-put_flow_descriptor.ensures.spelled

pub returns-in_err-put_flow_descriptor-clause-err : goal.returns-in_err-put_flow_descriptor-clause-err
returns-in_err-put_flow_descriptor-clause-err c =
    let before = option_map (λ f. f.now) c.loop-descriptor.before in
    let all = c.args.descriptors.now in
    on_err_from c.from_residual.result
    (front_stays c.args.out.now.items c.loop-descriptor.out.items c.put_flow_descriptor.new.out.items (flow_objects None all) (flow_objects before (drop c.loop-descriptor.descriptor-index all))
    c.loop-descriptor.invariant c.in_err-put_flow_descriptor.ensures.err)
