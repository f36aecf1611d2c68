use Rattle.std.proofs.Common.{rules, ℕ, List, Option, subst, sym, ◌∷◌, [], ◌+◌, None, drop}
use Rattle.std.specs.Option.{option_map}
use Rattle.rsvp_contents.specs.Errors.{error_objects}
use Rattle.rsvp_messages.proofs.Appended.{error_left, IsWritten, front_stays, more_written, none_written, on_err_from}
use Rattle.rsvp_messages.proofs.flows_writing.put_error_descriptors.Goals as goal

pub loop-descriptor-init : goal.loop-descriptor-init
loop-descriptor-init c = none_written c.args.out.now.items (error_objects None c.args.descriptors.now) (search rules)

pub loop-descriptor-preserved : goal.loop-descriptor-preserved
loop-descriptor-preserved c =
    let before = option_map (λ f. f.now) c.loop-descriptor.before in
    let all = c.args.descriptors.now in
    let d = c.descriptor-item.result in
    let i = c.loop-descriptor.descriptor-index in
    subst (λ (v : Option (List ℕ)). IsWritten c.args.out.now.items c.put_error_descriptor.new.out.items (error_objects None all) (error_objects v (drop (i + 1) all)))
    (sym c.as_ref-before.ensures.value)
    (more_written c.args.out.now.items c.loop-descriptor.out.items c.put_error_descriptor.new.out.items (error_objects None all)
    (error_objects before (drop i all)) (error_objects before (d ∷ [])) (error_objects d.flowspec (drop (i + 1) all))
    c.loop-descriptor.invariant
    (error_left before all i d c.loop-descriptor-test.true c.descriptor-item.is)
    c.in_ok-put_error_descriptor.ensures.ok
    c.in_ok-put_error_descriptor.ensures.spelled)

pub returns-in_err-put_error_descriptor-clause-err : goal.returns-in_err-put_error_descriptor-clause-err
returns-in_err-put_error_descriptor-clause-err c =
    let before = option_map (λ f. f.now) c.loop-descriptor.before in
    let all = c.args.descriptors.now in
    on_err_from c.from_residual.result
    (front_stays c.args.out.now.items c.loop-descriptor.out.items c.put_error_descriptor.new.out.items (error_objects None all) (error_objects before (drop c.loop-descriptor.descriptor-index all))
    c.loop-descriptor.invariant c.in_err-put_error_descriptor.ensures.err)
