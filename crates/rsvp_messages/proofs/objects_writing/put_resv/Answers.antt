-- Each object is read as itself.
use Rattle.std.proofs.Common.{List, ◌∷◌, ◌++◌, None, map, subst}
use Rattle.std.specs.List.{All, flat_map}
use Rattle.std.proofs.lemmas.List.Elements.{All-append, All-cons}
use Rattle.std.proofs.lemmas.Result.{on_err_weaker, on_ok_weaker}
use Rattle.rsvp_objects.specs.declared.object.Object.{Object}
use Rattle.rsvp_objects.specs.declared.object.Object.TheVariants as objects
use Rattle.rsvp_objects.specs.Raw.{Raw}
use Rattle.rsvp_contents.specs.declared.descriptors.FlowDescriptor.{FlowDescriptor}
use Rattle.rsvp_contents.specs.Flows.{flow_objects}
use Rattle.rsvp_objects.specs.Objects.{spelling}
use Rattle.rsvp_messages.specs.Parts.{IsSpelled}
use Rattle.rsvp_messages.proofs.Appended.{front_behind, on_err_from}
use Rattle.rsvp_messages.proofs.objects_writing.put_resv.Goals as goal

pub returns-clause-spelled : goal.returns-clause-spelled
returns-clause-spelled c =
    let r = c.args.resv.now in
    let flows : List Object = flow_objects None r.descriptors in
    let passed : All IsSpelled (map objects.Other r.passing) =
    subst (λ (v : List Raw). All IsSpelled (map objects.Other v)) c.as_slice.ensures c.in_ok-put_passing.ensures.spelled in
    on_ok_weaker c.put_flow_descriptors.result
    (λ spelled. All-cons IsSpelled (objects.Session r.session) (objects.Hop r.hop ∷ objects.TimeValues r.time ∷ (map objects.Other r.passing ++ (objects.Style r.style ∷ flows))) c.in_ok-write_object.ensures.again
    (All-cons IsSpelled (objects.Hop r.hop) (objects.TimeValues r.time ∷ (map objects.Other r.passing ++ (objects.Style r.style ∷ flows))) c.in_ok-write_object-2.ensures.again
    (All-cons IsSpelled (objects.TimeValues r.time) (map objects.Other r.passing ++ (objects.Style r.style ∷ flows)) c.in_ok-write_object-3.ensures.again
    (All-append IsSpelled (map objects.Other r.passing) (objects.Style r.style ∷ flows) passed
    (All-cons IsSpelled (objects.Style r.style) flows c.in_ok-write_object-4.ensures.again
    (subst (λ (v : List FlowDescriptor). All IsSpelled (flow_objects None v)) c.as_slice-2.ensures spelled))))))
    c.put_flow_descriptors.ensures.spelled

-- What stood there stays where a part isn't written.
pub returns-in_err-put_passing-clause-err : goal.returns-in_err-put_passing-clause-err
returns-in_err-put_passing-clause-err c =
    let r = c.args.resv.now in
    let start = c.args.out.now.items in
    let end = c.put_passing.new.out.items in
    on_err_from c.from_residual-in_err-put_passing.result
    (front_behind start c.write_object.new.out.items end (spelling (objects.Session r.session)) c.in_ok-write_object.ensures.ok
    (front_behind c.write_object.new.out.items c.write_object-2.new.out.items end (spelling (objects.Hop r.hop)) c.in_ok-write_object-2.ensures.ok
    (front_behind c.write_object-2.new.out.items c.write_object-3.new.out.items end (spelling (objects.TimeValues r.time)) c.in_ok-write_object-3.ensures.ok
    c.in_err-put_passing.ensures.err)))

pub returns-clause-err : goal.returns-clause-err
returns-clause-err c =
    let r = c.args.resv.now in
    let start = c.args.out.now.items in
    let end = c.put_flow_descriptors.new.out.items in
    on_err_weaker c.put_flow_descriptors.result
    (λ front. front_behind start c.write_object.new.out.items end (spelling (objects.Session r.session)) c.in_ok-write_object.ensures.ok
    (front_behind c.write_object.new.out.items c.write_object-2.new.out.items end (spelling (objects.Hop r.hop)) c.in_ok-write_object-2.ensures.ok
    (front_behind c.write_object-2.new.out.items c.write_object-3.new.out.items end (spelling (objects.TimeValues r.time)) c.in_ok-write_object-3.ensures.ok
    (front_behind c.write_object-3.new.out.items c.put_passing.new.out.items end (flat_map spelling (map objects.Other c.as_slice.result.now)) c.in_ok-put_passing.ensures.ok
    (front_behind c.put_passing.new.out.items c.write_object-4.new.out.items end (spelling (objects.Style r.style)) c.in_ok-write_object-4.ensures.ok front)))))
    c.put_flow_descriptors.ensures.err
