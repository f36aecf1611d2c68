-- Each object is read as itself.
use Rattle.std.proofs.Common.{List, [], ◌∷◌, ◌++◌, subst, sym}
use Rattle.std.specs.List.{All}
use Rattle.std.specs.Option.{option_map}
use Rattle.std.proofs.lemmas.List.{append-nil}
use Rattle.std.proofs.lemmas.List.Elements.{All-append, All-cons}
use Rattle.std.proofs.lemmas.Result.{on_ok_weaker}
use Rattle.rsvp_objects.specs.declared.object.Object.{Object}
use Rattle.rsvp_objects.specs.declared.object.Object.TheVariants as objects
use Rattle.rsvp_contents.specs.Flows.{flowspec_objects, if_some}
use Rattle.rsvp_messages.specs.Parts.{IsSpelled}
use Rattle.rsvp_messages.proofs.flows_writing.put_flow_descriptor.Goals as goal

pub returns-clause-spelled : goal.returns-clause-spelled
returns-clause-spelled c =
    let d = c.args.descriptor.now in
    let route : List Object = if_some d.recorded objects.RecordRoute in
    on_ok_weaker c.put_record.result
    (λ spelled. All-append IsSpelled (flowspec_objects (option_map (λ f. f.now) c.args.before) d.flowspec) (objects.FilterSpec d.filter ∷ objects.Label d.label ∷ (route ++ [])) c.in_ok-put_flowspec.ensures.spelled
    (All-cons IsSpelled (objects.FilterSpec d.filter) (objects.Label d.label ∷ (route ++ [])) c.in_ok-write_object.ensures.again
    (All-cons IsSpelled (objects.Label d.label) (route ++ []) c.in_ok-write_object-2.ensures.again
    (subst (λ (v : List Object). All IsSpelled v) (sym (append-nil route)) spelled))))
    c.put_record.ensures.spelled
