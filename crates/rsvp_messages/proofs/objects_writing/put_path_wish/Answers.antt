-- Each object is read as itself.
use Rattle.std.proofs.Common.{List, ◌∷◌, ◌++◌}
use Rattle.std.proofs.lemmas.List.Elements.{All-append, All-cons}
use Rattle.std.proofs.lemmas.Result.{on_ok_weaker}
use Rattle.rsvp_objects.specs.declared.object.Object.{Object}
use Rattle.rsvp_objects.specs.declared.object.Object.TheVariants as objects
use Rattle.rsvp_contents.specs.Written.{if_some}
use Rattle.rsvp_messages.specs.Parts.{IsSpelled}
use Rattle.rsvp_messages.proofs.objects_writing.put_path_wish.Goals as goal

pub returns-clause-spelled : goal.returns-clause-spelled
returns-clause-spelled c =
    let p = c.args.path.now in
    let attr : List Object = if_some p.attr objects.SessionAttribute in
    let request : List Object = if_some p.fast_reroute objects.FastReroute in
    on_ok_weaker c.put_fast_reroute.result
    (λ rest. All-append IsSpelled (if_some p.route objects.ExplicitRoute) (objects.LabelRequest p.label_request ∷ (attr ++ request)) c.in_ok-put_route.ensures.spelled
    (All-cons IsSpelled (objects.LabelRequest p.label_request) (attr ++ request) c.in_ok-write_object.ensures.again
    (All-append IsSpelled attr request c.in_ok-put_attr.ensures.spelled rest)))
    c.put_fast_reroute.ensures.spelled
