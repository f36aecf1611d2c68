-- Each object is read as itself.
use Rattle.std.proofs.Common.{List, ◌∷◌}
use Rattle.std.proofs.lemmas.List.Elements.{All-cons}
use Rattle.std.proofs.lemmas.Result.{on_ok_weaker}
use Rattle.rsvp_objects.specs.declared.object.Object.{Object}
use Rattle.rsvp_objects.specs.declared.object.Object.TheVariants as objects
use Rattle.rsvp_contents.specs.Written.{if_some}
use Rattle.rsvp_messages.specs.Parts.{IsSpelled}
use Rattle.rsvp_messages.proofs.objects_writing.put_path_err.Goals as goal

pub returns-clause-spelled : goal.returns-clause-spelled
returns-clause-spelled c =
    let e = c.args.error.now in
    let rest : List Object = if_some e.tspec objects.SenderTspec in
    on_ok_weaker c.put_tspec.result
    (λ spelled. All-cons IsSpelled (objects.Session e.session) (objects.ErrorSpec e.error ∷ objects.SenderTemplate e.sender ∷ rest) c.in_ok-write_object.ensures.again
    (All-cons IsSpelled (objects.ErrorSpec e.error) (objects.SenderTemplate e.sender ∷ rest) c.in_ok-write_object-2.ensures.again
    (All-cons IsSpelled (objects.SenderTemplate e.sender) rest c.in_ok-write_object-3.ensures.again spelled)))
    c.put_tspec.ensures.spelled
