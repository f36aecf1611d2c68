-- Each object is read as itself.
use Rattle.std.proofs.Common.{List, ◌∷◌, ◌++◌, subst}
use Rattle.std.specs.List.{All}
use Rattle.std.proofs.lemmas.List.Elements.{All-append, All-cons}
use Rattle.std.proofs.lemmas.Result.{on_ok_weaker}
use Rattle.rsvp_objects.specs.declared.object.Object.{Object}
use Rattle.rsvp_objects.specs.declared.object.Object.TheVariants as objects
use Rattle.rsvp_objects.specs.Raw.{Raw}
use Rattle.rsvp_contents.specs.Written.{adspec, if_some}
use Rattle.rsvp_messages.specs.Parts.{IsSpelled}
use Rattle.rsvp_messages.proofs.objects_writing.put_path_sender.Goals as goal

pub returns-clause-spelled : goal.returns-clause-spelled
returns-clause-spelled c =
    let passed : All IsSpelled (adspec c.args.path.now.passing) =
    subst (λ (v : List Raw). All IsSpelled (adspec v)) c.as_slice.ensures c.in_ok-put_adspec.ensures.spelled in
    let p = c.args.path.now in
    let rest : List Object = adspec p.passing ++ if_some p.recorded objects.RecordRoute in
    on_ok_weaker c.put_record.result
    (λ spelled. All-cons IsSpelled (objects.SenderTemplate p.sender) (objects.SenderTspec p.tspec ∷ rest) c.in_ok-write_object.ensures.again
    (All-cons IsSpelled (objects.SenderTspec p.tspec) rest c.in_ok-write_tspec.ensures.again
    (All-append IsSpelled (adspec p.passing) (if_some p.recorded objects.RecordRoute) passed spelled)))
    c.put_record.ensures.spelled
