-- Each object is read as itself.
use Rattle.std.proofs.Common.{List, ◌∷◌, None, subst}
use Rattle.std.specs.List.{All}
use Rattle.std.proofs.lemmas.List.Elements.{All-cons}
use Rattle.std.proofs.lemmas.Result.{on_err_weaker, on_ok_weaker}
use Rattle.rsvp_objects.specs.declared.object.Object.{Object}
use Rattle.rsvp_objects.specs.declared.object.Object.TheVariants as objects
use Rattle.rsvp_contents.specs.declared.descriptors.ErrorDescriptor.{ErrorDescriptor}
use Rattle.rsvp_contents.specs.Errors.{error_objects}
use Rattle.rsvp_objects.specs.Objects.{spelling}
use Rattle.rsvp_messages.specs.Parts.{IsSpelled}
use Rattle.rsvp_messages.proofs.Appended.{front_behind}
use Rattle.rsvp_messages.proofs.objects_writing.put_resv_err.Goals as goal

pub returns-clause-spelled : goal.returns-clause-spelled
returns-clause-spelled c =
    let e = c.args.error.now in
    let rest : List Object = error_objects None e.descriptors in
    on_ok_weaker c.put_error_descriptors.result
    (λ spelled. All-cons IsSpelled (objects.Session e.session) (objects.Hop e.hop ∷ objects.ErrorSpec e.error ∷ objects.Style e.style ∷ rest) c.in_ok-write_object.ensures.again
    (All-cons IsSpelled (objects.Hop e.hop) (objects.ErrorSpec e.error ∷ objects.Style e.style ∷ rest) c.in_ok-write_object-2.ensures.again
    (All-cons IsSpelled (objects.ErrorSpec e.error) (objects.Style e.style ∷ rest) c.in_ok-write_object-3.ensures.again
    (All-cons IsSpelled (objects.Style e.style) rest c.in_ok-write_object-4.ensures.again
    (subst (λ (v : List ErrorDescriptor). All IsSpelled (error_objects None v)) c.as_slice.ensures spelled)))))
    c.put_error_descriptors.ensures.spelled

-- What stood there stays where the last part isn't written.
pub returns-clause-err : goal.returns-clause-err
returns-clause-err c =
    let e = c.args.error.now in
    let start = c.args.out.now.items in
    let end = c.put_error_descriptors.new.out.items in
    on_err_weaker c.put_error_descriptors.result
    (λ front. front_behind start c.write_object.new.out.items end (spelling (objects.Session e.session)) c.in_ok-write_object.ensures.ok
    (front_behind c.write_object.new.out.items c.write_object-2.new.out.items end (spelling (objects.Hop e.hop)) c.in_ok-write_object-2.ensures.ok
    (front_behind c.write_object-2.new.out.items c.write_object-3.new.out.items end (spelling (objects.ErrorSpec e.error)) c.in_ok-write_object-3.ensures.ok
    (front_behind c.write_object-3.new.out.items c.write_object-4.new.out.items end (spelling (objects.Style e.style)) c.in_ok-write_object-4.ensures.ok front))))
    c.put_error_descriptors.ensures.err
