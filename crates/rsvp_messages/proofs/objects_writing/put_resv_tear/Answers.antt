-- Each object is read as itself.
use Rattle.std.proofs.Common.{List, ◌∷◌, map, subst}
use Rattle.std.specs.List.{All}
use Rattle.std.proofs.lemmas.List.Elements.{All-cons}
use Rattle.std.proofs.lemmas.Result.{on_err_weaker, on_ok_weaker}
use Rattle.rsvp_objects.specs.declared.object.Object.{Object}
use Rattle.rsvp_objects.specs.declared.object.Object.TheVariants as objects
use Rattle.rsvp_objects.specs.declared.values.Template.{Template}
use Rattle.rsvp_objects.specs.Objects.{spelling}
use Rattle.rsvp_messages.specs.Parts.{IsSpelled}
use Rattle.rsvp_messages.proofs.Appended.{front_behind}
use Rattle.rsvp_messages.proofs.objects_writing.put_resv_tear.Goals as goal

pub returns-clause-spelled : goal.returns-clause-spelled
returns-clause-spelled c =
    let t = c.args.tear.now in
    let rest : List Object = map objects.FilterSpec t.filters in
    on_ok_weaker c.put_filters.result
    (λ spelled. All-cons IsSpelled (objects.Session t.session) (objects.Hop t.hop ∷ objects.Style t.style ∷ rest) c.in_ok-write_object.ensures.again
    (All-cons IsSpelled (objects.Hop t.hop) (objects.Style t.style ∷ rest) c.in_ok-write_object-2.ensures.again
    (All-cons IsSpelled (objects.Style t.style) rest c.in_ok-write_object-3.ensures.again
    (subst (λ (v : List Template). All IsSpelled (map objects.FilterSpec v)) c.as_slice.ensures spelled))))
    c.put_filters.ensures.spelled

-- What stood there stays where the last part isn't written.
pub returns-clause-err : goal.returns-clause-err
returns-clause-err c =
    let t = c.args.tear.now in
    let start = c.args.out.now.items in
    let end = c.put_filters.new.out.items in
    on_err_weaker c.put_filters.result
    (λ front. front_behind start c.write_object.new.out.items end (spelling (objects.Session t.session)) c.in_ok-write_object.ensures.ok
    (front_behind c.write_object.new.out.items c.write_object-2.new.out.items end (spelling (objects.Hop t.hop)) c.in_ok-write_object-2.ensures.ok
    (front_behind c.write_object-2.new.out.items c.write_object-3.new.out.items end (spelling (objects.Style t.style)) c.in_ok-write_object-3.ensures.ok front)))
    c.put_filters.ensures.err
