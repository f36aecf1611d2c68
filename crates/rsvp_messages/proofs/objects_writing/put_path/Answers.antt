-- Each object is read as itself.
use Rattle.std.proofs.Common.{List, ◌++◌, subst}
use Rattle.std.specs.List.{All}
use Rattle.std.proofs.lemmas.List.Elements.{All-append}
use Rattle.std.proofs.lemmas.Result.{on_ok_weaker}
use Rattle.rsvp_objects.specs.declared.object.Object.{Object}
use Rattle.rsvp_objects.specs.Raw.{Raw}
use Rattle.rsvp_contents.specs.declared.messages.Path.{Path}
use Rattle.rsvp_contents.specs.Written.{before_sender, path_objects}
use Rattle.rsvp_messages.specs.Parts.{IsSpelled, path_sender, path_start, path_wish}
use Rattle.rsvp_messages.proofs.Appended.{path_parts}
use Rattle.rsvp_messages.proofs.objects_writing.put_path.Goals as goal

all_spelled : (p : Path) → All IsSpelled (path_start p) → All IsSpelled (path_wish p) → All IsSpelled (before_sender p.passing) → All IsSpelled (path_sender p) → All IsSpelled (path_objects p)
all_spelled p start wish passed sender =
    subst (λ (v : List Object). All IsSpelled v) (path_parts p)
    (All-append IsSpelled (path_start p) (path_wish p ++ (before_sender p.passing ++ path_sender p)) start
    (All-append IsSpelled (path_wish p) (before_sender p.passing ++ path_sender p) wish
    (All-append IsSpelled (before_sender p.passing) (path_sender p) passed sender)))

pub returns-clause-spelled : goal.returns-clause-spelled
returns-clause-spelled c =
    let passed : All IsSpelled (before_sender c.args.path.now.passing) =
    subst (λ (v : List Raw). All IsSpelled (before_sender v)) c.as_slice.ensures c.in_ok-put_before_sender.ensures.spelled in
    on_ok_weaker c.put_path_sender.result
    (all_spelled c.args.path.now c.in_ok-put_path_start.ensures.spelled c.in_ok-put_path_wish.ensures.spelled passed)
    c.put_path_sender.ensures.spelled
