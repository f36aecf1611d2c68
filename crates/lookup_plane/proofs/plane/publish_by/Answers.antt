use Rattle.std.proofs.Common.{◌≡◌, ◌∙◌, ap, fold, subst}
use Rattle.std.proofs.lemmas.List.Elements.{All-nil}
use Rattle.lookup_plane.specs.Changes.{IsChangeOf}
use Rattle.lookup_plane.specs.Published.{content}
use Rattle.lookup_plane.specs.Slots.{absorbed}
use Rattle.lookup_plane.proofs.Turns.{adds, ok_part, shows_folded}
use Rattle.lookup_plane.proofs.plane.publish_by.Goals as goal

pub publish_as-writer-requires : goal.publish_as-writer-requires
publish_as-writer-requires g c next is =
    let w = c.requires.writing in
    let x = content c.args.writer.desk.shown.value in
    let made : content next ≡ fold absorbed x g.B.Batch.changes = subst (λ changes. content next ≡ fold absorbed x changes) c.requires.pending is in
    adds c.args.first_label c.args.last_label _ _ _ next _ w.slots w.pending c.requires.few w.shows made

pub returns-clause-writing : goal.returns-clause-writing
returns-clause-writing g c =
    let w = c.requires.writing in
    let x = content c.args.writer.desk.shown.value in
    let e = c.publish_as-writer.ensures in
    let values = ok_part _ _ c.publish_as-writer.result.1 (e.succeeds tt) e.values in
    let rule = ok_part _ _ c.publish_as-writer.result.1 (e.succeeds tt) e.rule in
    record {
      shows = rule.shows;
      slots = rw (values.0 ∙ ap (fold absorbed x) c.requires.pending) (shows_folded c.args.first_label c.args.last_label x _ _ w.slots w.pending c.requires.few w.shows).1;
      pending = All-nil (IsChangeOf c.args.first_label c.args.last_label);
    }
