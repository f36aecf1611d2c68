use Rattle.std.proofs.Common.{◌∙◌, ap, is_some, subst, sym}
use Rattle.std.specs.List.{find}
use Rattle.std.specs.Prelude.{IfSome}
use Rattle.abstract_router.specs.States.{RouterState}
use Rattle.label_space.specs.FreeLabels.{MayBeGiven, has_free_label, is_free, labels_in}
use Rattle.plain_views.proofs.Freed.{is_found, may_be_given}
use Rattle.plain_views.proofs.sound.SoundViewWholeState.free_label.Goals as goal

pub returns-clause-given : goal.returns-clause-given
returns-clause-given c =
    let router = c.self.inside.known.router.now in
    let labels = c.self.inside.known.state.now.labels in
    let resting = c.self.inside.known.state.now.resting in
    let found = c.first_free.ensures ∙ ap (λ rows. find (is_free rows resting) (labels_in router.labels)) c.as_slice-labels.ensures.rows in
    subst (λ (s : RouterState). IfSome c.first_free.result (MayBeGiven s.router s.state.labels s.state.resting)) c.self.view_is (subst (λ label. IfSome label (MayBeGiven router labels resting)) (sym found) (may_be_given router labels resting))

pub returns-clause-free : goal.returns-clause-free
returns-clause-free c =
    let router = c.self.inside.known.router.now in
    let labels = c.self.inside.known.state.now.labels in
    let resting = c.self.inside.known.state.now.resting in
    let found = c.first_free.ensures ∙ ap (λ rows. find (is_free rows resting) (labels_in router.labels)) c.as_slice-labels.ensures.rows in
    ap is_some found ∙ is_found router labels resting ∙ ap (λ (s : RouterState). has_free_label s.router s.state.labels s.state.resting) c.self.view_is
