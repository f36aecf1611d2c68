-- What is kept as bytes spells itself: its numbers are bytes, and its class and C-Type have no form of their own.
use Rattle.std.proofs.Common.{rules, subst, List, ℕ}
use Rattle.std.proofs.lemmas.Result.{on_ok_weaker}
use Rattle.rsvp_bodies.specs.Bodies.{IsBody}
use Rattle.rsvp_objects.specs.declared.object.Object.TheVariants as objects
use Rattle.rsvp_objects.specs.Raw.{IsRaw}
use Rattle.rsvp_objects.proofs.Spelled.{object_again}
use Rattle.rsvp_objects.proofs.writing.write_opaque.Goals as goal

pub returns-clause-again : goal.returns-clause-again
returns-clause-again c =
    let body : IsBody c.args.value.now.body = subst (λ (b : List ℕ). IsBody b) c.body.ensures.body c.as_slice.ensures.fits in
    let raw : IsRaw c.args.value.now = record { class = search rules; ctype = search rules; body = body } in
    on_ok_weaker c.or_undo.result (λ _. object_again (objects.Other c.args.value.now) (raw, c.body.ensures.kept)) c.or_undo.ensures.ok
