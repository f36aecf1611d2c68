-- The Path that goes on fits a message.
use Rattle.std.proofs.Common.{IsTrue, ap, subst, sym, ◌∙◌}
use Rattle.rsvp_contents.specs.Fitting.{HasRoom, fits_path}
use Rattle.rsvp_contents.specs.declared.messages.Content.TheVariants as contents
use Rattle.rsvp_contents.specs.declared.messages.Path.{Path}
use Rattle.abstract_paths.specs.Onward.{path_onward}
use Rattle.wanted_messages.proofs.downstream.downstream_row.Goals as goal

pub unwrap-message-requires : goal.unwrap-message-requires
unwrap-message-requires g c =
    let link = c.in-Some.link.now in
    let fits = c.requires link in
    let is = c.in_ok-onward.ensures ∙ ap (λ place. path_onward place.router c.args.key.now c.args.path.now link) c.node_of-node.ensures in
    (rw c.in_ok-content.ensures.ok at c.checked.ensures.room)
    (subst (λ (p : Path). IsTrue (fits_path p)) (sym is) fits.0)
    (subst (λ (p : Path). HasRoom (contents.Path p)) (sym is) fits.1)
