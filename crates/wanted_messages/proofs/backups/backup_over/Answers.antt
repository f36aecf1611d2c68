-- The Path through a bypass fits a message, and so does its route.
use Rattle.std.proofs.Common.{IsTrue, ap, subst, sym, ◌∙◌}
use Rattle.rsvp_contents.specs.Fitting.{HasRoom, fits_path}
use Rattle.rsvp_contents.specs.declared.messages.Content.TheVariants as contents
use Rattle.rsvp_contents.specs.declared.messages.Path.{Path}
use Rattle.abstract_router.specs.Through.{backup_path}
use Rattle.wanted_messages.specs.PathLaws.{route_fits}
use Rattle.wanted_messages.proofs.backups.backup_over.Goals as goal

pub backup_path-requires : goal.backup_path-requires
backup_path-requires g c =
    let link = c.in-Some.link.now in
    route_fits (backup_path (g.V.StateView.router c.args.view.now) c.args.key.now c.args.path.now c.args.repair.now c.args.bypass_tunnel.now link) (c.requires.message link).0

pub unwrap-message-requires : goal.unwrap-message-requires
unwrap-message-requires g c =
    let link = c.in-Some.link.now in
    let fits = c.requires.message link in
    let is = c.in_ok-backup.ensures ∙ ap (λ place. backup_path place.router c.args.key.now c.args.path.now c.args.repair.now c.args.bypass_tunnel.now link) c.node_of-node.ensures in
    (rw c.in_ok-content.ensures.ok at c.checked.ensures.room)
    (subst (λ (p : Path). IsTrue (fits_path p)) (sym is) fits.0)
    (subst (λ (p : Path). HasRoom (contents.Path p)) (sym is) fits.1)
