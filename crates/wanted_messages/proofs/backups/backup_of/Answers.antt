-- The Path goes through the bypass as messages, under a label.
use Rattle.std.proofs.Common.{sym}
use Rattle.wanted_messages.specs.PathLaws.{goes_through, has_label}
use Rattle.wanted_messages.proofs.backups.backup_of.Goals as goal

pub backup_over-requires-clause-message : goal.backup_over-requires-clause-message
backup_over-requires-clause-message g c =
    let r = g.V.StateView.router c.args.view.now in
    let s = g.V.StateView.state c.args.view.now in
    goes_through r s.facts.moment c.args.key.now c.args.path.now c.args.repair.now c.in-Some.bypass_tunnel c.has_four_octets.ensures c.has_four_octets-2.ensures c.requires.path

pub backup_over-requires-clause-label : goal.backup_over-requires-clause-label
backup_over-requires-clause-label g c =
    let r = g.V.StateView.router c.args.view.now in
    let s = g.V.StateView.state c.args.view.now in
    has_label r s s.facts.moment c.args.repair.now.bypass c.in-Some.bypass_tunnel (sym c.in-Some.ensures) c.requires.resvs
