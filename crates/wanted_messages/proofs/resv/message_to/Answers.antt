-- The Resv to an origin is a message.
use Rattle.std.proofs.Common.{IsTrue, subst, sym}
use Rattle.rsvp_contents.specs.Fitting.{HasRoom, fits_resv}
use Rattle.rsvp_contents.specs.declared.messages.Content.TheVariants as contents
use Rattle.rsvp_contents.specs.declared.messages.Resv.{Resv}
use Rattle.lsr_facts.specs.Timeless.{timeless_path}
use Rattle.wanted_messages.specs.ResvLaws.{resv_fits, resv_has_room}
use Rattle.wanted_messages.specs.Telling.{said}
use Rattle.wanted_messages.proofs.resv.message_to.Goals as goal

pub unwrap-requires : goal.unwrap-requires
unwrap-requires c =
    let lsp = c.args.lsp.now in
    let r = c.args.router.now in
    let key = lsp.key.now in
    let path = timeless_path lsp.path.now in
    let origin = c.args.origin.now in
    let address = c.args.address in
    let a = said lsp.reserved in
    (rw c.in_ok-content.ensures.ok at c.checked.ensures.room)
    (subst (λ (v : Resv). IsTrue (fits_resv v)) (sym c.in_ok-resv.ensures) (resv_fits r key path origin address lsp.label a c.requires))
    (subst (λ (v : Resv). HasRoom (contents.Resv v)) (sym c.in_ok-resv.ensures) (resv_has_room r key path origin address lsp.label a c.has_four_octets.ensures c.requires))
