use Rattle.std.proofs.Common.{◌≡◌, true, false, refl, sym, ◌∙◌}
use Rattle.rsvp_contents.proofs.message.Message.checked.Goals as goal

pub invariant_of-result : goal.invariant_of-result
invariant_of-result c = (rw c.deref.ensures at c.fits.ensures.message).0 c.if-fits.true

pub returns-then-fits-clause-ok : goal.returns-then-fits-clause-ok
returns-then-fits-clause-ok c = (refl, (rw c.deref.ensures at c.fits.ensures.message).0 c.if-fits.true)

pub returns-else-fits-clause-err : goal.returns-else-fits-clause-err
returns-else-fits-clause-err c = (refl, λ is. let told = (rw c.deref.ensures at c.fits.ensures.message).1 is in let both : false ≡ true = sym c.if-fits.false ∙ told in cc)
