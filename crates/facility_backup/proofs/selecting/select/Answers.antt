-- An LSP that isn't protected has no bypass; another has the best of all.
use Rattle.std.proofs.Common.{sym, ◌∙◌}
use Rattle.facility_backup.proofs.Rows.{chosen, unprotected}
use Rattle.facility_backup.proofs.selecting.select.Goals as goal

pub returns-then-not-is_protected : goal.returns-then-not-is_protected
returns-then-not-is_protected g c = unprotected _ _ _ _ _ (sym c.is_protected.ensures ∙ c.if-not-is_protected.true)

pub returns : goal.returns
returns g c =
    c.best_of.ensures
    ∙ chosen _ _ _ _ _ _ _ (c.as_slice.ensures.rows ∙ c.bypasses.ensures.bypasses) (sym c.is_protected.ensures ∙ c.if-not-is_protected.false)
