use Rattle.std.proofs.Common.{sym, subst, not, ◌↔◌, ◌∙◌}
use Rattle.std.proofs.lemmas.Bool.{false≢true}
use Rattle.std.specs.Prelude.{IsTrue}
use Rattle.lsr_config.specs.Rules.{IsFree}
use Rattle.lsr_config.proofs.Telling.{address_is_routers, free_tells}
use Rattle.lsr_config.proofs.links.is_free.Goals as goal

pub returns-then-eq : goal.returns-then-eq
returns-then-eq c = λ document records its says.
    ((λ no. absurd (false≢true no)), (λ free. absurd (address_is_routers c.args.address c.args.router document records its (sym c.eq.ensures ∙ c.if-eq.true) free)))

pub returns : goal.returns
returns c = λ document records its says.
    subst (λ b. IsTrue (not b) ↔ IsFree document records c.args.address) (sym c.has_address.ensures)
    (free_tells c.args.address c.args.router document records c.args.links.now its says (sym c.eq.ensures ∙ c.if-eq.false))
