use Rattle.std.proofs.Common.{rules}
use Rattle.std.proofs.lemmas.Fn.{always_returns_same}
use Rattle.lsr_facts.specs.Orders.{key_cmp}
use Rattle.admission.proofs.Around.{around_absent, around_found}
use Rattle.admission.proofs.reserved.around.Goals as goal

pub returns-in-Ok : goal.returns-in-Ok
returns-in-Ok c = λ claim.
    let is = c.in-Ok.ensures.position (λ row. key_cmp row.0 c.args.key.now) (always_returns_same _ _ _ (λ a r f' called. search rules)) in
    around_found c.args.key.now claim c.args.claims.now c.requires c.in-Ok.at c.in-Ok.ensures.bound is

pub returns-in-Err : goal.returns-in-Err
returns-in-Err c = λ claim.
    let is = c.in-Err.ensures.position (λ row. key_cmp row.0 c.args.key.now) (always_returns_same _ _ _ (λ a r f' called. search rules)) in
    around_absent c.args.key.now claim c.args.claims.now c.requires c.in-Err.at c.in-Err.ensures.bound is
