use Rattle.std.proofs.Common.{not}
use Rattle.std.specs.Ordering.{is_eq}
use Rattle.lsr_facts.specs.Orders.{key_cmp}
use Rattle.admission.proofs.Matching.{matched_where_key}
use Rattle.admission.proofs.state.Admission.remove.Goals as goal

pub invariant_of-self : goal.invariant_of-self
invariant_of-self c =
    rw (c.remove.ensures, c.remove-2.ensures)
    (matched_where_key (λ other. not (is_eq (key_cmp c.args.key.now other))) c.self.inside.resvs c.self.inside.claims c.self.invariant)
