-- A link on which nothing is claimed, and one on which something is.
use Rattle.std.proofs.Common.{arith, refl, sym}
use Rattle.plain_bandwidth.proofs.Reserving.{found_rated, none_found, within_again}
use Rattle.plain_bandwidth.proofs.bandwidth.is_within_at.Goals as goal

pub returns-in_default : goal.returns-in_default
returns-in_default c = (
  λ passes. record {
    within = λ priority most.
        let nothing = none_found c.args.link.now.0 priority c.args.claims.now (sym c.in_default.ensures) in
        omega (arith, nothing);
  },
  λ within. refl,
)

pub is_within-requires-clause-most : goal.is_within-requires-clause-most
is_within-requires-clause-most c = found_rated c.args.claims.now c.args.link.now.0 c.in-Some.claim.now c.requires.rated (sym c.in-Some.ensures)

pub returns : goal.returns
returns c = within_again c.is_within.result c.args.claims.now c.args.link.now c.in-Some.claim.now 7 c.requires.sorted (sym c.in-Some.ensures) c.is_within.ensures
