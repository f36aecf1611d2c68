use Rattle.std.proofs.Common.{◌≡◌, false, subst}
use Rattle.std.specs.List.{AllByRecursion}
use Rattle.std.specs.declared.net.ipv4_addr.Ipv4Addr.{Ipv4Addr}
use Rattle.lsr_facts.specs.declared.path_fact.Origin.{Origin}
use Rattle.abstract_paths.specs.Merging.{is_stack}
use Rattle.plain_soundness.proofs.Pairs.{no_stacks}
use Rattle.plain_soundness.proofs.apart.has_no_stack.Goals as goal

pub returns : goal.returns
returns c passes =
    no_stacks c.args.path.now (subst (AllByRecursion (λ (origin : Ipv4Addr × Origin). is_stack origin.1.via ≡ false)) c.as_slice.ensures.rows (c.holds_of_all.ensures.0 passes))
