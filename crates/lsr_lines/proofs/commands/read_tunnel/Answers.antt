-- The words say a tunnel, also where there is no memory for it.
use Rattle.std.proofs.Common.{subst, sym}
use Rattle.abstract_paths.specs.declared.tunnels.NewTunnel.{NewTunnel}
use Rattle.lsr_lines.specs.Commands.{SaysTunnel, words_left}
use Rattle.lsr_lines.proofs.LineLaws.{for_error}
use Rattle.lsr_lines.proofs.WordLaws.{tunnel_said}
use Rattle.lsr_lines.proofs.commands.read_tunnel.Goals as goal

pub returns-in_default-read_ends-clause-tunnel : goal.returns-in_default-read_ends-clause-tunnel
returns-in_default-read_ends-clause-tunnel c = λ t says.
    let parts = subst (λ words. SaysTunnel words t) c.in-Some.ensures says in
    c.in_default-read_ends.ensures (t.number, t.endpoint, parts.2.0) (parts.0, parts.1, parts.2.1)

pub returns-in_err-attr-clause-memory : goal.returns-in_err-attr-clause-memory
returns-in_err-attr-clause-memory c =
    let ends = c.in-Some-read_ends in
    for_error c.from_residual.result
    (subst (λ words. (t : NewTunnel) × SaysTunnel words t) (sym c.in-Some.ensures)
    (tunnel_said _ _ _ _ _ _ _ (words_left c.in-Some.words.steps) ends.number ends.endpoint ends.rate ends.ensures.0 ends.ensures.1 ends.ensures.2 c.in_err-attr.ensures.memory c.in-Some-read_route.ensures.1))

pub returns-in_err-route-clause-memory : goal.returns-in_err-route-clause-memory
returns-in_err-route-clause-memory c =
    let ends = c.in-Some-read_ends in
    for_error c.from_residual-in_err-route.result
    (subst (λ words. (t : NewTunnel) × SaysTunnel words t) (sym c.in-Some.ensures)
    (tunnel_said _ _ _ _ _ _ _ (words_left c.in-Some.words.steps) ends.number ends.endpoint ends.rate ends.ensures.0 ends.ensures.1 ends.ensures.2 (c.in-Some-2.attr, rw c.in-Some-2.is at c.in_ok-attr.ensures.attr) c.in-Some-read_route.ensures.1))

pub returns-in_err-tspec_of-clause-memory : goal.returns-in_err-tspec_of-clause-memory
returns-in_err-tspec_of-clause-memory c =
    let ends = c.in-Some-read_ends in
    for_error c.from_residual-in_err-tspec_of.result
    (subst (λ words. (t : NewTunnel) × SaysTunnel words t) (sym c.in-Some.ensures)
    (tunnel_said _ _ _ _ _ _ _ (words_left c.in-Some.words.steps) ends.number ends.endpoint ends.rate ends.ensures.0 ends.ensures.1 ends.ensures.2 (c.in-Some-2.attr, rw c.in-Some-2.is at c.in_ok-attr.ensures.attr) c.in-Some-read_route.ensures.1))
