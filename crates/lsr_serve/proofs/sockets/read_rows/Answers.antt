-- One record more.
use Rattle.std.proofs.Common.{◌<◌, ◌∷◌, [], List, ap, arith, length, length-append, map, subst, take}
use Rattle.std.proofs.lemmas.Result.{err_from_is_err_and}
use Rattle.toml.specs.Data.{Data}
use Rattle.toml.specs.View.{view}
use Rattle.lsr_config.specs.Values.{SaysEach}
use Rattle.lsr_config.proofs.Judging.{AreKept, all_taken, fault_memory, fault_there, none_kept, one_more_kept, one_more_says, says_length}
use Rattle.lsr_serve.specs.Sockets.{SaysSockets, socket_rules}
use Rattle.lsr_serve.proofs.sockets.read_rows.Goals as goal

pub loop-link-init : goal.loop-link-init
loop-link-init c = record { kept = none_kept socket_rules; says = rw c.new-rows.ensures.items tt; few = rw c.new-rows.ensures.items (omega arith) }

pub returns-in_err-row-clause-judged : goal.returns-in_err-row-clause-judged
returns-in_err-row-clause-judged c =
    let p = err_from_is_err_and c.from_residual.result c.from_residual.ensures.1 in
    let front = map view (take c.loop-link.link-index c.args.links.now) in
    rw (p.1, p.2)
    (fault_there socket_rules c.args.links.now c.loop-link.link-index c.link-item.result _ c.loop-link-test.true c.link-item.is c.loop-link.invariant.kept
    (c.in_err-row.ensures.judged front (omega (arith, says_length SaysSockets front c.loop-link.rows.items c.loop-link.invariant.says, c.len.ensures, c.loop-link.rows.ok.0))))

pub returns-in_default-clause-judged : goal.returns-in_default-clause-judged
returns-in_default-clause-judged c = fault_memory _

pub loop-link-preserved : goal.loop-link-preserved
loop-link-preserved c =
    let front = map view (take c.loop-link.link-index c.args.links.now) in
    let low : c.len.result < 16 = c.in_ok-row.ensures.few in
    let read = c.in_ok-row.ensures.judged front (omega (arith, says_length SaysSockets front c.loop-link.rows.items c.loop-link.invariant.says, c.len.ensures, c.loop-link.rows.ok.0)) in
    record {
      kept = one_more_kept socket_rules c.args.links.now c.loop-link.link-index c.link-item.result c.loop-link-test.true c.link-item.is c.loop-link.invariant.kept read.0;
      says = rw c.in-Ok.ensures.items (one_more_says SaysSockets c.args.links.now c.loop-link.link-index c.link-item.result c.loop-link.rows.items _ c.loop-link-test.true c.link-item.is c.loop-link.invariant.says read.1);
      few = omega (arith, ap length c.in-Ok.ensures.items, length-append c.loop-link.rows.items (c.in_ok-row.row ∷ []), c.len.ensures, c.loop-link.rows.ok.0, low);
    }

pub returns-clause-judged : goal.returns-clause-judged
returns-clause-judged c =
    subst (λ (ds : List Data). AreKept socket_rules ds × SaysEach SaysSockets ds c.loop-link.rows.items)
    (all_taken c.args.links.now c.loop-link.link-index c.loop-link-test.false) (c.loop-link.invariant.kept, c.loop-link.invariant.says)
