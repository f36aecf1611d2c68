-- One row more, and all of them.
use Rattle.std.proofs.Common.{subst}
use Rattle.lsr_serve.specs.Local.{AreLocal}
use Rattle.lsr_serve.proofs.Locality.{all_local, local_more, named_more}
use Rattle.lsr_serve.proofs.udp_wire.open_wires.Goals as goal

pub loop-row-preserved : goal.loop-row-preserved
loop-row-preserved g c =
    let rows = c.as_slice-rows.result.now in
    record {
      numbers = named_more (λ wire. wire.number) rows c.loop-row.row-index _ c.loop-row.wires.items c.push.new.self.items c.in_ok-wire.wire c.loop-row-test.true c.in-Ok.ensures.items c.in_ok-wire.ensures.number
          c.loop-row.invariant.numbers;
      local = local_more c.any_address-like.result rows c.loop-row.row-index _ c.loop-row-test.true c.in_ok-wire.ensures.local c.loop-row.invariant.local;
    }

pub returns-clause-local : goal.returns-clause-local
returns-clause-local g c =
    let rows = c.as_slice-rows.result.now in
    subst AreLocal c.as_slice-rows.ensures.rows (all_local c.any_address-like.result rows c.loop-row.row-index c.loop-row-test.false c.loop-row.invariant.local)
