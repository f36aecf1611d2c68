-- One more line stands there; in the end all do.
use Rattle.std.proofs.Common.{string_bytes}
use Rattle.lsr_console.specs.Counters.{port_line}
use Rattle.lsr_console.proofs.Counting.{all_lines, more_lines}
use Rattle.lsr_console.proofs.counters.push_ports.Goals as goal

pub loop-place-preserved : goal.loop-place-preserved
loop-place-preserved c =
    more_lines (port_line c.args.sockets.now) c.args.counts.now c.loop-place.place _ _ (string_bytes c.loop-place.text) (string_bytes c.push_port.new.text) c.loop-place-test.true c.loop-place.invariant c.in_ok-push_port.ensures

pub returns : goal.returns
returns c = all_lines (port_line c.args.sockets.now) c.args.counts.now c.loop-place.place _ (string_bytes c.loop-place.text) c.loop-place-test.false c.loop-place.invariant
