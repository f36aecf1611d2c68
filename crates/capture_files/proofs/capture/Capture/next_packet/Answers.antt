-- One block more is passed over.
use Rattle.std.proofs.Common.{arith, refl, ◌∙◌}
use Rattle.capture_files.specs.Files.{stays}
use Rattle.capture_files.proofs.Walk.{one_more, packets_same}
use Rattle.capture_files.proofs.capture.Capture.next_packet.Goals as goal

pub loop-self-init : goal.loop-self-init
loop-self-init c = record { passed = stays; packets = refl; less = omega arith; size = refl }

pub loop-self-preserved : goal.loop-self-preserved
loop-self-preserved c =
    record {
      passed = one_more c.args.self.now c.loop-self.self c.turn.new.self c.in-Ok-None.field-0 c.loop-self.invariant.passed c.in-Ok-None.field-0-is c.in-Ok-None.ensures.said;
      packets = packets_same c.loop-self.self c.turn.new.self c.in-Ok-None.field-0 c.in-Ok-None.field-0-is c.in-Ok-None.ensures.said ∙ c.loop-self.invariant.packets;
      less = omega (arith, c.in-Ok-None.ensures.shorter);
      size = c.turn.ensures.size ∙ c.loop-self.invariant.size;
    }
