use Rattle.std.proofs.Common.{◌≡◌, ◌≤◌, length}
use Rattle.capture_files.specs.Captures.{known_of, packets_read, rest_of, size_of_file}
use Rattle.capture_files.specs.Files.{Passes}
use Rattle.capture_files.proofs.capture.Capture.next_packet.Given as goal

-- blocks that say no packet were passed over
abbrev pub invariant-loop-self : goal.invariant-loop-self
invariant-loop-self l = record {
  passed : Passes (known_of l.initial.self) (rest_of l.initial.self) (known_of l.self) (rest_of l.self);
  packets : packets_read l.self ≡ packets_read l.initial.self;
  less : length (rest_of l.self) ≤ length (rest_of l.initial.self);
  size : size_of_file l.self ≡ size_of_file l.initial.self;
}

abbrev pub decreases-loop-self : goal.decreases-loop-self
decreases-loop-self l = length (rest_of l.self)
