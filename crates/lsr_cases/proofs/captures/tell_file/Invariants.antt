-- Each packet that is given leaves less of the file.
use Rattle.std.proofs.Common.{length}
use Rattle.capture_files.specs.Captures.{rest_of}
use Rattle.lsr_cases.proofs.captures.tell_file.Given as goal

abbrev pub decreases-loop-next : goal.decreases-loop-next
decreases-loop-next l = length (rest_of l.capture)
