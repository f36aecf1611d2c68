use Rattle.std.proofs.Common.{◌≡◌}
use Rattle.capture_files.specs.Options.{option_among, option_in}
use Rattle.capture_files.proofs.options.option_of.Given as goal

-- the options so far have other codes
abbrev pub invariant-loop-left : goal.invariant-loop-left
invariant-loop-left l = option_among l.left l.endian l.code l.rest ≡ option_in l.endian l.code l.options

abbrev pub decreases-loop-left : goal.decreases-loop-left
decreases-loop-left l = l.left
