use Rattle.std.proofs.Common.{◌≡◌, ◌<◌, ℕ, None, length}
use Rattle.std.specs.Prelude.{slice_index_or}
use Rattle.slab.specs.Slab.{get}
use Rattle.timed_rows.specs.Timed.{moment_of}
use Rattle.timed_rows.proofs.moments.write_moments.Given as goal

-- the slots so far have the moments of their rows
abbrev pub invariant-loop-slot : goal.invariant-loop-slot
invariant-loop-slot g l = record {
  len : length l.wheel ≡ length l.fn.wheel;
  written : (s : ℕ) → s < l.slot → slice_index_or l.wheel s None ≡ moment_of (g.M.Timed.at l.timing) (get l.slots s);
}
