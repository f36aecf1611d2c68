use Rattle.std.proofs.Common.{◌≡◌, drop}
use Rattle.label_space.specs.Bindings.{AreBound}
use Rattle.label_space.proofs.bindings.release_held.Given as goal

-- all labels are free, or rest as they did, but those of the LSPs from here on
abbrev pub invariant-loop-place : goal.invariant-loop-place
invariant-loop-place l = record {
  bound : AreBound l.space (drop l.place l.rows);
  range : l.space.range ≡ l.fn.space.range;
  moment : l.space.moment ≡ l.fn.space.moment;
  resting : l.space.resting ≡ l.fn.space.resting;
}
