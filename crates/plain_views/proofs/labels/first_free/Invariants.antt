-- What is found from here on is what is found of all.
use Rattle.std.proofs.Common.{◌≡◌, ◌+◌, ◌-◌}
use Rattle.std.specs.List.{find, range_with_len}
use Rattle.label_space.specs.FreeLabels.{is_free, labels_in}
use Rattle.plain_views.proofs.labels.first_free.Given as goal

abbrev pub invariant-loop-label : goal.invariant-loop-label
invariant-loop-label l = find (is_free l.labels l.resting) (range_with_len l.label (l.fn.range.last + 1 - l.label)) ≡ find (is_free l.labels l.resting) (labels_in l.fn.range)
