use Rattle.std.proofs.Common.{◌≡◌, ◌≤◌, length, take}
use Rattle.label_space.specs.Rests.{freed_by, with_rest}
use Rattle.plain_views.proofs.edits.rest_freed.Given as goal

-- those from here on rest
abbrev pub invariant-loop-place : goal.invariant-loop-place
invariant-loop-place l =
    (l.place ≤ length l.labels)
    × (with_rest l.until (freed_by l.edits (take l.place l.labels)) l.resting ≡ with_rest l.fn.until (freed_by l.fn.edits l.fn.labels) l.fn.resting)

abbrev pub decreases-loop-place : goal.decreases-loop-place
decreases-loop-place l = l.place
