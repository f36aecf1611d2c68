use Rattle.std.proofs.Common.{◌≡◌, ◌≤◌, ◌+◌, ◌*◌, length, take, sum_by}
use Rattle.rsvp_contents.proofs.lengths.passing_len.Given as goal

-- what the objects so far are written in
abbrev pub invariant-loop-object : goal.invariant-loop-object
invariant-loop-object l =
    record {
      len : l.len ≡ sum_by (λ o. length o.body + 4) (take l.object-index l.objects);
      most : l.len ≤ l.object-index * 65532;
    }
