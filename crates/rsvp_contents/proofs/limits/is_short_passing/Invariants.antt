use Rattle.std.proofs.Common.{◌≡◌, ◌*◌, ◌≤◌, length, true, take, sum_by}
use Rattle.std.specs.List.{list_all}
use Rattle.std.specs.Prelude.{nat_le}
use Rattle.rsvp_contents.proofs.limits.is_short_passing.Given as goal

-- the bodies so far, each of which is short enough
abbrev pub invariant-loop-object : goal.invariant-loop-object
invariant-loop-object l =
    record {
      total : l.total ≡ sum_by (λ o. length o.body) (take l.object-index l.objects);
      short : list_all (λ o. nat_le (length o.body) 512) (take l.object-index l.objects) ≡ true;
      bound : l.total ≤ l.object-index * 512;
    }
