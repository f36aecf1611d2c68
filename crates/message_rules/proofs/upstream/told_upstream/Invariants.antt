use Rattle.std.proofs.Common.{◌≡◌, filter_map, take}
use Rattle.explicit_routes.specs.Below.paths.Outcomes.{told_to}
use Rattle.explicit_routes.specs.Below.paths.Places.{place_at}
use Rattle.message_rules.proofs.upstream.told_upstream.Given as goal

-- so many origins are told
abbrev pub invariant-loop-origin : goal.invariant-loop-origin
invariant-loop-origin l = l.told ≡ filter_map (told_to (place_at l.node) l.key l.tspec l.error) (take l.origin-index l.origin-items)
