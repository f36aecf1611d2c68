-- The records of the routes so far, after what there was.
use Rattle.std.proofs.Common.{◌≡◌, ◌++◌, take}
use Rattle.std.specs.List.{flat_map}
use Rattle.config_text.specs.Printing.{route_record}
use Rattle.config_text.proofs.printing.push_routes.Given as goal

abbrev pub invariant-loop-route : goal.invariant-loop-route
invariant-loop-route l = l.text.items ≡ l.fn.text.items ++ flat_map route_record (take l.route-index l.routes)
