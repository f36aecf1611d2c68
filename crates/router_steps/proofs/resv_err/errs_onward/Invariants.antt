use Rattle.std.specs.Option.{option_to_list}
use Rattle.std.proofs.Common.{◌≡◌, filter_map, map, take}
use Rattle.router_steps.specs.Onward.{err_by}
use Rattle.router_steps.proofs.resv_err.errs_onward.Given as goal

-- so many descriptors are matched
abbrev pub invariant-loop-descriptor : goal.invariant-loop-descriptor
invariant-loop-descriptor g l =
    map option_to_list l.onward.items
    ≡ filter_map (err_by (g.V.StateView.router l.fn.view) (g.V.StateView.state l.fn.view) l.over l.error) (take l.descriptor-index l.descriptor-items)
