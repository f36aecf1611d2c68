use Rattle.std.proofs.Common.{◌≡◌, filter, map, take}
use Rattle.abstract_paths.specs.Outcomes.{lsp}
use Rattle.router_steps.specs.Torn.{is_reserved_on}
use Rattle.router_steps.proofs.resv_tear.torn_keys.Given as goal

-- so many filters are looked up
abbrev pub invariant-loop-filter : goal.invariant-loop-filter
invariant-loop-filter g l =
    l.keys.items ≡ filter (is_reserved_on l.link (g.V.StateView.state l.fn.view).resvs) (map (lsp l.tear.session) (take l.filter-index l.filter-items))
