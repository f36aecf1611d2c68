use Rattle.std.proofs.Common.{◌≡◌, filter_map, take}
use Rattle.std.specs.Option.{option_map}
use Rattle.abstract_paths.specs.Outcomes.{lsp}
use Rattle.abstract_router.specs.Returning.{repair_from}
use Rattle.repair_arrivals.proofs.resv_tear.returned_keys.Given as goal

-- so many filters are matched
abbrev pub invariant-loop-filter : goal.invariant-loop-filter
invariant-loop-filter g l =
    let r = g.V.StateView.router l.view in
    let s = g.V.StateView.state l.view in
    l.keys.items ≡ filter_map (λ filter_spec. option_map (λ repair. repair.0) (repair_from r s l.tear.hop.address (lsp l.tear.session filter_spec))) (take l.filter-index l.filter-items)
