use Rattle.std.proofs.Common.{◌≡◌, filter_map, take}
use Rattle.abstract_router.specs.Lsps.{around_of, lsp_of}
use Rattle.abstract_router.specs.Upstreams.{upstream_row}
use Rattle.wanted_messages.specs.Telling.{said}
use Rattle.wanted_messages.proofs.upstream.told_each.Given as goal

-- so many origins are told
abbrev pub invariant-loop-origin : goal.invariant-loop-origin
invariant-loop-origin g l =
    l.rows.items ≡ filter_map (upstream_row (around_of (g.V.StateView.router l.fn.view) (g.V.StateView.state l.fn.view)) (l.fn.lsp.key.now, lsp_of (g.V.StateView.state l.fn.view) l.fn.lsp.key.now l.fn.lsp.path.now) l.fn.lsp.label (said l.fn.lsp.reserved)) (take l.origin-index l.origins)
