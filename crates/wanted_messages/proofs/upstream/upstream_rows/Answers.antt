-- What is said of an LSP fits a Resv; and its origins are sent the same whenever they expire.
use Rattle.std.proofs.Common.{◌≡◌, [], IfOk, IfSome, List, Option, Some, ap, filter_map, map, subst, sym, ◌∙◌}
use Rattle.std.specs.Option.{option_map, option_map_or}
use Rattle.lsr_facts.specs.Timeless.{timeless_origin}
use Rattle.lsr_facts.specs.declared.upstream.Upstream.{Upstream}
use Rattle.abstract_paths.specs.declared.events.Output.{Output}
use Rattle.lsr_facts.specs.declared.key.Key.{Key}
use Rattle.abstract_router.specs.Lsps.{Lsp, around_of, lsp_of}
use Rattle.abstract_router.specs.UpstreamLaws.{rows-timeless}
use Rattle.abstract_router.specs.Upstreams.{Reserved, reserved_for, upstream_row, upstream_rows}
use Rattle.wanted_messages.specs.Fitting.{IsFitting}
use Rattle.wanted_messages.specs.ResvLaws.{reserved_fits}
use Rattle.wanted_messages.specs.Telling.{said}
use Rattle.wanted_messages.proofs.upstream.upstream_rows.Goals as goal

pub told_each-requires : goal.told_each-requires
told_each-requires g c =
    let s = g.V.StateView.state c.args.view.now in
    let a = around_of (g.V.StateView.router c.args.view.now) s in
    subst (λ (o : Option Reserved). IfSome o IsFitting) (sym c.in_ok-reserved.ensures ∙ ap (option_map said) c.in-Some-2.is)
    (reserved_fits a s c.args.key.now c.args.path.now c.requires.tspec c.requires.resvs c.requires.repairs)

pub returns : goal.returns
returns g c =
    let s = g.V.StateView.state c.args.view.now in
    let a = around_of (g.V.StateView.router c.args.view.now) s in
    let lsp : Key × Lsp = (c.args.key.now, lsp_of s c.args.key.now c.args.path.now) in
    let says = said c.in-Some-2.reserved in
    let reserved : Some says ≡ reserved_for a lsp = sym (ap (option_map said) c.in-Some-2.is) ∙ c.in_ok-reserved.ensures in
    let made : filter_map (upstream_row a lsp c.in-Some.label says) c.as_slice.result.now ≡ upstream_rows a lsp =
    ap (filter_map (upstream_row a lsp c.in-Some.label says)) c.as_slice.ensures.rows
    ∙ sym (rows-timeless a lsp c.in-Some.label says c.args.path.now.origins)
    ∙ (λ i. option_map_or (λ label. option_map_or (λ o. filter_map (upstream_row a lsp label o) (map timeless_origin c.args.path.now.origins)) (reserved i) []) (c.in-Some.ensures.label i) [])
    in
    record { rows = subst (λ (rows : List (Upstream × Output)). IfOk c.told_each.result (λ told. told.items ≡ rows)) made c.told_each.ensures }
