-- One more record stands there.
use Rattle.std.proofs.Common.{◌+◌, ◌++◌, ◌∙◌, ap, take}
use Rattle.std.proofs.lemmas.List.{take_more}
use Rattle.config_text.specs.Printing.{route_record}
use Rattle.object_text.proofs.Growing.{rows_push_after}
use Rattle.config_text.proofs.printing.push_routes.Goals as goal

pub loop-route-preserved : goal.loop-route-preserved
loop-route-preserved c =
    let routes = c.args.routes.now in
    let i = c.loop-route.route-index in
    let grown = c.in_ok-extend_from_slice.ensures.items ∙ ap (λ bytes. c.loop-route.text.items ++ bytes) (c.as_bytes.ensures.value ∙ c.in_ok-record.ensures) in
    rows_push_after route_record c.args.text.now.items c.loop-route.text.items c.extend_from_slice.new.self.items (take i routes) (take (i + 1) routes) _ c.loop-route.invariant grown (take_more routes i _ c.loop-route-test.true)
