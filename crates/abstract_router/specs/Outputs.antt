-- What a step sends, in its order, and when each message was sent last (RFC 2205, 2.3 and 3.7).
use Rattle.std.specs.Prelude.{ℕ, ◌++◌, List}
use Rattle.lsr_facts.specs.Orders.{item_cmp}
use Rattle.lsr_facts.specs.declared.key.Item.{Item}
use Rattle.lsr_facts.specs.declared.router.Router.{Router}
use Rattle.abstract_paths.specs.declared.events.Output.{Output}
use Rattle.abstract_paths.specs.Outputs.{between, errors_out, send_for, tear_for}
use Rattle.abstract_paths.specs.Stamps.{stamps}
use Rattle.abstract_router.specs.Upstreams.{upstream_of}
use Rattle.lsr_facts.specs.Upstreams.{upstream_cmp}
use Rattle.lsr_facts.specs.declared.upstream.Upstream.{Upstream}
use Rattle.abstract_router.specs.States.{State}
use Rattle.abstract_router.specs.Wanted.{items_of}

-- What a step sends that isn't silent: its errors; then tears for what is wanted no more, and what is wanted and new,
-- changed or due, each with the Paths before the Resvs.
unfoldable pub outputs_of : Router → State → List Output → List Item → List Upstream → State → List Output
outputs_of r before errors due upstream_due after =
    errors_out after.facts.up errors
    ++ between item_cmp (tear_for after.facts.up) (items_of r before) (items_of r after)
    ++ between upstream_cmp (tear_for after.facts.up) (upstream_of r before) (upstream_of r after)
    ++ between item_cmp (send_for item_cmp due) (items_of r after) (items_of r before)
    ++ between upstream_cmp (send_for upstream_cmp upstream_due) (upstream_of r after) (upstream_of r before)

-- The moments of all Paths that are wanted after a step.
unfoldable pub item_stamps : Router → State → List Item → State → List (Item × ℕ)
item_stamps r before due after = stamps item_cmp due (items_of r before) before.facts.sent after.facts.moment (items_of r after)

-- and those of all Resvs
unfoldable pub upstream_stamps : Router → State → List Upstream → State → List (Upstream × ℕ)
upstream_stamps r before due after =
    stamps upstream_cmp due (upstream_of r before) before.sent_upstream after.facts.moment (upstream_of r after)
