-- The Paths that the state wants kept alive downstream: at the neighbours, and through bypasses (RFC 2205, 3.7; RFC 3209,
-- 4.3.4 and 4.4.3; RFC 4090, 6.4.3).
use Rattle.std.specs.Prelude.{◌&&◌, ◌++◌, Bool, if◌then◌else◌, List, filter_map, is_none, Option, None}
use Rattle.std.specs.FinMap.Entries.{where_key}
use Rattle.std.specs.Option.{option_and_then, option_map}
use Rattle.rsvp_contents.specs.declared.messages.Content.TheVariants as contents
use Rattle.lsr_facts.specs.Orders.{key_cmp}
use Rattle.lsr_facts.specs.Routers.{link_at}
use Rattle.lsr_facts.specs.declared.key.Item.{Item}
use Rattle.lsr_facts.specs.declared.key.Item.TheVariants.{Backup, Down}
use Rattle.lsr_facts.specs.declared.key.Key.{Key}
use Rattle.lsr_facts.specs.declared.router.Router.{Router}
use Rattle.abstract_paths.specs.declared.events.Output.{Output}
use Rattle.abstract_paths.specs.Onward.{path_onward}
use Rattle.abstract_paths.specs.Outcomes.{sent_by}
use Rattle.abstract_paths.specs.Paths.{goes_on}
use Rattle.abstract_paths.specs.Places.{is_up}
use Rattle.abstract_router.specs.Lsps.{Around, Lsp, around_of, lsp_at, lsps_of}
use Rattle.abstract_router.specs.States.{State}
use Rattle.abstract_router.specs.Through.{backup_of}

-- the item that an LSP wants at its next hop, and what is sent for it: nothing where the LSP ends here or is repaired, or
-- its link is down
abbrev pub downstream_row : Around → Key × Lsp → Option (Item × Output)
downstream_row a lsp =
    let path = lsp.1.path in
    if goes_on path.role && is_none lsp.1.repair && is_up a.place.up path.out_link
    then option_map (λ link. (Down lsp.0 path.out_link, sent_by path.out_link (contents.Path (path_onward a.place.router lsp.0 path link)))) (link_at a.place.router path.out_link)
    else None

-- the item that a repaired LSP wants at its bypass's end
abbrev pub backup_row : Around → Key × Lsp → Option (Item × Output)
backup_row a lsp =
    option_and_then (λ repair. option_map (λ output. (Backup lsp.0 repair.bypass, output)) (backup_of a lsp.0 lsp.1.path repair)) lsp.1.repair

-- what LSPs want: the items at next hops, then those through bypasses
abbrev pub item_rows : Around → List (Key × Lsp) → List (Item × Output)
item_rows a lsps = filter_map (downstream_row a) lsps ++ filter_map (backup_row a) lsps

-- What the state wants downstream: items, and what is sent for each; in the order of items.
unfoldable pub items_of : Router → State → List (Item × Output)
items_of r s = item_rows (around_of r s) (lsps_of s)

-- what is wanted of some LSPs
unfoldable pub items_at : Router → State → (Key → Bool) → List (Item × Output)
items_at r s touched = item_rows (around_of r s) (where_key key_cmp touched (lsps_of s))

-- what is wanted of one LSP at its next hop
abbrev pub downstream_at : Router → State → Key → Option (Item × Output)
downstream_at r s key = option_and_then (λ lsp. downstream_row (around_of r s) (key, lsp)) (lsp_at s key)

-- and through a bypass
abbrev pub backup_at : Router → State → Key → Option (Item × Output)
backup_at r s key = option_and_then (λ lsp. backup_row (around_of r s) (key, lsp)) (lsp_at s key)
