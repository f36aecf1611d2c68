-- Bandwidth of bypasses, and the LSPs that it is promised to (RFC 4090, 4.3: bandwidth protection). How it is shared out is
-- this router's choice.
use Rattle.std.specs.Prelude.{ℕ, ◌==◌, ◌&&◌, nat_le, not, Bool, true, false, if◌then◌else◌, List, filter, filter_map, map, Option, Some, None}
use Rattle.std.specs.FinMap.Entries.{find, where_key}
use Rattle.std.specs.Option.{option_and_then, option_map, option_map_or}
use Rattle.std.specs.Result.{result_unwrap_or}
use Rattle.rsvp_bodies.specs.Traffic.{flowspec_rate}
use Rattle.lsr_facts.specs.Orders.{key_cmp}
use Rattle.lsr_facts.specs.declared.assignment.Assignment.{Assignment}
use Rattle.lsr_facts.specs.declared.key.Key.{Key}
use Rattle.lsr_facts.specs.declared.path_fact.PathFact.{PathFact}
use Rattle.lsr_facts.specs.declared.repair.Selected.{Selected}
use Rattle.lsr_facts.specs.declared.resv_fact.ResvFact.{ResvFact}
use Rattle.lsr_facts.specs.declared.router.Router.{Router}
pub use Rattle.bypass_shares.specs.Shares.{capacity_in}
use Rattle.bypass_shares.specs.Shares.{assigned}
use Rattle.bypass_shares.specs.declared.wish.Wish.{Wish}
use Rattle.abstract_paths.specs.Tears.{leaves_by}
use Rattle.abstract_router.specs.Lsps.{Around, around_of}
use Rattle.abstract_router.specs.Protecting.{candidates_of, has_flag}
use Rattle.abstract_router.specs.States.{State, is_held}

-- the head wants bandwidth protected (RFC 4090, 4.3: flag 0x08)
abbrev pub wants_bandwidth : PathFact → Bool
wants_bandwidth path = has_flag 0x08 path

-- the rate that a reservation is for, in bytes per second
abbrev pub rate_in : ResvFact → ℕ
rate_in resv = result_unwrap_or (flowspec_rate resv.flowspec) 0

-- a bypass has bandwidth to promise
abbrev pub has_capacity : Selected → Bool
has_capacity choice = not (choice.capacity == 0)

-- What a protected LSP asks for whose head wants its bandwidth protected: its rate, of one of its candidates that have a
-- capacity, the best first; where its path leaves by the link of its reservation.
abbrev pub wish_on : Around → Key → ResvFact → PathFact → Option Wish
wish_on a key resv path =
    if wants_bandwidth path && leaves_by resv.link path
    then Some (record { rate = rate_in resv; bypasses = map (λ choice. choice.bypass) (filter has_capacity (candidates_of a key path resv)) })
    else None

-- what the LSP of a reservation asks for
abbrev pub wish_of : Router → State → Key × ResvFact → Option Wish
wish_of r s resv = option_and_then (wish_on (around_of r s) resv.0 resv.1) (find key_cmp resv.0 s.facts.paths)

-- all wishes, in the order of the LSPs' keys
unfoldable pub wishes_of : Router → State → List (Key × Wish)
wishes_of r s = filter_map (λ resv. option_map (λ wish. (resv.0, wish)) (wish_of r s resv)) s.resvs

-- An assignment is in use while its LSP is repaired, and leaves by the link that was lost.
abbrev pub is_in_use : State → Key → Bool
is_in_use s key =
    option_map_or (λ repair. option_map_or (leaves_by repair.resv.link) (find key_cmp key s.facts.paths) false) (find key_cmp key s.repairs) false

-- the assignments that are in use
abbrev pub in_use_of : State → List (Key × Assignment)
in_use_of s = where_key key_cmp (is_in_use s) s.assignments

-- The assignments, made anew: those in use stay, then others stay where they fit, then LSPs that have none get one where
-- there is room.
unfoldable pub assignments_of : Router → State → List (Key × Assignment)
assignments_of r s = assigned key_cmp (capacity_in s.facts.bypasses) s.assignments (in_use_of s) (wishes_of r s)

-- The bandwidth of bypasses is promised anew.
abbrev pub assigned_anew : Router → State → State
assigned_anew r s = record s { assignments = assignments_of r s }

-- The assignments of LSPs that are neither reserved nor repaired go.
abbrev pub assignments_left : State → State
assignments_left s = record s { assignments = where_key key_cmp (is_held s) s.assignments }

-- a repaired LSP is promised the rate of this reservation or more, if it is promised any
abbrev pub fits_share : State → Key → ResvFact → Bool
fits_share s key resv = option_map_or (λ given. nat_le (rate_in resv) given.rate) (find key_cmp key s.assignments) true
