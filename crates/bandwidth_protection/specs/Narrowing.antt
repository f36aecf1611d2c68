-- What is asked for in the second round of turns: no more than what may come of it.
use Rattle.std.specs.Prelude.{ℕ, ◌==◌, nat_le, Bool, if◌then◌else◌, List, filter, is_some, length, Option, Some, None}
use Rattle.std.specs.FinMap.Entries.{find}
use Rattle.std.specs.Option.{option_and_then}
use Rattle.lsr_facts.specs.Orders.{key_cmp}
use Rattle.lsr_facts.specs.declared.assignment.Assignment.{Assignment}
use Rattle.lsr_facts.specs.declared.key.Key.{Key}
use Rattle.lsr_facts.specs.declared.repair.BypassTunnel.{BypassTunnel}
use Rattle.lsr_facts.specs.declared.router.Router.{Router}
use Rattle.bypass_shares.specs.Left.{left_at}
use Rattle.bypass_shares.specs.declared.wish.Wish.{Wish}
use Rattle.abstract_router.specs.States.{State}
use Rattle.bandwidth_protection.specs.Wishing.{wish_at}

-- a bypass, and what is left of it
abbrev pub room_of : List (ℕ × ℕ) → ℕ × BypassTunnel → (ℕ × BypassTunnel) × ℕ
room_of left bypass = (bypass, left_at left bypass.0)

-- a wish of those of its bypasses alone that pass a test
abbrev pub narrowed : (ℕ → Bool) → Wish → Wish
narrowed may wish = record { rate = wish.rate; bypasses = filter may wish.bypasses }

-- so much is left of a bypass
abbrev pub has_left : List (ℕ × ℕ) → ℕ → ℕ → Bool
has_left left rate number = nat_le rate (left_at left number)

-- a wish that names a bypass
abbrev pub unless_none : Wish → Option Wish
unless_none wish = if length wish.bypasses == 0 then None else Some wish

-- a wish of those alone of which so much is left, if there are any
abbrev pub of_open : List (ℕ × ℕ) → Wish → Option Wish
of_open left wish = unless_none (narrowed (has_left left wish.rate) wish)

-- what an LSP asks for that has none yet, by what is left
abbrev pub open_by : List (Key × Assignment) → List (ℕ × ℕ) → Key → Option Wish → Option Wish
open_by kept left key wish = if is_some (find key_cmp key kept) then None else option_and_then (of_open left) wish

abbrev pub open_wish : Router → State → List (Key × Assignment) → List (ℕ × ℕ) → Key → Option Wish
open_wish r s kept left key = open_by kept left key (wish_at r s key)
