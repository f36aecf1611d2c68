-- What LSPs keep of what they had: the first round of turns.
use Rattle.std.specs.Prelude.{ℕ, if◌then◌else◌, List, filter_map, Option, Some, None}
use Rattle.std.specs.Option.{option_and_then, option_map, option_map_or}
use Rattle.lsr_facts.specs.Orders.{key_cmp}
use Rattle.lsr_facts.specs.declared.assignment.Assignment.{Assignment}
use Rattle.lsr_facts.specs.declared.key.Key.{Key}
use Rattle.lsr_facts.specs.declared.router.Router.{Router}
use Rattle.bypass_shares.specs.Shares.{is_candidate, kept_for, with_given}
use Rattle.bypass_shares.specs.declared.wish.Wish.{Wish}
use Rattle.abstract_router.specs.States.{State}
use Rattle.bandwidth_protection.specs.Wishing.{wish_at}

-- so much as is asked for of the bypass that an LSP had some of, where it may have that still
abbrev pub claim_of : Assignment → Wish → Option Assignment
claim_of had wish = if is_candidate wish had.bypass then Some (record { bypass = had.bypass; rate = wish.rate }) else None

abbrev pub claim_at : Router → State → Key → Assignment → Option Assignment
claim_at r s key had = option_and_then (claim_of had) (wish_at r s key)

-- what those LSPs ask for that had some
abbrev pub known_wishes : Router → State → List (Key × Assignment) → List (Key × Wish)
known_wishes r s known = filter_map (λ row. option_map (λ wish. (row.0, wish)) (wish_at r s row.0)) known

-- the turn of one that had some, if it asks for any
abbrev pub kept_turn : Router → State → (ℕ → ℕ) → List (Key × Assignment) → List (Key × Assignment) → Key × Assignment → List (Key × Assignment)
kept_turn r s capacity known pairs row =
    option_map_or (λ wish. with_given key_cmp capacity row.0 (kept_for key_cmp capacity known pairs (row.0, wish)) pairs) (wish_at r s row.0) pairs
