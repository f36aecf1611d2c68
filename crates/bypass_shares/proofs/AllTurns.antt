-- One turn after the other, over a slice of wishes.
use Rattle.std.proofs.Common.{◌≡◌, ℕ, ◌+◌, ◌<◌, List, ◌∷◌, Option, length, drop, get_or, ap, sym, ◌∙◌}
use Rattle.std.proofs.lemmas.List.{drop_more}
use Rattle.lsr_facts.specs.Orders.{key_cmp}
use Rattle.lsr_facts.specs.declared.assignment.Assignment.{Assignment}
use Rattle.lsr_facts.specs.declared.key.Key.{Key}
use Rattle.bypass_shares.specs.declared.wish.Wish.{Wish}
use Rattle.bypass_shares.specs.Shares.{each_in_turn, with_given}

-- the turns from the next wish on, after this one's
pub next-turn : (capacity : ℕ → ℕ) (choose : List (Key × Assignment) → Key × Wish → Option Assignment) (pairs after : List (Key × Assignment)) (wishes : List (Key × Wish)) (i : ℕ) (wish : Key × Wish) → i < length wishes → wish ≡ get_or wishes i wish → after ≡ with_given key_cmp capacity wish.0 (choose pairs wish) pairs → each_in_turn key_cmp capacity choose after (drop (i + 1) wishes) ≡ each_in_turn key_cmp capacity choose pairs (drop i wishes)
next-turn capacity choose pairs after wishes i wish inside is made =
    ap (λ rows. each_in_turn key_cmp capacity choose rows (drop (i + 1) wishes)) made
    ∙ sym (ap (each_in_turn key_cmp capacity choose pairs) (drop_more wishes i wish inside ∙ ap (λ w. w ∷ drop (i + 1) wishes) (sym is)))
