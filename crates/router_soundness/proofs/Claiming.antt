-- The claims of a state, as its reservations and paths change.
use Rattle.std.specs.Prelude.{◌≡◌, ℕ, ◌≤◌, Bool, nat_lt, T, List, [], ◌∷◌, filter, map, Option, Some, None, is_some}
use Rattle.std.specs.FinMap.Entries.{find, is_sorted, where_key}
use Rattle.std.specs.List.{AllByRecursion}
use Rattle.std.proofs.Common.{refl, sym, ap, ◌∙◌, arith}
use Rattle.std.proofs.lemmas.Bool.{cond_both, ltb-true, ltb-false}
use Rattle.rsvp_bodies.specs.declared.attr.Attr.{Attr}
use Rattle.sorted_rows.specs.RowsLaws.{where_key-kept}
use Rattle.lsr_facts.specs.OrderLaws.{key_total}
use Rattle.lsr_facts.specs.Orders.{key_cmp}
use Rattle.lsr_facts.specs.declared.key.Key.{Key}
use Rattle.lsr_facts.specs.declared.path_fact.PathFact.{PathFact}
use Rattle.lsr_facts.specs.Holdings.{but_holding}
use Rattle.lsr_facts.specs.Priorities.{counted, holding_of, lesser, setup_of}
use Rattle.lsr_facts.specs.declared.resv_fact.ResvFact.{ResvFact}
use Rattle.abstract_router.specs.ClaimsLaws.{claim_at, claims-where}
use Rattle.abstract_router.specs.Preempting.{attr_at, claims_of}

-- the lesser of two is at most each
lesser-left : (a b : ℕ) → lesser a b ≤ a
lesser-left a b = cond_both (nat_lt b a) b a (λ n. n ≤ a) (λ below. omega (arith, ltb-true b a below)) (λ above. omega arith)

lesser-right : (a b : ℕ) → lesser a b ≤ b
lesser-right a b = cond_both (nat_lt b a) b a (λ n. n ≤ b) (λ below. omega arith) (λ above. omega (arith, ltb-false b a above))

-- a priority at which something is kept is at most 7, and no worse than that at which it is set up
pub holding_most : (attr : Option Attr) → holding_of attr ≤ 7
unfolding holding_of
holding_most None = omega arith
holding_most (Some a) = omega (arith, lesser-right (counted a.setup) (counted a.hold), lesser-right a.hold 7)

pub holding_below_setup : (attr : Option Attr) → holding_of attr ≤ setup_of attr
unfolding holding_of setup_of
holding_below_setup None = omega arith
holding_below_setup (Some a) = lesser-left (counted a.setup) (counted a.hold)

pub setup_most : (attr : Option Attr) → setup_of attr ≤ 7
unfolding setup_of
setup_most None = omega arith
setup_most (Some a) = lesser-right a.setup 7

-- each claim is kept at 7 or better
pub claims_most : (paths : List (Key × PathFact)) (resvs : List (Key × ResvFact)) → AllByRecursion (λ claim. claim.1.holding ≤ 7) (claims_of paths resvs)
unfolding claims_of
claims_most paths [] = tt
claims_most paths (v ∷ vs) = (holding_most (attr_at paths v.0), claims_most paths vs)

-- claims by other paths differ in their priorities alone
pub claims-other_paths : (paths others : List (Key × PathFact)) (resvs : List (Key × ResvFact)) → map but_holding (claims_of paths resvs) ≡ map but_holding (claims_of others resvs)
unfolding claims_of
claims-other_paths paths others [] = refl
claims-other_paths paths others (v ∷ vs) = ap (λ l. but_holding (claim_at paths v) ∷ l) (claims-other_paths paths others vs)

-- and of those that pass a test
pub claims-filter : (paths : List (Key × PathFact)) (test : Key × ResvFact → Bool) (resvs : List (Key × ResvFact)) → T (is_sorted key_cmp resvs)
    → claims_of paths (filter test resvs) ≡ where_key key_cmp (λ k. is_some (find key_cmp k (filter test resvs))) (claims_of paths resvs)
claims-filter paths test resvs h =
    ap (claims_of paths) (sym (where_key-kept key_cmp key_total test resvs h)) ∙ claims-where paths (λ k. is_some (find key_cmp k (filter test resvs))) resvs
