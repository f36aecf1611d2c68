-- The edits of what a moment takes away lead to what is left.
use Rattle.std.specs.Prelude.{◌≡◌, ◌||◌, ℕ, not, Bool, true, false, cond, T, List, [], ◌∷◌, filter, filter_map, is_some, map, Option, Some, None}
use Rattle.std.specs.Bool.{then_some}
use Rattle.std.specs.FinMap.Entries.{find, is_sorted, same_entries}
use Rattle.std.specs.List.{AllByRecursion, cons_option, list_any}
use Rattle.std.specs.Option.{option_and_then, option_map}
use Rattle.std.specs.declared.net.ipv4_addr.Ipv4Addr.{Ipv4Addr}
use Rattle.std.proofs.Common.{refl, sym, ap, subst, ◌∙◌}
use Rattle.sorted_rows.specs.EditLaws.{find-edited, is_sorted-edited}
use Rattle.sorted_rows.specs.Edits.{edited, over}
use Rattle.sorted_rows.specs.Rows.{keys_of}
use Rattle.sorted_rows.specs.RowsLaws.{find-filter, find-map, is_sorted-both, is_sorted-filter}
use Rattle.lsr_facts.specs.Lifetimes.{expire, expires, lives_on, lives_past, living, with_living}
use Rattle.lsr_facts.specs.OrderLaws.{key_exact, key_total}
use Rattle.lsr_facts.specs.Orders.{key_cmp}
use Rattle.lsr_facts.specs.declared.key.Key.{Key}
use Rattle.lsr_facts.specs.declared.path_fact.Origin.{Origin}
use Rattle.lsr_facts.specs.declared.path_fact.PathFact.{PathFact}
use Rattle.abstract_paths.specs.RowLaws.{keys-map}
use Rattle.abstract_paths.specs.TouchedLaws.{find-made, is_sorted-made}
use Rattle.router_steps.specs.Expiring.{expiry_at, left_at, left_of}

-- an origin has expired
abbrev any_expires : ℕ → List (Ipv4Addr × Origin) → Bool
any_expires n origins = list_any (λ origin. not (lives_past n origin)) origins

-- where none has, all live on
all_live : (n : ℕ) (origins : List (Ipv4Addr × Origin)) → any_expires n origins ≡ false → filter (lives_past n) origins ≡ origins
all_live n [] none = refl
all_live n (o ∷ os) none =
    elim (lives_past n o) as (λ b. (not b || any_expires n os) ≡ false → cond b (o ∷ filter (lives_past n) os) (filter (lives_past n) os) ≡ o ∷ os) [
      | true ↦ λ e. ap (λ rest. o ∷ rest) (all_live n os e)
      | false ↦ λ e. absurd (let f = e in cc)
    ] none

-- what is found of a path after the edit
left_over : (n : ℕ) (key : Key) (known : Option PathFact)
    → over (option_and_then (λ fact. option_map (λ found. left_of n (key, found)) known) (option_and_then (λ fact. then_some (expires n (key, fact)) fact) known)) known
    ≡ option_map (living n) (option_and_then (λ fact. then_some (lives_on n (key, fact)) fact) known)
left_over n key None = refl
left_over n key (Some fact) = by (lives_on n (key, fact)) (any_expires n fact.origins) refl
  where
    by : (lives gone : Bool) → any_expires n fact.origins ≡ gone
        → over (option_and_then (λ x. Some (cond lives (Some (living n fact)) None)) (then_some (not lives || gone) fact)) (Some fact) ≡ option_map (living n) (then_some lives fact)
    by true true is = refl
    by true false is = ap (λ (origins : List (Ipv4Addr × Origin)). Some (record fact { origins = origins })) (sym (all_live n fact.origins is))
    by false true is = refl
    by false false is = refl

-- Paths in order stay so when what has expired goes.
is_sorted-expire : (n : ℕ) (paths : List (Key × PathFact)) → T (is_sorted key_cmp paths) → T (is_sorted key_cmp (expire n paths))
unfolding expire
is_sorted-expire n paths h =
    subst T (sym (is_sorted-both key_cmp (map (with_living n) (filter (lives_on n) paths)) (filter (lives_on n) paths) (keys-map (λ (e : Key × PathFact). living n e.1) (filter (lives_on n) paths))))
    (is_sorted-filter key_cmp (lives_on n) paths h)

-- the edits, key by key, are those of the rows of the keys
by_rows : (n : ℕ) (paths rows : List (Key × PathFact)) → filter_map (expiry_at n paths) (keys_of rows) ≡ filter_map (λ row. option_map (λ left. (row.0, left)) (left_at n paths row.0)) rows
by_rows n paths [] = refl
by_rows n paths (row ∷ rows) = ap (cons_option (expiry_at n paths row.0)) (by_rows n paths rows)

-- the edits of all paths from which the moment takes anything away
abbrev expiries : ℕ → List (Key × PathFact) → List (Key × Option PathFact)
expiries n paths = filter_map (expiry_at n paths) (keys_of (filter (expires n) paths))

-- They are of paths that are known.
pub known_expiries : (n : ℕ) (paths : List (Key × PathFact)) (keys : List Key) → AllByRecursion (λ edit. is_some (find key_cmp edit.0 paths) ≡ true) (filter_map (expiry_at n paths) keys)
known_expiries n paths [] = tt
known_expiries n paths (key ∷ keys) = by (find key_cmp key paths) refl (known_expiries n paths keys)
  where
    by : (o : Option PathFact) → find key_cmp key paths ≡ o
        → AllByRecursion (λ edit. is_some (find key_cmp edit.0 paths) ≡ true) (filter_map (expiry_at n paths) keys)
        → AllByRecursion (λ edit. is_some (find key_cmp edit.0 paths) ≡ true) (cons_option (option_map (λ left. (key, left)) (option_map (λ fact. left_of n (key, fact)) o)) (filter_map (expiry_at n paths) keys))
    by None is rest = rest
    by (Some fact) is rest = (ap is_some is, rest)

-- They stand in the order of keys,
pub is_sorted-expiries : (n : ℕ) (paths : List (Key × PathFact)) → T (is_sorted key_cmp paths) → T (is_sorted key_cmp (filter_map (expiry_at n paths) (keys_of (filter (expires n) paths))))
is_sorted-expiries n paths h =
    subst (λ (edits : List (Key × Option PathFact)). T (is_sorted key_cmp edits)) (sym (by_rows n paths (filter (expires n) paths)))
    (is_sorted-made key_cmp key_total key_exact (λ (row : Key × PathFact). left_at n paths row.0) (filter (expires n) paths) (is_sorted-filter key_cmp (expires n) paths h))

-- and lead to the paths that live on, with the origins that do.
pub edited_expire : (n : ℕ) (paths : List (Key × PathFact)) → T (is_sorted key_cmp paths) → edited key_cmp (filter_map (expiry_at n paths) (keys_of (filter (expires n) paths))) paths ≡ expire n paths
unfolding expire
edited_expire n paths h =
    same_entries key_cmp key_total key_exact (edited key_cmp (expiries n paths) paths) (expire n paths)
    (is_sorted-edited key_cmp key_total (expiries n paths) paths h)
    (is_sorted-expire n paths h)
    (λ q.
    find-edited key_cmp key_total q (expiries n paths) paths
    ∙ ap (λ edit. over edit (find key_cmp q paths)) (found q)
    ∙ left_over n q (find key_cmp q paths)
    ∙ sym (find-map key_cmp (living n) q (filter (lives_on n) paths) ∙ ap (option_map (living n)) (find-filter key_cmp key_total (lives_on n) q (λ x v tied. refl) paths h)))
  where
    found : (q : Key) → find key_cmp q (expiries n paths) ≡ option_and_then (λ fact. left_at n paths q) (option_and_then (λ fact. then_some (expires n (q, fact)) fact) (find key_cmp q paths))
    found q =
        ap (find key_cmp q) (by_rows n paths (filter (expires n) paths))
        ∙ find-made key_cmp key_total key_exact (λ (row : Key × PathFact). left_at n paths row.0) q (filter (expires n) paths) (is_sorted-filter key_cmp (expires n) paths h)
        ∙ ap (option_and_then (λ fact. left_at n paths q)) (find-filter key_cmp key_total (expires n) q (λ x v tied. refl) paths h)
