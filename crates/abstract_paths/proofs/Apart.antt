-- A message that comes through a stack is of one path at most, whichever change the paths meet.
use Rattle.std.specs.Prelude.{◌≡◌, ◌⊎◌, ℕ, Bool, true, false, cond, T, List, [], filter, map, Option, Some, None}
use Rattle.std.specs.Bool.{then_some}
use Rattle.std.specs.FinMap.Entries.{find, put, where_key, find-put, find-where_key, is_sorted}
use Rattle.std.specs.Option.{option_and_then, option_map, option_map_or}
use Rattle.std.specs.Ordering.{eq_by_cmp, is_eq}
use Rattle.std.specs.declared.net.ipv4_addr.Ipv4Addr.{Ipv4Addr}
use Rattle.std.proofs.Common.{refl, sym, ap, subst, ◌∙◌, inl, inr}
use Rattle.std.proofs.lemmas.Bool.{and_from, and_parts, both_ways, false≢true}
use Rattle.std.proofs.lemmas.Option.{none-some, same_Some}
use Rattle.rsvp_contents.specs.declared.messages.Path.{Path}
use Rattle.sorted_rows.specs.RowsLaws.{find-filter, find-map, find-put_other, find-put_same}
use Rattle.lsr_facts.specs.Lifetimes.{expire, lives_on, lives_past, living, with_living}
use Rattle.lsr_facts.specs.OrderLaws.{address_exact, address_total, key_exact, key_total}
use Rattle.lsr_facts.specs.Orders.{address_cmp, key_cmp}
use Rattle.lsr_facts.specs.declared.choice.Choice.{Choice}
use Rattle.lsr_facts.specs.declared.key.Key.{Key}
use Rattle.lsr_facts.specs.declared.path_fact.Origin.{Origin}
use Rattle.lsr_facts.specs.declared.path_fact.PathFact.{PathFact}
use Rattle.abstract_paths.proofs.Heads.{same_keys}
use Rattle.abstract_paths.specs.Merging.{came_through, is_beside, is_stack, under}
use Rattle.abstract_paths.specs.Paths.{origin_of, origins_of, path_by}
use Rattle.abstract_paths.specs.Soundness.{AreApart}

-- a message's LSP is that of each path beside it, under the message's sender
pub of_beside : (message key : Key) → is_beside message key ≡ true → message ≡ under message.sender.sender key
of_beside message key beside = ap (under message.sender.sender) (same_keys (under key.sender.sender message) key beside)

-- the path of this key, among these, has the origin that the message came through
abbrev pub Came : List (Key × PathFact) → Key → Key → Type 0
Came paths message key = (fact : PathFact) × (find key_cmp key paths ≡ Some fact) × (came_through message (key, fact) ≡ true)

-- Where each path has no such origin that the path of its key didn't have before, messages are of one path at most still.
pub apart_fewer : (before after : List (Key × PathFact)) → ((message key : Key) (fact : PathFact) → find key_cmp key after ≡ Some fact → came_through message (key, fact) ≡ true → Came before message key) → AreApart before → AreApart after
apart_fewer before after had are = λ message a b x y found_a found_b came_a came_b.
    let was_a = had message a x found_a came_a in
    let was_b = had message b y found_b came_b in
    are message a b was_a.0 was_b.0 was_a.1 was_b.1 was_a.2 was_b.2

-- where no path is known, no message is of two
pub none_apart : AreApart []
none_apart = λ message a b x y found_a found_b came_a came_b. absurd (none-some x found_a)

-- ---- the origins of one path

-- the origin that may be found came through a stack
abbrev pub is_found_stack : Option Origin → Bool
is_found_stack found = option_map_or (λ origin. is_stack origin.via) found false

kept_stack : (b : Bool) (o : Origin) → is_found_stack (then_some b o) ≡ true → is_stack o.via ≡ true
kept_stack true o is = is
kept_stack false o is = absurd (false≢true is)

-- an origin that is left by a test was there
left_stack : (p : Origin → Bool) (o : Option Origin) → is_found_stack (option_and_then (λ v. then_some (p v) v) o) ≡ true → is_found_stack o ≡ true
left_stack p None is = is
left_stack p (Some o) is = kept_stack (p o) o is

-- A path that is left with some of its origins has no such origin that it didn't have.
pub came-left : (message key : Key) (fact : PathFact) (p : Ipv4Addr × Origin → Bool) → T (is_sorted address_cmp fact.origins) → came_through message (key, record fact { origins = filter p fact.origins }) ≡ true → came_through message (key, fact) ≡ true
came-left message key fact p in_order came =
    let sender = message.sender.sender in
    let parts = and_parts (is_beside message key) _ came in
    let left = find-filter address_cmp address_total p sender (λ x v tie. ap (λ a. p (a, v)) (sym (address_exact sender x tie))) fact.origins in_order in
    and_from (is_beside message key) _ parts.0 (left_stack (λ v. p (sender, v)) (find address_cmp sender fact.origins) (subst (λ o. is_found_stack o ≡ true) left parts.1))

-- a neighbour's origin is none that came through a stack, so one that is found was there without it
behind_hop : (tie : Bool) (o : Origin) (known : Option Origin) → is_stack o.via ≡ false → is_found_stack (cond tie (Some o) known) ≡ true → is_found_stack known ≡ true
behind_hop true o known hop is = absurd (both_ways (is_stack o.via) hop is)
behind_hop false o known hop is = is

-- Nor has one that gets a neighbour's origin.
pub came-hop : (message key : Key) (moment : ℕ) (known : Option PathFact) (link : ℕ) (p : Path) (way : Choice) (paths : List (Key × PathFact)) → find key_cmp key paths ≡ known → came_through message (key, path_by moment known link p way) ≡ true → Came paths message key
came-hop message key moment known link p way paths found came = by known found (subst (λ o. is_found_stack o ≡ true) (find-put address_cmp address_total message.sender.sender p.sender.sender (origin_of moment link p) (origins_of known)) parts.1)
  where
    parts : (is_beside message key ≡ true) × (is_found_stack (find address_cmp message.sender.sender (path_by moment known link p way).origins) ≡ true)
    parts = and_parts (is_beside message key) _ came

    by : (o : Option PathFact) → find key_cmp key paths ≡ o → is_found_stack (cond (eq_by_cmp address_cmp message.sender.sender p.sender.sender) (Some (origin_of moment link p)) (find address_cmp message.sender.sender (origins_of o))) ≡ true → Came paths message key
    by None none is = absurd (false≢true (behind_hop (eq_by_cmp address_cmp message.sender.sender p.sender.sender) (origin_of moment link p) None refl is))
    by (Some fact) some is = (fact, some, and_from (is_beside message key) _ parts.0 (behind_hop (eq_by_cmp address_cmp message.sender.sender p.sender.sender) (origin_of moment link p) (find address_cmp message.sender.sender fact.origins) refl is))

-- ---- the table

-- what is found after a put is what was put, or was there
pub found_put : (key : Key) (fact : PathFact) (paths : List (Key × PathFact)) (q : Key) (v : PathFact) → find key_cmp q (put key_cmp key fact paths) ≡ Some v → ((q ≡ key) × (v ≡ fact)) ⊎ (find key_cmp q paths ≡ Some v)
found_put key fact paths q v found = by (is_eq (key_cmp q key)) refl
  where
    by : (tie : Bool) → is_eq (key_cmp q key) ≡ tie → ((q ≡ key) × (v ≡ fact)) ⊎ (find key_cmp q paths ≡ Some v)
    by true tied =
        let own : q ≡ key = same_keys q key tied in
        inl (own, sym (same_Some fact v (sym (find-put_same key_cmp key_total key fact paths) ∙ ap (λ k. find key_cmp k (put key_cmp key fact paths)) (sym own) ∙ found)))
    by false apart = inr (sym (find-put_other key_cmp key_total q key fact paths apart) ∙ found)

-- A path is put that has no such origin that the path of its key didn't have before.
pub apart_put : (key : Key) (fact : PathFact) (paths : List (Key × PathFact)) → ((message : Key) → came_through message (key, fact) ≡ true → Came paths message key) → AreApart paths → AreApart (put key_cmp key fact paths)
apart_put key fact paths had = apart_fewer paths (put key_cmp key fact paths) (λ message q v found came. by message q v came (found_put key fact paths q v found))
  where
    by : (message q : Key) (v : PathFact) → came_through message (q, v) ≡ true → ((q ≡ key) × (v ≡ fact)) ⊎ (find key_cmp q paths ≡ Some v) → Came paths message q
    by message q v came (inl own) = subst (Came paths message) (sym own.0) (had message (subst (λ (path : Key × PathFact). came_through message path ≡ true) (λ i. (own.0 i, own.1 i)) came))
    by message q v came (inr was) = (v, was, came)

-- what is there by a test was there without it
found_kept : {A : Type 0} (b : Bool) (o : Option A) (v : A) → cond b o None ≡ Some v → o ≡ Some v
found_kept true o v found = found
found_kept false o v found = absurd (none-some v found)

-- Paths are taken away by a test of their keys.
pub apart_where : (p : Key → Bool) (paths : List (Key × PathFact)) → AreApart paths → AreApart (where_key key_cmp p paths)
apart_where p paths =
    apart_fewer paths (where_key key_cmp p paths)
    (λ message q v found came. (v, found_kept (p q) (find key_cmp q paths) v (sym (find-where_key key_cmp p q (λ x tie. ap p (sym (key_exact q x tie))) paths) ∙ found), came))

-- Paths expire.
pub apart_expire : (n : ℕ) (paths : List (Key × PathFact)) → T (is_sorted key_cmp paths) → ((q : Key) (v : PathFact) → find key_cmp q paths ≡ Some v → T (is_sorted address_cmp v.origins)) → AreApart paths → AreApart (expire n paths)
unfolding expire
apart_expire n paths in_order origins_in_order = apart_fewer paths (map (with_living n) (filter (lives_on n) paths)) (λ message q v found came. by message q v came (find key_cmp q paths) refl (sym (is q) ∙ found))
  where
    is : (q : Key) → find key_cmp q (map (with_living n) (filter (lives_on n) paths)) ≡ option_map (living n) (option_and_then (λ v. then_some (lives_on n (q, v)) v) (find key_cmp q paths))
    is q =
        find-map key_cmp (living n) q (filter (lives_on n) paths)
        ∙ ap (option_map (living n)) (find-filter key_cmp key_total (lives_on n) q (λ x v tie. ap (λ k. lives_on n (k, v)) (sym (key_exact q x tie))) paths in_order)

    by_life : (message q : Key) (v old : PathFact) (b : Bool) → came_through message (q, v) ≡ true → find key_cmp q paths ≡ Some old → option_map (living n) (then_some b old) ≡ Some v → Came paths message q
    by_life message q v old true came was left = (
      old,
      was,
      came-left message q old (lives_past n) (origins_in_order q old was) (subst (λ (f : PathFact). came_through message (q, f) ≡ true) (sym (same_Some (living n old) v left)) came),
    )
    by_life message q v old false came was left = absurd (none-some v left)

    by : (message q : Key) (v : PathFact) → came_through message (q, v) ≡ true → (o : Option PathFact) → find key_cmp q paths ≡ o → option_map (living n) (option_and_then (λ v. then_some (lives_on n (q, v)) v) o) ≡ Some v → Came paths message q
    by message q v came None was left = absurd (none-some v left)
    by message q v came (Some old) was left = by_life message q v old (lives_on n (q, old)) came was left
