-- What comes through stacks of labels leaves paths as they should be.
use Rattle.std.specs.Prelude.{◌≡◌, ◌⊎◌, ℕ, Bool, true, false, cond, not, ◌&&◌, nat_le, T, List, [], ◌∷◌, filter, length, Option, Some, None, IfSome, find as find_first}
use Rattle.std.specs.FinMap.Entries.{find, put, find-put, is_sorted}
use Rattle.std.specs.List.{AllByRecursion}
use Rattle.std.specs.Option.{option_and_then, option_map_or}
use Rattle.std.specs.Bool.{then_some}
use Rattle.std.specs.Ordering.{eq_by_cmp, is_eq}
use Rattle.std.specs.declared.net.ipv4_addr.Ipv4Addr.{Ipv4Addr}
use Rattle.std.proofs.Common.{refl, sym, ap, subst, ◌∙◌, inl, inr, arith}
use Rattle.std.proofs.lemmas.Bool.{and_from, and_parts, both_ways, cond_both, false≢true, leb-false, not-true}
use Rattle.std.proofs.lemmas.Cmp.{tied_itself}
use Rattle.std.proofs.lemmas.Option.{none-some}
use Rattle.rsvp_contents.specs.declared.messages.Path.{Path}
use Rattle.rsvp_contents.specs.declared.messages.PathTear.{PathTear}
use Rattle.sorted_rows.specs.ListLaws.{all-filter, all-filter_passes}
use Rattle.sorted_rows.specs.RowsLaws.{all_found, find-filter, ties}
use Rattle.lsr_facts.specs.Lifetimes.{begins_here}
use Rattle.lsr_facts.specs.OrderLaws.{address_exact, address_total, key_exact, key_total}
use Rattle.lsr_facts.specs.Orders.{address_cmp, key_cmp}
use Rattle.lsr_facts.specs.declared.facts.Facts.{Facts}
use Rattle.lsr_facts.specs.declared.key.Key.{Key}
use Rattle.lsr_facts.specs.declared.path_fact.Origin.{Origin}
use Rattle.lsr_facts.specs.declared.path_fact.PathFact.{PathFact}
use Rattle.lsr_facts.specs.declared.path_fact.Role.{Role}
use Rattle.lsr_facts.specs.declared.path_fact.Role.TheVariants as roles
use Rattle.lsr_facts.specs.declared.refusal.Refusal.TheVariants.{NoMatch, NoMerge}
use Rattle.lsr_facts.specs.declared.router.Router.{Router}
use Rattle.abstract_paths.proofs.Apart.{Came, found_put, is_found_stack, of_beside}
use Rattle.abstract_paths.proofs.Heads.{same_keys}
use Rattle.abstract_paths.proofs.PathTable.{origins_put, path_known, with_origins}
use Rattle.abstract_paths.specs.Changes.{with_path}
use Rattle.abstract_paths.specs.Merging.{came_through, is_beside, is_stack, joined_one, may_join, other_stacks, stack_origin, stack_path_arrival, stack_tear_arrival, under, with_stack}
use Rattle.abstract_paths.specs.OriginLaws.{sender_as}
use Rattle.abstract_paths.specs.Outcomes.{PathOutcome, done, lsp, refused}
use Rattle.abstract_paths.specs.Paths.{key_of}
use Rattle.abstract_paths.specs.RowLaws.{find-holds, find-passes, length-filter_put}
use Rattle.abstract_paths.specs.Soundness.{AreApart, ArePaths, IsCountAs, IsPath}
use Rattle.abstract_paths.specs.Tears.{left_with, origins_without}

-- ---- what each of the two does

-- A Path that comes through a stack is refused, or joins the one path that it may join, where that has room for it.
pub stack_path_by : (P : PathOutcome → Type 0) (s : Facts) (p : Path) → P (refused s NoMerge)
    → ((path : Key × PathFact) → filter (may_join (key_of p)) s.paths ≡ path ∷ [] → nat_le 3 (length (other_stacks p.sender.sender path.1)) ≡ false → P (done [] (with_path path.0 (with_stack s.moment p path.1) s))) → P (stack_path_arrival s p)
unfolding stack_path_arrival
stack_path_by P s p refuses joins = by (filter (may_join (key_of p)) s.paths) refl
  where
    by : (paths : List (Key × PathFact)) → filter (may_join (key_of p)) s.paths ≡ paths → P (joined_one s p paths)
    by [] is = refuses
    by (path ∷ []) is = cond_both (nat_le 3 (length (other_stacks p.sender.sender path.1))) _ _ P (λ full. refuses) (λ room. joins path is room)
    by (path ∷ other ∷ paths) is = refuses

-- A PathTear that comes through a stack is refused, or takes its origin from a path that is known and came through it.
pub stack_tear_by : (P : PathOutcome → Type 0) (s : Facts) (t : PathTear) → T (is_sorted key_cmp s.paths) → P (refused s NoMatch)
    → ((path : Key × PathFact) → find key_cmp path.0 s.paths ≡ Some path.1 → came_through (lsp t.session t.sender) path ≡ true → P (done [] (left_with path.0 path.1 (origins_without t.sender.sender path.1) s))) → P (stack_tear_arrival s t)
unfolding stack_tear_arrival
stack_tear_by P s t in_order refuses takes =
    by (find_first (came_through (lsp t.session t.sender)) s.paths) (find-holds (λ path. find key_cmp path.0 s.paths ≡ Some path.1) (came_through (lsp t.session t.sender)) s.paths (all_found key_cmp key_total s.paths in_order))
    (find-passes (came_through (lsp t.session t.sender)) s.paths)
  where
    by : (o : Option (Key × PathFact)) → IfSome o (λ path. find key_cmp path.0 s.paths ≡ Some path.1) → IfSome o (λ path. came_through (lsp t.session t.sender) path ≡ true)
        → P (option_map_or (λ path. done [] (left_with path.0 path.1 (origins_without t.sender.sender path.1) s)) o (refused s NoMatch))
    by None found came = refuses
    by (Some path) found came = takes path found came

-- ---- the path that a message is of

-- a path that begins here has no origins
pub none_of_head : (role : Role) (origins : List (Ipv4Addr × Origin)) → IsCountAs role (length origins) → begins_here role ≡ true → origins ≡ []
none_of_head roles.Tail origins counts begins = absurd (false≢true begins)
none_of_head roles.Transit origins counts begins = absurd (false≢true begins)
none_of_head roles.Head [] counts begins = refl
none_of_head roles.Head (o ∷ os) counts begins = absurd (omega (arith, counts))

-- an origin that came through a stack
stack_there : (found : Option Origin) → is_found_stack found ≡ true → (o : Origin) × (found ≡ Some o) × (is_stack o.via ≡ true)
stack_there None is = absurd (false≢true is)
stack_there (Some o) is = (o, refl, is)

-- a test that can't pass fails
fails : (b : Bool) → (b ≡ true → ⊥) → not b ≡ true
fails true never = absurd (never refl)
fails false never = refl

module _ (r : Router) (moment : ℕ) (message : Key) (path : Key × PathFact) (is : IsPath r moment path) (came : came_through message path ≡ true) where
  parts : (is_beside message path.0 ≡ true) × (is_found_stack (find address_cmp message.sender.sender path.1.origins) ≡ true)
  parts = and_parts (is_beside message path.0) _ came

  -- A message that comes through a stack names another sender than its path,
  pub came-apart : is_eq (key_cmp message path.0) ≡ false
  came-apart = not-true _ (fails (is_eq (key_cmp message path.0)) (λ tie. own (ap (λ (k : Key). k.sender.sender) (same_keys message path.0 tie)) (stack_there _ parts.1)))
    where
      own : message.sender.sender ≡ path.0.sender.sender → (o : Origin) × (find address_cmp message.sender.sender path.1.origins ≡ Some o) × (is_stack o.via ≡ true) → ⊥
      own same there =
          let named = sender_as path.0 message.sender.sender there.0 path.1.origins is.origins.senders there.1 in
          let tied : is_eq (address_cmp path.0.sender.sender message.sender.sender) ≡ true = ap (λ a. is_eq (address_cmp path.0.sender.sender a)) same ∙ ap is_eq (tied_itself address_total path.0.sender.sender) in
          false≢true (sym (named ∙ ap not there.2) ∙ tied)

  -- and that doesn't begin here.
  pub came-elsewhere : begins_here path.1.role ≡ false
  came-elsewhere =
      not-true _
      (fails (begins_here path.1.role)
      (λ begins. false≢true (subst (λ (origins : List (Ipv4Addr × Origin)). is_found_stack (find address_cmp message.sender.sender origins) ≡ true) (none_of_head path.1.role path.1.origins is.origins.count begins) parts.1)))

  -- So a Path of the LSP that it is of may join the path.
  pub came-may_join : may_join message path ≡ true
  came-may_join =
      and_from (is_beside message path.0 && not (is_eq (key_cmp message path.0))) (not (begins_here path.1.role))
      (and_from (is_beside message path.0) (not (is_eq (key_cmp message path.0))) parts.0 (ap not came-apart))
      (ap not came-elsewhere)

-- ---- a Path joins a path

module _ (paths : List (Key × PathFact)) (p : Path) (path : Key × PathFact) (only : filter (may_join (key_of p)) paths ≡ path ∷ []) where
  -- The path is one that the Path may join:
  pub joined-may : may_join (key_of p) path ≡ true
  joined-may = (subst (AllByRecursion (λ (e : Key × PathFact). may_join (key_of p) e ≡ true)) only (all-filter_passes (λ e. may_join (key_of p) e ≡ true) (may_join (key_of p)) (λ e passes. passes) paths)).0

  -- it is beside the Path's LSP,
  pub joined-beside : is_beside (key_of p) path.0 ≡ true
  joined-beside = (and_parts (is_beside (key_of p) path.0) _ (and_parts _ (not (begins_here path.1.role)) joined-may).0).0

  -- and another one's,
  pub joined-other : is_eq (key_cmp (key_of p) path.0) ≡ false
  joined-other = not-true _ (and_parts (is_beside (key_of p) path.0) _ (and_parts _ (not (begins_here path.1.role)) joined-may).0).1

  -- and doesn't begin here.
  pub joined-elsewhere : begins_here path.1.role ≡ false
  joined-elsewhere = not-true _ (and_parts _ (not (begins_here path.1.role)) joined-may).1

  -- The Path's LSP is the path's, under the Path's sender,
  pub joined-key : key_of p ≡ under p.sender.sender path.0
  joined-key = of_beside (key_of p) path.0 joined-beside

  -- which isn't the path's own.
  pub joined-sender : is_eq (address_cmp path.0.sender.sender p.sender.sender) ≡ false
  joined-sender = not-true _ (fails (is_eq (address_cmp path.0.sender.sender p.sender.sender)) (λ tie. both_ways (is_eq (key_cmp (key_of p) path.0)) joined-other (same (address_exact path.0.sender.sender p.sender.sender (ties _ tie)))))
    where
      same : path.0.sender.sender ≡ p.sender.sender → is_eq (key_cmp (key_of p) path.0) ≡ true
      same own = ap (λ (k : Key). is_eq (key_cmp k path.0)) (joined-key ∙ ap (λ a. under a path.0) (sym own)) ∙ ap is_eq (tied_itself key_total path.0)

  -- The path is known.
  pub joined-found : T (is_sorted key_cmp paths) → find key_cmp path.0 paths ≡ Some path.1
  joined-found in_order =
      (subst (AllByRecursion (λ (e : Key × PathFact). find key_cmp e.0 paths ≡ Some e.1)) only
      (all-filter (λ (e : Key × PathFact). find key_cmp e.0 paths ≡ Some e.1) (may_join (key_of p)) paths (all_found key_cmp key_total paths in_order))).0

module _ (r : Router) (moment : ℕ) (paths : List (Key × PathFact)) (are : ArePaths r moment paths) (p : Path) (path : Key × PathFact) (only : filter (may_join (key_of p)) paths ≡ path ∷ []) where
  found : find key_cmp path.0 paths ≡ Some path.1
  found = joined-found paths p path only are.in_order

  -- With the origin the path stands as paths do, where it has room.
  pub joined_sound : nat_le 3 (length (other_stacks p.sender.sender path.1)) ≡ false → IsPath r moment (path.0, with_stack moment p path.1)
  joined_sound room =
      let is : IsPath r moment path = subst (λ (o : Option PathFact). IfSome o (λ fact. IsPath r moment (path.0, fact))) found (path_known r moment path.0 paths are) in
      with_origins r moment moment path.0 path.1 (put address_cmp p.sender.sender (stack_origin moment p) path.1.origins) is
      (origins_put r moment path.0 path.1.role p.sender.sender (stack_origin moment p) path.1.origins (joined-elsewhere paths p path only) (record { over_link = tt; live = omega arith }) (joined-sender paths p path only)
      (omega (
        arith,
        leb-false 3 (length (other_stacks p.sender.sender path.1)) room,
        length-filter_put address_cmp address_total (λ (origin : Ipv4Addr × Origin). is_stack origin.1.via) p.sender.sender (stack_origin moment p) path.1.origins is.origins.in_order,
      ))
      (record { in_order = is.origins.in_order; senders = is.origins.senders; stacks = is.origins.stacks; each = is.origins.each }))

  -- what came through a stack once it has the origin did before, or is of the Path's LSP
  came_or_joins : (message q : Key) (v : PathFact) → find key_cmp q (put key_cmp path.0 (with_stack moment p path.1) paths) ≡ Some v → came_through message (q, v) ≡ true → Came paths message q ⊎ ((q ≡ path.0) × (message ≡ key_of p))
  came_or_joins message q v left came = by (found_put path.0 (with_stack moment p path.1) paths q v left)
    where
      by_sender : q ≡ path.0 → is_beside message path.0 ≡ true → (tie : Bool) → eq_by_cmp address_cmp message.sender.sender p.sender.sender ≡ tie
          → is_found_stack (cond tie (Some (stack_origin moment p)) (find address_cmp message.sender.sender path.1.origins)) ≡ true → Came paths message q ⊎ ((q ≡ path.0) × (message ≡ key_of p))
      by_sender own beside true tie is =
          inr (own, of_beside message path.0 beside ∙ ap (λ a. under a path.0) (address_exact message.sender.sender p.sender.sender (ties _ tie)) ∙ sym (joined-key paths p path only))
      by_sender own beside false tie is = inl (subst (Came paths message) (sym own) (path.1, found, and_from (is_beside message path.0) _ beside is))

      by : ((q ≡ path.0) × (v ≡ with_stack moment p path.1)) ⊎ (find key_cmp q paths ≡ Some v) → Came paths message q ⊎ ((q ≡ path.0) × (message ≡ key_of p))
      by (inr was) = inl (v, was, came)
      by (inl own) =
          let there = and_parts (is_beside message path.0) _ (subst (λ (e : Key × PathFact). came_through message e ≡ true) (λ i. (own.0 i, own.1 i)) came) in
          by_sender own.0 there.0 (eq_by_cmp address_cmp message.sender.sender p.sender.sender) refl
          (subst (λ o. is_found_stack o ≡ true) (find-put address_cmp address_total message.sender.sender p.sender.sender (stack_origin moment p) path.1.origins) there.1)

  -- no other path came through a stack for that LSP
  only_one : (q : Key) → Came paths (key_of p) q → q ≡ path.0
  only_one q was = by (may_join (key_of p) (q, was.0)) (came-may_join r moment (key_of p) (q, was.0) known was.2) (is_eq (key_cmp q path.0)) refl left
    where
      known : IsPath r moment (q, was.0)
      known = subst (λ (o : Option PathFact). IfSome o (λ fact. IsPath r moment (q, fact))) was.1 (path_known r moment q paths are)

      left : cond (is_eq (key_cmp q path.0)) (Some path.1) None ≡ then_some (may_join (key_of p) (q, was.0)) was.0
      left =
          ap (find key_cmp q) (sym only)
          ∙ find-filter key_cmp key_total (may_join (key_of p)) q (λ x v tie. ap (λ k. may_join (key_of p) (k, v)) (sym (key_exact q x tie))) paths are.in_order
          ∙ ap (option_and_then (λ v. then_some (may_join (key_of p) (q, v)) v)) was.1

      by : (may : Bool) → may ≡ true → (tie : Bool) → is_eq (key_cmp q path.0) ≡ tie → cond tie (Some path.1) None ≡ then_some may was.0 → q ≡ path.0
      by false may tie is left = absurd (false≢true may)
      by true may true is left = same_keys q path.0 is
      by true may false is left = absurd (none-some was.0 left)

  -- Messages that come through stacks are of one path at most still.
  pub joined_apart : AreApart (put key_cmp path.0 (with_stack moment p path.1) paths)
  joined_apart = λ message a b x y found_a found_b came_a came_b. by message a b (came_or_joins message a x found_a came_a) (came_or_joins message b y found_b came_b)
    where
      tied : (a b : Key) → a ≡ b → is_eq (key_cmp a b) ≡ true
      tied a b same = ap (λ k. is_eq (key_cmp a k)) (sym same) ∙ ap is_eq (tied_itself key_total a)

      by : (message a b : Key) → Came paths message a ⊎ ((a ≡ path.0) × (message ≡ key_of p)) → Came paths message b ⊎ ((b ≡ path.0) × (message ≡ key_of p)) → is_eq (key_cmp a b) ≡ true
      by message a b (inl was) (inl had) = are.apart message a b was.0 had.0 was.1 had.1 was.2 had.2
      by message a b (inl was) (inr own) = tied a b (only_one a (subst (λ k. Came paths k a) own.1 was) ∙ sym own.0)
      by message a b (inr own) (inl was) = tied a b (own.0 ∙ sym (only_one b (subst (λ k. Came paths k b) own.1 was)))
      by message a b (inr own) (inr too) = tied a b (own.0 ∙ sym too.0)
