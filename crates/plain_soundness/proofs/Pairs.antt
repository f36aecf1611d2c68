-- What holds of rows two by two.
use Rattle.std.specs.Prelude.{◌≡◌, ◌↔◌, ◌&&◌, Bool, true, false, T, List, Option, Some, None, IfSome}
use Rattle.std.specs.FinMap.Entries.{find, is_sorted}
use Rattle.std.specs.List.{AllByRecursion}
use Rattle.std.specs.Option.{option_map_or}
use Rattle.std.specs.Ordering.{is_eq}
use Rattle.std.specs.declared.net.ipv4_addr.Ipv4Addr.{Ipv4Addr}
use Rattle.std.proofs.Common.{refl, sym, ap, subst, ◌∙◌}
use Rattle.std.proofs.lemmas.Cmp.{tied_itself}
use Rattle.sorted_rows.specs.RowsLaws.{all-from_find, find-all_row, ties}
use Rattle.lsr_facts.specs.OrderLaws.{address_exact, address_total, key_exact, key_total}
use Rattle.lsr_facts.specs.Orders.{address_cmp, key_cmp}
use Rattle.lsr_facts.specs.declared.key.Key.{Key}
use Rattle.lsr_facts.specs.declared.path_fact.Origin.{Origin}
use Rattle.lsr_facts.specs.declared.path_fact.PathFact.{PathFact}
use Rattle.lsr_facts.specs.declared.resv_fact.ResvFact.{ResvFact}
use Rattle.abstract_paths.specs.Merging.{came_through, is_beside, is_stack, under}
use Rattle.abstract_paths.specs.Soundness.{AreApart}
use Rattle.abstract_router.specs.Soundness.{AreOfOneStyle}
use Rattle.plain_soundness.specs.Apart.{ArePairApart, IsNoStackOf}
use Rattle.plain_soundness.specs.Styles.{ArePairOfOneStyle}

module _ {X : Type 0} where
  -- what holds of all rows holds of the one that is found
  pub found_row : (P : Key × X → Type 0) (rows : List (Key × X)) → AllByRecursion P rows → (key : Key) (x : X) → find key_cmp key rows ≡ Some x → P (key, x)
  found_row P rows all key x found = subst (λ (o : Option X). IfSome o (λ v. P (key, v))) found (find-all_row key_cmp key_exact P key rows all)

  -- what holds of all pairs of rows holds of two that are found
  all_pairs : (P : Key × X → Key × X → Type 0) (rows : List (Key × X)) → AllByRecursion (λ row. AllByRecursion (P row) rows) rows → (a b : Key) (x y : X) → find key_cmp a rows ≡ Some x → find key_cmp b rows ≡ Some y → P (a, x) (b, y)
  all_pairs P rows all a b x y first second = found_row (P (a, x)) rows (found_row (λ row. AllByRecursion (P row) rows) rows all a x first) b y second

  -- and the other way round
  pairs_all : (P : Key × X → Key × X → Type 0) (rows : List (Key × X)) → T (is_sorted key_cmp rows) → ((a b : Key) (x y : X) → find key_cmp a rows ≡ Some x → find key_cmp b rows ≡ Some y → P (a, x) (b, y)) → AllByRecursion (λ row. AllByRecursion (P row) rows) rows
  pairs_all P rows sorted each = all-from_find key_cmp key_total (λ row. AllByRecursion (P row) rows) rows sorted (λ a x first. all-from_find key_cmp key_total (P (a, x)) rows sorted (λ b y second. each a b x y first second))

-- One style for a session on a link, two by two.
pub one_style : (resvs : List (Key × ResvFact)) → T (is_sorted key_cmp resvs) → AllByRecursion (λ resv. AllByRecursion (ArePairOfOneStyle resv) resvs) resvs ↔ AreOfOneStyle resvs
one_style resvs sorted = (all_pairs ArePairOfOneStyle resvs, pairs_all ArePairOfOneStyle resvs sorted)

-- Paths that are apart, two by two.
pub apart : (paths : List (Key × PathFact)) → T (is_sorted key_cmp paths) → AllByRecursion (λ path. AllByRecursion (ArePairApart path) paths) paths ↔ AreApart paths
apart paths sorted = (
  λ all message a b x y first second came through. all_pairs ArePairApart paths all a b x y first second message came through,
  λ are. pairs_all ArePairApart paths sorted (λ a b x y first second message came through. are message a b x y first second came through),
)

-- both of two tests
both : (a b : Bool) → (a && b) ≡ true → (a ≡ true) × (b ≡ true)
both true b is = (refl, is)
both false b is = (is, absurd (let e = is in cc))

-- a stack's origin that a test finds
stack_found : (o : Option Origin) → option_map_or (λ origin. is_stack origin.via) o false ≡ true → (origin : Origin) × (o ≡ Some origin) × (is_stack origin.via ≡ true)
stack_found (Some origin) is = (origin, refl, is)
stack_found None is = absurd (let e = is in cc)

-- a message that comes through a stack is of the path under its sender
named : (message : Key) (path : Key × PathFact) → is_beside message path.0 ≡ true → message ≡ under message.sender.sender path.0
named message path beside =
    let same : under path.0.sender.sender message ≡ path.0 = key_exact (under path.0.sender.sender message) path.0 (ties _ beside) in
    ap (under message.sender.sender) same

-- A path of which no origin is a stack of the other's is apart from it, and the other way round.
pub no_stack : (path other : Key × PathFact) → T (is_sorted address_cmp path.1.origins) → is_eq (key_cmp path.0 other.0) ≡ false → AllByRecursion (IsNoStackOf path.0 other) path.1.origins ↔ ArePairApart path other
no_stack path other sorted two = (
  λ none message came through.
      let parts = both (is_beside message path.0) _ came in
      let found = stack_found (find address_cmp message.sender.sender path.1.origins) parts.1 in
      let at = subst (λ (o : Option Origin). IfSome o (λ v. IsNoStackOf path.0 other (message.sender.sender, v))) found.1 (find-all_row address_cmp address_exact (IsNoStackOf path.0 other) message.sender.sender path.1.origins none) in
      let passes : (is_stack found.0.via && came_through (under message.sender.sender path.0) other) ≡ true =
      ap (λ b. b && came_through (under message.sender.sender path.0) other) found.2 ∙ ap (λ m. came_through m other) (sym (named message path parts.0)) ∙ through in
      absurd (let e = sym at ∙ passes in cc),
  λ are. all-from_find address_cmp address_total (IsNoStackOf path.0 other) path.1.origins sorted (λ sender origin found.
      by sender origin found (is_stack origin.via) (came_through (under sender path.0) other) refl refl are),
)
  where
    tie : (sender : Ipv4Addr) → is_beside (under sender path.0) path.0 ≡ true
    tie sender = ap is_eq (tied_itself key_total path.0)

    by : (sender : Ipv4Addr) (origin : Origin) → find address_cmp sender path.1.origins ≡ Some origin → (a b : Bool) → is_stack origin.via ≡ a → came_through (under sender path.0) other ≡ b → ArePairApart path other → (a && b) ≡ false
    by sender origin found false b is through are = refl
    by sender origin found true false is through are = refl
    by sender origin found true true is through are =
        let came : came_through (under sender path.0) path ≡ true =
        ap (λ b. b && option_map_or (λ (origin : Origin). is_stack origin.via) (find address_cmp sender path.1.origins) false) (tie sender) ∙ ap (λ (o : Option Origin). option_map_or (λ origin. is_stack origin.via) o false) found ∙ is in
        absurd (let e = sym two ∙ are (under sender path.0) came through in cc)

-- A path of which no origin is a stack is apart from every other.
pub no_stacks : (path : Key × PathFact) → AllByRecursion (λ (origin : Ipv4Addr × Origin). is_stack origin.1.via ≡ false) path.1.origins → (other : Key × PathFact) → ArePairApart path other
no_stacks path none other message came through =
    let found = stack_found (find address_cmp message.sender.sender path.1.origins) (both (is_beside message path.0) _ came).1 in
    let at = subst (λ (o : Option Origin). IfSome o (λ v. is_stack v.via ≡ false)) found.1 (find-all_row address_cmp address_exact (λ (origin : Ipv4Addr × Origin). is_stack origin.1.via ≡ false) message.sender.sender path.1.origins none) in
    absurd (let e = sym at ∙ found.2 in cc)
