-- Laws of the Resvs that are wanted upstream: they stand in order, those of some LSPs come of these alone, and they are
-- no more than the paths.
use Rattle.std.specs.Prelude.{◌≡◌, ◌++◌, ◌*◌, ◌≤◌, ℕ, suc, not, Bool, true, false, cond, T, List, [], ◌∷◌, filter, filter_map, length, map, Option, Some, None, IfSome}
use Rattle.std.specs.FinMap.Entries.{below_all, is_sorted, where_key}
use Rattle.std.specs.List.{AllByRecursion, cons_option, flat_map}
use Rattle.std.specs.Option.{option_map, option_map_or}
use Rattle.std.specs.Ordering.{is_lt, nat_cmp, ordering_then}
use Rattle.std.specs.declared.cmp.Ordering.{Ordering}
use Rattle.std.specs.declared.cmp.Ordering.TheVariants.{Less, Equal, Greater}
use Rattle.std.specs.declared.net.ipv4_addr.Ipv4Addr.{Ipv4Addr}
use Rattle.std.proofs.Common.{refl, sym, ap, subst, ◌∙◌, arith, length-append}
use Rattle.std.proofs.lemmas.Cmp.{tied_itself}
use Rattle.std.proofs.lemmas.List.Elements.{filter-append}
use Rattle.std.proofs.lemmas.List.{length-map}
use Rattle.sorted_rows.specs.ListLaws.{all-weaker, filter-all_pass}
use Rattle.sorted_rows.specs.RowsLaws.{all-below, is_sorted-append, is_sorted-both}
use Rattle.rsvp_contents.specs.declared.messages.Content.TheVariants as contents
use Rattle.lsr_facts.specs.OrderLaws.{key_total}
use Rattle.lsr_facts.specs.Orders.{address_cmp, key_cmp}
use Rattle.lsr_facts.specs.Routers.{link_at}
use Rattle.lsr_facts.specs.Timeless.{timeless_origin}
use Rattle.lsr_facts.specs.declared.key.Key.{Key}
use Rattle.lsr_facts.specs.Origins.{number_of}
use Rattle.lsr_facts.specs.declared.path_fact.Origin.{Origin}
use Rattle.lsr_facts.specs.declared.path_fact.PathFact.{PathFact}
use Rattle.lsr_facts.specs.declared.path_fact.Via.{Via}
use Rattle.lsr_facts.specs.declared.path_fact.Via.TheVariants as vias
use Rattle.lsr_facts.specs.declared.router.Link.{Link}
use Rattle.lsr_facts.specs.declared.router.Router.{Router}
use Rattle.lsr_facts.specs.Upstreams.{upstream_cmp}
use Rattle.lsr_facts.specs.declared.upstream.Upstream.{Upstream}
use Rattle.abstract_paths.specs.declared.events.Output.{Output}
use Rattle.abstract_paths.specs.Outcomes.{routed_by, sent_by}
use Rattle.abstract_paths.specs.Routing.{route_to}
use Rattle.abstract_paths.specs.OriginLaws.{few_origins}
use Rattle.abstract_paths.specs.Places.{is_up}
use Rattle.abstract_paths.specs.Soundness.{ArePaths, IsPath}
use Rattle.abstract_paths.specs.RowLaws.{both, first, keys-map, second}
use Rattle.abstract_paths.specs.Touched.{is_among}
use Rattle.abstract_router.specs.States.{State}
use Rattle.abstract_router.specs.LspLaws.{is_sorted-lsps, lsps-among, lsps-elsewhere}
use Rattle.abstract_router.specs.Lsps.{Around, Lsp, around_of, lsp_at, lsp_of, lsps_of}
use Rattle.abstract_router.specs.Touched.{IsSameElsewhere}
use Rattle.abstract_router.specs.Upstreams.{Reserved, reserved_for, resv_to, upstream_at, upstream_at_key, upstream_of, upstream_row, upstream_rows, upstream_to, upstream_via}

-- a filter that nothing passes
filter-none_pass : {A : Type 0} (p : A → Bool) (xs : List A) → AllByRecursion (λ x. p x ≡ false) xs → filter p xs ≡ []
filter-none_pass p [] h = refl
filter-none_pass p (x ∷ xs) h = ap (λ b. cond b (x ∷ filter p xs) (filter p xs)) h.0 ∙ filter-none_pass p xs h.1

-- what holds of each that g may give holds of all that it gives
pub all-filter_map : {A B : Type 0} (P : B → Type 0) (g : A → Option B) → ((x : A) → IfSome (g x) P) → (xs : List A) → AllByRecursion P (filter_map g xs)
all-filter_map P g holds [] = tt
all-filter_map {A} {B} P g holds (x ∷ xs) = by (g x) (holds x) (all-filter_map P g holds xs)
  where
    by : (o : Option B) → IfSome o P → AllByRecursion P (filter_map g xs) → AllByRecursion P (cons_option o (filter_map g xs))
    by None h rest = rest
    by (Some y) h rest = (h, rest)

-- g gives one of each element at most
length-filter_map-le : {A B : Type 0} (g : A → Option B) (xs : List A) → length (filter_map g xs) ≤ length xs
length-filter_map-le g [] = omega arith
length-filter_map-le {A} {B} g (x ∷ xs) = by (g x) (length-filter_map-le g xs)
  where
    by : (o : Option B) → length (filter_map g xs) ≤ length xs → length (cons_option o (filter_map g xs)) ≤ suc (length xs)
    by None rest = omega (arith, rest)
    by (Some y) rest = omega (arith, rest)

-- what f gives of elements that pass a test is what passes the other of all that it gives, where these answer alike
filter-flat_map : {A B : Type 0} (f : A → List B) (p : B → Bool) (q : A → Bool) → ((x : A) → AllByRecursion (λ y. p y ≡ q x) (f x)) → (xs : List A) → filter p (flat_map f xs) ≡ flat_map f (filter q xs)
filter-flat_map f p q agree [] = refl
filter-flat_map f p q agree (x ∷ xs) =
    let rest = filter-flat_map f p q agree xs in
    filter-append p (f x) (flat_map f xs)
    ∙ elim (q x) as (λ b. q x ≡ b → filter p (f x) ++ filter p (flat_map f xs) ≡ flat_map f (cond b (x ∷ filter q xs) (filter q xs))) [
      | true ↦ λ is. λ i. filter-all_pass p (f x) (all-weaker (λ y. p y ≡ q x) (λ y. p y ≡ true) (λ y same. same ∙ is) (f x) (agree x)) i ++ rest i
      | false ↦ λ is. λ i. filter-none_pass p (f x) (all-weaker (λ y. p y ≡ q x) (λ y. p y ≡ false) (λ y same. same ∙ is) (f x) (agree x)) i ++ rest i
    ] refl

-- two functions that agree at each element give the same
flat_map_agree_within : {A B : Type 0} (f g : A → List B) (xs : List A) → AllByRecursion (λ x. f x ≡ g x) xs → flat_map f xs ≡ flat_map g xs
flat_map_agree_within f g [] h = refl
flat_map_agree_within f g (x ∷ xs) h = λ i. h.0 i ++ flat_map_agree_within f g xs h.1 i

-- where f gives four of each element at most, it gives no more than four times as many
length-flat_map-le : {A B : Type 0} (f : A → List B) (xs : List A) → AllByRecursion (λ x. length (f x) ≤ 4) xs → length (flat_map f xs) ≤ 4 * length xs
length-flat_map-le f [] h = omega arith
length-flat_map-le f (x ∷ xs) h = omega (arith, length-append (f x) (flat_map f xs), h.0, length-flat_map-le f xs h.1)

-- a key below each of two lists is below both together
below_all-both_parts : {K X : Type 0} (cmp : K → K → Ordering) (k : K) (es fs : List (K × X)) → T (below_all cmp k es) → T (below_all cmp k fs) → T (below_all cmp k (es ++ fs))
below_all-both_parts cmp k [] fs g h = h
below_all-both_parts cmp k (e ∷ es) fs g h = both _ _ (first _ _ g) (below_all-both_parts cmp k es fs (second _ _ g) h)

-- Rows in order of which f makes rows in order, each under a key of the row that it is made of, make rows in order.
module _ {K X U Y : Type 0} (cmp : K → K → Ordering) (made_cmp : U → U → Ordering) (key : U → K) (less : (u w : U) → T (is_lt (cmp (key u) (key w))) → T (is_lt (made_cmp u w)))
    (f : K × X → List (U × Y)) (own : (row : K × X) → AllByRecursion (λ (w : U × Y). key w.0 ≡ row.0) (f row)) where
  below-own : (u : U) (k : K) → T (is_lt (cmp (key u) k)) → (ws : List (U × Y)) → AllByRecursion (λ w. key w.0 ≡ k) ws → T (below_all made_cmp u ws)
  below-own u k low [] at = tt
  below-own u k low (w ∷ ws) at = both _ _ (less u w.0 (subst (λ q. T (is_lt (cmp (key u) q))) (sym at.0) low)) (below-own u k low ws at.1)

  below-flat_map : (u : U) (rows : List (K × X)) → T (below_all cmp (key u) rows) → T (below_all made_cmp u (flat_map f rows))
  below-flat_map u [] low = tt
  below-flat_map u (row ∷ rows) low =
      below_all-both_parts made_cmp u (f row) (flat_map f rows) (below-own u row.0 (first _ _ low) (f row) (own row)) (below-flat_map u rows (second _ _ low))

  is_sorted-flat_map : (rows : List (K × X)) → T (is_sorted cmp rows) → AllByRecursion (λ row. T (is_sorted made_cmp (f row))) rows → T (is_sorted made_cmp (flat_map f rows))
  is_sorted-flat_map [] h each = tt
  is_sorted-flat_map (row ∷ rows) h each =
      is_sorted-append made_cmp (f row) (flat_map f rows) each.0 (is_sorted-flat_map rows (second _ _ h) each.1)
      (all-weaker (λ w. key w.0 ≡ row.0) (λ w. T (below_all made_cmp w.0 (flat_map f rows))) (λ w is. below-flat_map w.0 rows (subst (λ k. T (below_all cmp k rows)) (sym is) (first _ _ h))) (f row) (own row))

-- a key below another: its Resvs are below those of the other
below_key : (u w : Upstream) → T (is_lt (key_cmp u.key w.key)) → T (is_lt (upstream_cmp u w))
below_key u w low = by (key_cmp u.key w.key) (ordering_then (address_cmp u.sender w.sender) (ordering_then (nat_cmp u.link w.link) (address_cmp u.hop w.hop))) low
  where
    by : (o rest : Ordering) → T (is_lt o) → T (is_lt (ordering_then o rest))
    by Less rest h = tt
    by Equal rest h = absurd h
    by Greater rest h = absurd h

-- of one LSP, that of a sender below another is below that of the other
below_sender : (key : Key) (o p : Ipv4Addr × Origin) → address_cmp o.0 p.0 ≡ Less → T (is_lt (upstream_cmp (upstream_to key o) (upstream_to key p)))
below_sender key o p low =
    subst (λ a. T (is_lt (ordering_then (key_cmp key key) (ordering_then a (ordering_then (nat_cmp (number_of o.1.via) (number_of p.1.via)) (address_cmp o.1.hop.address p.1.hop.address)))))) (sym low)
    (subst (λ k. T (is_lt (ordering_then k Less))) (sym (tied_itself key_total key)) tt)

module _ (a : Around) (lsp : Key × Lsp) where
  -- what an origin is sent is for its own LSP, sender, link and neighbour
  row-is : (P : Upstream × Output → Type 0) (label : ℕ) (said : Reserved) (origin : Ipv4Addr × Origin) → ((o : Output) → P (upstream_to lsp.0 origin, o)) → IfSome (upstream_row a lsp label said origin) P
  row-is P label said origin holds = over origin.1.via
    where
      by : (number : ℕ) (b : Bool) (l : Option Link) → IfSome (cond b (option_map (λ link. (upstream_to lsp.0 origin, sent_by number (contents.Resv (resv_to a.place.router lsp.0 lsp.1.path origin link.address label said)))) l) None) P
      by number true None = tt
      by number true (Some link) = holds _
      by number false l = tt

      back : (l : Option ℕ) → IfSome (option_map (λ link. (upstream_to lsp.0 origin, routed_by link origin.1.hop.address (contents.Resv (resv_to a.place.router lsp.0 lsp.1.path origin a.place.router.id label said)))) l) P
      back None = tt
      back (Some link) = holds _

      over : (via : Via) → IfSome (upstream_via a lsp label said origin via) P
      over (vias.Link number) = by number (is_up a.place.up number) (link_at a.place.router number)
      over vias.Stack = back (route_to a.place origin.1.hop.address)

  -- what holds of no Resvs, and of those that any label and reservation make, holds of those that the path wants
  rows-are : (P : List (Upstream × Output) → Type 0) → P [] → ((label : ℕ) (said : Reserved) → P (filter_map (upstream_row a lsp label said) lsp.1.path.origins)) → P (upstream_rows a lsp)
  rows-are P none some = by lsp.1.label (reserved_for a lsp)
    where
      by : (l : Option ℕ) (o : Option Reserved) → P (option_map_or (λ label. option_map_or (λ said. filter_map (upstream_row a lsp label said) lsp.1.path.origins) o []) l [])
      by None o = none
      by (Some label) None = none
      by (Some label) (Some said) = some label said

  -- an LSP's Resvs are its own
  own-rows : AllByRecursion (λ w. w.0.key ≡ lsp.0) (upstream_rows a lsp)
  own-rows =
      rows-are (AllByRecursion (λ w. w.0.key ≡ lsp.0)) tt
      (λ label said. all-filter_map (λ w. w.0.key ≡ lsp.0) (upstream_row a lsp label said) (λ origin. row-is (λ w. w.0.key ≡ lsp.0) label said origin (λ o. refl)) lsp.1.path.origins)

  -- a Resv below those of origins goes in front of what these are sent
  below-row : (u : Upstream) (o : Option (Upstream × Output)) (ws : List (Upstream × Output)) → IfSome o (λ w. T (is_lt (upstream_cmp u w.0))) → T (below_all upstream_cmp u ws) → T (below_all upstream_cmp u (cons_option o ws))
  below-row u None ws low h = h
  below-row u (Some w) ws low h = both _ _ low h

  below-origins : (label : ℕ) (said : Reserved) (origin : Ipv4Addr × Origin) (origins : List (Ipv4Addr × Origin)) → AllByRecursion (λ o. address_cmp origin.0 o.0 ≡ Less) origins
      → T (below_all upstream_cmp (upstream_to lsp.0 origin) (filter_map (upstream_row a lsp label said) origins))
  below-origins label said origin [] low = tt
  below-origins label said origin (o ∷ os) low =
      below-row (upstream_to lsp.0 origin) (upstream_row a lsp label said o) (filter_map (upstream_row a lsp label said) os)
      (row-is (λ w. T (is_lt (upstream_cmp (upstream_to lsp.0 origin) w.0))) label said o (λ out. below_sender lsp.0 origin o low.0)) (below-origins label said origin os low.1)

  sorted-row : (o : Option (Upstream × Output)) (ws : List (Upstream × Output)) → IfSome o (λ w. T (below_all upstream_cmp w.0 ws)) → T (is_sorted upstream_cmp ws) → T (is_sorted upstream_cmp (cons_option o ws))
  sorted-row None ws low h = h
  sorted-row (Some w) ws low h = both _ _ low h

  sorted-origins : (label : ℕ) (said : Reserved) (origins : List (Ipv4Addr × Origin)) → T (is_sorted address_cmp origins) → T (is_sorted upstream_cmp (filter_map (upstream_row a lsp label said) origins))
  sorted-origins label said [] h = tt
  sorted-origins label said (o ∷ os) h =
      sorted-row (upstream_row a lsp label said o) (filter_map (upstream_row a lsp label said) os)
      (row-is (λ w. T (below_all upstream_cmp w.0 (filter_map (upstream_row a lsp label said) os))) label said o (λ out. below-origins label said o os (all-below address_cmp o.0 os (first _ _ h))))
      (sorted-origins label said os (second _ _ h))

  -- an LSP's Resvs stand in order where its origins do
  sorted-rows : T (is_sorted address_cmp lsp.1.path.origins) → T (is_sorted upstream_cmp (upstream_rows a lsp))
  sorted-rows h = rows-are (λ ws. T (is_sorted upstream_cmp ws)) tt (λ label said. sorted-origins label said lsp.1.path.origins h)

  -- there are no more of them than of its origins
  length-rows : length (upstream_rows a lsp) ≤ length lsp.1.path.origins
  length-rows = rows-are (λ ws. length ws ≤ length lsp.1.path.origins) (omega arith) (λ label said. length-filter_map-le (upstream_row a lsp label said) lsp.1.path.origins)

-- what is said of origins in order whenever they expire
is_sorted-timeless : (origins : List (Ipv4Addr × Origin)) → T (is_sorted address_cmp origins) → T (is_sorted address_cmp (map timeless_origin origins))
is_sorted-timeless origins h = subst T (sym (is_sorted-both address_cmp (map timeless_origin origins) origins (keys-map {X = Origin} {Y = Origin} (λ o. record o.1 { expiry = 0 }) origins))) h

-- of LSPs as of their paths
all-lsps : (P : Key × Lsp → Type 0) (s : State) (rows : List (Key × PathFact)) → AllByRecursion (λ row. P (row.0, lsp_of s row.0 row.1)) rows → AllByRecursion P (map (λ row. (row.0, lsp_of s row.0 row.1)) rows)
all-lsps P s [] each = tt
all-lsps P s (row ∷ rows) each = (each.0, all-lsps P s rows each.1)

-- The Resvs that are wanted stand in order, where the paths and the origins of each do.
pub is_sorted-upstream : (r : Router) (s : State) → T (is_sorted key_cmp s.facts.paths) → AllByRecursion (λ path. T (is_sorted address_cmp path.1.origins)) s.facts.paths → T (is_sorted upstream_cmp (upstream_of r s))
unfolding upstream_of lsps_of
is_sorted-upstream r s h origins =
    is_sorted-flat_map key_cmp upstream_cmp (λ u. u.key) below_key (upstream_rows (around_of r s)) (own-rows (around_of r s)) (lsps_of s) (is_sorted-lsps s h)
    (all-lsps (λ lsp. T (is_sorted upstream_cmp (upstream_rows (around_of r s) lsp))) s s.facts.paths
    (all-weaker (λ path. T (is_sorted address_cmp path.1.origins)) (λ path. T (is_sorted upstream_cmp (upstream_rows (around_of r s) (path.0, lsp_of s path.0 path.1))))
    (λ path g. sorted-rows (around_of r s) (path.0, lsp_of s path.0 path.1) (is_sorted-timeless path.1.origins g)) s.facts.paths origins))

-- So they do where the paths are as they should be.
pub is_sorted-upstream_sound : (r : Router) (s : State) (moment : ℕ) → ArePaths r moment s.facts.paths → T (is_sorted upstream_cmp (upstream_of r s))
is_sorted-upstream_sound r s moment are =
    is_sorted-upstream r s are.in_order (all-weaker (IsPath r moment) (λ path. T (is_sorted address_cmp path.1.origins)) (λ path is. is.origins.in_order) s.facts.paths are.each)

-- What is wanted of some LSPs comes of these.
pub upstream-at_keys : (r : Router) (touched : Key → Bool) (s : State) → where_key upstream_cmp (λ u. touched u.key) (upstream_of r s) ≡ upstream_at r s touched
unfolding upstream_of upstream_at
upstream-at_keys r touched s =
    filter-flat_map (upstream_rows (around_of r s)) (λ w. touched w.0.key) (λ lsp. touched lsp.0)
    (λ lsp. all-weaker (λ w. w.0.key ≡ lsp.0) (λ w. touched w.0.key ≡ touched lsp.0) (λ w is. ap touched is) (upstream_rows (around_of r s) lsp) (own-rows (around_of r s) lsp)) (lsps_of s)

-- Where all LSPs share the same before and after, what is wanted of those that aren't touched is the same.
pub upstream-elsewhere : (r : Router) (touched : Key → Bool) (before after : State) → T (is_sorted key_cmp before.facts.paths) → T (is_sorted key_cmp after.facts.paths) → IsSameElsewhere r touched before after
    → where_key upstream_cmp (λ u. not (touched u.key)) (upstream_of r before) ≡ where_key upstream_cmp (λ u. not (touched u.key)) (upstream_of r after)
unfolding upstream_at
upstream-elsewhere r touched before after g h same =
    upstream-at_keys r (λ key. not (touched key)) before
    ∙ (λ i. flat_map (upstream_rows (same.around i)) (lsps-elsewhere r touched before after g h same i))
    ∙ sym (upstream-at_keys r (λ key. not (touched key)) after)

-- what f gives of the rows that look-ups find
found_then : {K E X Y : Type 0} (f : K × X → List Y) (look : K → Option X) (es : List (K × E)) → flat_map f (filter_map (λ e. option_map (λ x. (e.0, x)) (look e.0)) es) ≡ flat_map (λ e. option_map_or (λ x. f (e.0, x)) (look e.0) []) es
found_then f look [] = refl
found_then {K} {E} {X} {Y} f look (e ∷ es) = one (look e.0) (filter_map (λ row. option_map (λ x. (row.0, x)) (look row.0)) es) ∙ ap (λ rows. option_map_or (λ x. f (e.0, x)) (look e.0) [] ++ rows) (found_then f look es)
  where
    one : (o : Option X) (rest : List (K × X)) → flat_map f (cons_option (option_map (λ x. (e.0, x)) o) rest) ≡ option_map_or (λ x. f (e.0, x)) o [] ++ flat_map f rest
    one None rest = refl
    one (Some x) rest = refl

-- What is wanted of the LSPs of rows in order is what each of them wants.
pub upstream-among : {E : Type 0} (r : Router) (s : State) (es : List (Key × E)) → T (is_sorted key_cmp es) → T (is_sorted key_cmp s.facts.paths)
    → flat_map (λ e. upstream_at_key r s e.0) es ≡ upstream_at r s (is_among key_cmp es)
unfolding upstream_at
upstream-among r s es g h =
    sym (ap (flat_map (upstream_rows (around_of r s))) (lsps-among s es g h) ∙ found_then (upstream_rows (around_of r s)) (lsp_at s) es)

-- The origins of an LSP are sent the same whenever they expire.
pub rows-timeless : (a : Around) (lsp : Key × Lsp) (label : ℕ) (said : Reserved) (origins : List (Ipv4Addr × Origin)) → filter_map (upstream_row a lsp label said) (map timeless_origin origins) ≡ filter_map (upstream_row a lsp label said) origins
rows-timeless a lsp label said [] = refl
rows-timeless a lsp label said (o ∷ os) = ap (cons_option (upstream_row a lsp label said o)) (rows-timeless a lsp label said os)

-- At most four Resvs are wanted of each path that is known, so at most 4,096.
pub upstream-few : (r : Router) (s : State) (moment : ℕ) → ArePaths r moment s.facts.paths → (length (upstream_of r s) ≤ 4 * length s.facts.paths) × (length (upstream_of r s) ≤ 4096)
unfolding upstream_of lsps_of
upstream-few r s moment are =
    let each : AllByRecursion (λ path. length (upstream_rows (around_of r s) (path.0, lsp_of s path.0 path.1)) ≤ 4) s.facts.paths = all-weaker (IsPath r moment) (λ path. length (upstream_rows (around_of r s) (path.0, lsp_of s path.0 path.1)) ≤ 4)
    (λ path is. omega (arith, length-rows (around_of r s) (path.0, lsp_of s path.0 path.1), few_origins r moment path is, length-map path.1.origins timeless_origin)) s.facts.paths are.each in
    let few = length-flat_map-le (upstream_rows (around_of r s)) (lsps_of s) (all-lsps (λ lsp. length (upstream_rows (around_of r s) lsp) ≤ 4) s s.facts.paths each) in
    let as_many = length-map {B = Key × Lsp} s.facts.paths (λ row. (row.0, lsp_of s row.0 row.1)) in
    (omega (arith, few, as_many), omega (arith, few, as_many, are.few))
