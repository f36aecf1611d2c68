-- The table of paths keeps what holds of it, whichever primitive changes it.
use Rattle.std.specs.Prelude.{◌≡◌, ℕ, ◌+◌, ◌≤◌, Bool, true, false, cond, not, ◌&&◌, ◌||◌, if◌then◌else◌, nat_le, IsTrue, T, List, [], ◌∷◌, map, filter, length, Option, Some, None, is_some, is_none, IfSome}
use Rattle.std.specs.FinMap.Entries.{find, put, where_key, is_sorted, is_sorted-put, is_sorted-where_key, length-put}
use Rattle.std.specs.List.{AllByRecursion, list_any}
use Rattle.std.specs.Option.{option_map_or}
use Rattle.std.specs.Ordering.{is_eq}
use Rattle.std.specs.declared.net.ipv4_addr.Ipv4Addr.{Ipv4Addr}
use Rattle.std.proofs.Common.{refl, ap, sym, subst, ◌∙◌, arith}
use Rattle.std.proofs.lemmas.Bool.{and_parts, leb-false, ltb-true}
use Rattle.std.proofs.lemmas.Cmp.{tied_itself}
use Rattle.rsvp_bodies.specs.declared.step.Step.{Step}
use Rattle.rsvp_contents.specs.Fitting.{fits_path, are_passed_on, has_adspec_last}
use Rattle.rsvp_contents.specs.Limits.{is_short_route, is_short_record, is_short_passing}
use Rattle.rsvp_contents.specs.declared.messages.Path.{Path}
use Rattle.sorted_rows.specs.ListLaws.{all-both, all-filter, all-filter_passes, all-map}
use Rattle.sorted_rows.specs.RowsLaws.{all-put, all-put_row, find-all_row, is_sorted-both, is_sorted-filter}
use Rattle.lsr_facts.specs.OrderLaws.{address_exact, address_total, key_total, key_exact}
use Rattle.lsr_facts.specs.Orders.{address_cmp, key_cmp}
use Rattle.lsr_facts.specs.Routers.{HasLink}
use Rattle.lsr_facts.specs.declared.choice.Choice.{Choice}
use Rattle.lsr_facts.specs.declared.choice.Choice.TheVariants as choices
use Rattle.lsr_facts.specs.declared.key.Key.{Key}
use Rattle.lsr_facts.specs.declared.path_fact.Origin.{Origin}
use Rattle.lsr_facts.specs.declared.path_fact.PathFact.{PathFact}
use Rattle.lsr_facts.specs.declared.path_fact.Role.{Role}
use Rattle.lsr_facts.specs.declared.path_fact.Role.TheVariants as roles
use Rattle.lsr_facts.specs.declared.router.Router.{Router}
use Rattle.abstract_paths.specs.Paths.{key_of, goes_on, way_of, role_of, link_of, rest_of, origin_of, origins_of, path_by}
use Rattle.abstract_paths.specs.Merging.{is_stack, stacks_in}
use Rattle.abstract_paths.specs.OriginLaws.{stacks_but_one}
use Rattle.abstract_paths.specs.RowLaws.{keys-map, length-filter_most, length-filter_put_none, length-filter_twice, length-put_some}
use Rattle.abstract_paths.specs.Soundness.{IsOrigin, AreApart, AreOrigins, ArePaths, IsCountAs, IsSenderAs, IsWayAs, IsWithinLimits, IsPath, begins_with_ipv4}
use Rattle.lsr_facts.specs.Lifetimes.{begins_here, expire, lives_on, lives_past, with_living}
use Rattle.abstract_paths.proofs.Apart.{apart_expire, apart_where}
use Rattle.abstract_paths.proofs.NextHops.{LeadsOn}

-- Origins that may not be there yet: as those of a path, but for their number.
pub record AreBefore (r : Router) (moment : ℕ) (key : Key) (origins : List (Ipv4Addr × Origin)) : Type 0 where
  pub in_order : T (is_sorted address_cmp origins)
  pub senders : AllByRecursion (IsSenderAs key) origins
  pub stacks : length (stacks_in origins) ≤ 3
  pub each : AllByRecursion (λ o. IsOrigin r moment o.1) origins

-- those of a path that may be known
origins_before : (r : Router) (moment : ℕ) (key : Key) (known : Option PathFact) → IfSome known (λ fact. IsPath r moment (key, fact)) → AreBefore r moment key (origins_of known)
origins_before r moment key None is = record { in_order = tt; senders = tt; stacks = omega arith; each = tt }
origins_before r moment key (Some fact) is = record { in_order = is.origins.in_order; senders = is.origins.senders; stacks = is.origins.stacks; each = is.origins.each }

-- a path that doesn't begin here may have one to four
some_count : (role : Role) (n : ℕ) → begins_here role ≡ false → 1 ≤ n → n ≤ 4 → IsCountAs role n
some_count roles.Tail n elsewhere some few = (some, few)
some_count roles.Transit n elsewhere some few = (some, few)
some_count roles.Head n elsewhere some few = absurd (let e = elsewhere in cc)

-- and fewer of those that it has, as long as some are left
fewer_count : (role : Role) (n m : ℕ) → IsCountAs role m → 1 ≤ n → n ≤ m → IsCountAs role n
fewer_count roles.Tail n m counts some fewer = (some, omega (arith, counts.1))
fewer_count roles.Transit n m counts some fewer = (some, omega (arith, counts.1))
fewer_count roles.Head n m counts some fewer = omega arith

-- An origin is put under a sender that names how its Paths come, and three at most come through stacks then.
pub origins_put : (r : Router) (moment : ℕ) (key : Key) (role : Role) (sender : Ipv4Addr) (o : Origin) (origins : List (Ipv4Addr × Origin)) → begins_here role ≡ false → IsOrigin r moment o → IsSenderAs key (sender, o) → length (stacks_in (put address_cmp sender o origins)) ≤ 3
    → AreBefore r moment key origins → AreOrigins r moment key role (put address_cmp sender o origins)
origins_put r moment key role sender o origins elsewhere is named few before =
    let in_order = is_sorted-put address_cmp address_total sender o origins before.in_order in
    let senders = all-put_row address_cmp (IsSenderAs key) sender o (λ a tied. subst (λ (x : Ipv4Addr). IsSenderAs key (x, o)) (address_exact sender a tied) named) named origins before.senders in
    record {
      in_order = in_order;
      count = some_count role _ elsewhere (length-put_some address_cmp sender o origins) (omega (arith, few, stacks_but_one key (put address_cmp sender o origins) in_order senders));
      senders = senders;
      stacks = few;
      each = all-put address_cmp (IsOrigin r moment) sender o is origins before.each;
    }

-- A neighbour's origin is put, under the key's own sender.
hop_put : (r : Router) (moment : ℕ) (key : Key) (role : Role) (o : Origin) (origins : List (Ipv4Addr × Origin)) → begins_here role ≡ false → is_stack o.via ≡ false → IsOrigin r moment o → AreBefore r moment key origins
    → AreOrigins r moment key role (put address_cmp key.sender.sender o origins)
hop_put r moment key role o origins elsewhere hop is before =
    origins_put r moment key role key.sender.sender o origins elsewhere is (ap is_eq (tied_itself address_total key.sender.sender) ∙ ap not (sym hop))
    (omega (arith, length-filter_put_none address_cmp (λ (origin : Ipv4Addr × Origin). is_stack origin.1.via) key.sender.sender o origins (λ a. hop), before.stacks))
    before

-- A path has other origins.
pub with_origins : (r : Router) (moment later : ℕ) (key : Key) (fact : PathFact) (origins : List (Ipv4Addr × Origin)) → IsPath r moment (key, fact) → AreOrigins r later key fact.role origins → IsPath r later (key, record fact { origins = origins })
with_origins r moment later key fact origins is others = record {
  origins = others;
  way = is.way;
  whole_tspec = is.whole_tspec;
  limits = record {
    given = is.limits.given;
    rest = is.limits.rest;
    begins = is.limits.begins;
    recorded = is.limits.recorded;
    passing = is.limits.passing;
    passed_on = is.limits.passed_on;
    adspec_last = is.limits.adspec_last;
    one_fast_reroute = is.limits.one_fast_reroute;
  };
}

-- the way of a path leads on
way-leads : (r : Router) (role : Role) (link : ℕ) (rest : Option (List Step)) → IsWayAs r role link rest → IsTrue (option_map_or is_short_route rest true) → IsTrue (option_map_or begins_with_ipv4 rest true) → LeadsOn r (if goes_on role then choices.Link link rest else choices.Tail)
way-leads r roles.Tail link rest is short begins = tt
way-leads r roles.Transit link rest is short begins = (is, short, begins)
way-leads r roles.Head link rest is short begins = (is, short, begins)

pub way_of-leads : (r : Router) (moment : ℕ) (path : Key × PathFact) → IsPath r moment path → LeadsOn r (way_of path.1)
way_of-leads r moment path is = way-leads r path.1.role path.1.out_link path.1.rest is.way is.limits.rest is.limits.begins

-- a way that leads on makes a path of its role, which doesn't begin here
pub role_of-elsewhere : (way : Choice) → begins_here (role_of way) ≡ false
role_of-elsewhere choices.Tail = refl
role_of-elsewhere (choices.Link link rest) = refl

way-as : (r : Router) (way : Choice) → LeadsOn r way → IsWayAs r (role_of way) (link_of way) (rest_of way)
way-as r choices.Tail leads = (refl, refl)
way-as r (choices.Link link rest) leads = leads.0

pub rest_of-short : (r : Router) (way : Choice) → LeadsOn r way → IsTrue (option_map_or is_short_route (rest_of way) true)
rest_of-short r choices.Tail leads = refl
rest_of-short r (choices.Link link rest) leads = leads.1

pub rest_of-begins : (r : Router) (way : Choice) → LeadsOn r way → IsTrue (option_map_or begins_with_ipv4 (rest_of way) true)
rest_of-begins r choices.Tail leads = refl
rest_of-begins r (choices.Link link rest) leads = leads.2

-- what a Path that fits carries is within the limits
limits_fit : (moment : ℕ) (known : Option PathFact) (link : ℕ) (p : Path) (way : Choice) → IsTrue (fits_path p) → IsTrue (option_map_or is_short_route (rest_of way) true) → IsTrue (option_map_or begins_with_ipv4 (rest_of way) true) → IsWithinLimits (path_by moment known link p way)
limits_fit moment known link p way fits rest begins =
    let a = and_parts (option_map_or is_short_route p.route true) _ fits in
    let b = and_parts (option_map_or is_short_record p.recorded true) _ a.1 in
    let c = and_parts (is_short_passing p.passing) _ b.1 in
    let d = and_parts (are_passed_on p.passing) _ c.1 in
    let e = and_parts (has_adspec_last p.passing) _ d.1 in
    record { given = a.0; rest = rest; begins = begins; recorded = b.0; passing = c.0; passed_on = d.0; adspec_last = e.0; one_fast_reroute = e.1 }

-- what a Path says that is taken: it came over a link of the router, it fits, it carries IPv4, its rate is defined
pub record IsTaken (r : Router) (link : ℕ) (p : Path) : Type 0 where
  pub over_link : HasLink r link
  pub fits : IsTrue (fits_path p)
  pub whole_tspec : length p.tspec ≡ 32

-- The path that a Path makes or renews stands as paths do.
pub path_sound : (r : Router) (moment : ℕ) (known : Option PathFact) (link : ℕ) (p : Path) (way : Choice) → IsTaken r link p → IfSome known (λ fact. IsPath r moment (key_of p, fact)) → LeadsOn r way → IsPath r moment (key_of p, path_by moment known link p way)
path_sound r moment known link p way is knows leads = record {
  origins = hop_put r moment (key_of p) (role_of way) (origin_of moment link p) (origins_of known) (role_of-elsewhere way) refl (record { over_link = is.over_link; live = omega arith }) (origins_before r moment (key_of p) known knows);
  way = way-as r way leads;
  whole_tspec = is.whole_tspec;
  limits = limits_fit moment known link p way is.fits (rest_of-short r way leads) (rest_of-begins r way leads);
}

-- A path that is left with some of its origins stands as paths do.
pub path_left_sound : (r : Router) (moment : ℕ) (key : Key) (fact : PathFact) (p : Ipv4Addr → Bool) → 1 ≤ length (where_key address_cmp p fact.origins) → IsPath r moment (key, fact) → IsPath r moment (key, record fact { origins = where_key address_cmp p fact.origins })
path_left_sound r moment key fact p some is =
    with_origins r moment moment key fact (where_key address_cmp p fact.origins) is (record {
      in_order = is_sorted-where_key address_cmp p fact.origins is.origins.in_order;
      count = fewer_count fact.role _ (length fact.origins) is.origins.count some (length-filter_most (λ (o : Ipv4Addr × Origin). p o.0) fact.origins);
      senders = all-filter (IsSenderAs key) (λ o. p o.0) fact.origins is.origins.senders;
      stacks = omega (arith, is.origins.stacks, length-filter_twice (λ (o : Ipv4Addr × Origin). is_stack o.1.via) (λ o. p o.0) fact.origins);
      each = all-filter (λ (o : Ipv4Addr × Origin). IsOrigin r moment o.1) (λ o. p o.0) fact.origins is.origins.each;
    })

-- what is known under a key
pub path_known : (r : Router) (moment : ℕ) (key : Key) (paths : List (Key × PathFact)) → ArePaths r moment paths → IfSome (find key_cmp key paths) (λ fact. IsPath r moment (key, fact))
path_known r moment key paths are = find-all_row key_cmp key_exact (IsPath r moment) key paths are.each

-- A path is put, and messages that come through stacks are of one path at most still.
pub paths_put : (r : Router) (moment : ℕ) (key : Key) (fact : PathFact) (paths : List (Key × PathFact)) → ArePaths r moment paths → IsPath r moment (key, fact) → length (put key_cmp key fact paths) ≤ 1024 → AreApart (put key_cmp key fact paths) → ArePaths r moment (put key_cmp key fact paths)
paths_put r moment key fact paths are is few apart = record {
  apart = apart;
  in_order = is_sorted-put key_cmp key_total key fact paths are.in_order;
  few = few;
  each = all-put_row key_cmp (IsPath r moment) key fact (λ k tied. subst (λ (q : Key). IsPath r moment (q, fact)) (key_exact key k tied) is) is paths are.each;
}

-- Paths are taken away by a test of their keys.
pub paths_where : (r : Router) (moment : ℕ) (p : Key → Bool) (paths : List (Key × PathFact)) → ArePaths r moment paths → ArePaths r moment (where_key key_cmp p paths)
paths_where r moment p paths are = record {
  apart = apart_where p paths are.apart;
  in_order = is_sorted-where_key key_cmp p paths are.in_order;
  few = omega (arith, are.few, length-filter_most (λ (path : Key × PathFact). p path.0) paths);
  each = all-filter (IsPath r moment) (λ path. p path.0) paths are.each;
}

-- a list that grows by a key that is new has room for it
grown_few : (there : Bool) (n m : ℕ) → n ≤ 1024 → (not there && nat_le 1024 n) ≡ false → m ≡ cond there n (n + 1) → m ≤ 1024
grown_few true n m few room is = omega (arith, few, is)
grown_few false n m few room is = omega (arith, leb-false 1024 n room, is)

-- so a put has, where the key is known or there are fewer paths
pub put_few : (key : Key) (fact : PathFact) (paths : List (Key × PathFact)) → T (is_sorted key_cmp paths) → length paths ≤ 1024 → (is_none (find key_cmp key paths) && nat_le 1024 (length paths)) ≡ false → length (put key_cmp key fact paths) ≤ 1024
put_few key fact paths in_order few room =
    grown_few (is_some (find key_cmp key paths)) (length paths) (length (put key_cmp key fact paths)) few room (length-put key_cmp key_total key fact paths in_order)

-- where an element passes a test, one is left by it
length-filter_some : {A : Type 0} (p : A → Bool) (xs : List A) → list_any p xs ≡ true → 1 ≤ length (filter p xs)
length-filter_some p [] any = absurd (let e = any in cc)
length-filter_some p (x ∷ xs) any =
    elim (p x) as (λ b. (b || list_any p xs) ≡ true → 1 ≤ length (cond b (x ∷ filter p xs) (filter p xs))) [ true ↦ λ passes. omega arith | false ↦ λ later. length-filter_some p xs later ] any

-- a list has so many elements as what f gives of them
length-map_same : {A B : Type 0} (f : A → B) (xs : List A) → length (map f xs) ≡ length xs
length-map_same f [] = refl
length-map_same f (x ∷ xs) = omega (arith, length-map_same f xs)

-- a path that lives on has as many origins by then as its role asks for
living_count : (n : ℕ) (role : Role) (origins : List (Ipv4Addr × Origin)) → IsCountAs role (length origins) → (begins_here role || list_any (lives_past n) origins) ≡ true → IsCountAs role (length (filter (lives_past n) origins))
living_count n roles.Tail origins counts lives = fewer_count roles.Tail _ (length origins) counts (length-filter_some (lives_past n) origins lives) (length-filter_most (lives_past n) origins)
living_count n roles.Transit origins counts lives = fewer_count roles.Transit _ (length origins) counts (length-filter_some (lives_past n) origins lives) (length-filter_most (lives_past n) origins)
living_count n roles.Head origins counts lives = omega (arith, counts, length-filter_most (lives_past n) origins)

module _ (r : Router) (moment n : ℕ) where
  -- an origin that lives past a moment stands at it
  origin_lives : (o : Ipv4Addr × Origin) → IsOrigin r moment o.1 → lives_past n o ≡ true → IsOrigin r n o.1
  origin_lives o is lives = let above = ltb-true n o.1.expiry lives in record { over_link = is.over_link; live = omega arith }

  -- a path that lives on stands
  path_lives : (path : Key × PathFact) → IsPath r moment path → lives_on n path ≡ true → IsPath r n (with_living n path)
  path_lives path is lives =
      with_origins r moment n path.0 path.1 (filter (lives_past n) path.1.origins) is (record {
        in_order = is_sorted-filter address_cmp (lives_past n) path.1.origins is.origins.in_order;
        count = living_count n path.1.role path.1.origins is.origins.count lives;
        senders = all-filter (IsSenderAs path.0) (lives_past n) path.1.origins is.origins.senders;
        stacks = omega (arith, is.origins.stacks, length-filter_twice (λ (o : Ipv4Addr × Origin). is_stack o.1.via) (lives_past n) path.1.origins);
        each = all-both (λ (o : Ipv4Addr × Origin). IsOrigin r moment o.1) (λ (o : Ipv4Addr × Origin). lives_past n o ≡ true) (λ (o : Ipv4Addr × Origin). IsOrigin r n o.1) origin_lives
            (filter (lives_past n) path.1.origins)
            (all-filter (λ (o : Ipv4Addr × Origin). IsOrigin r moment o.1) (lives_past n) path.1.origins is.origins.each)
            (all-filter_passes (λ (o : Ipv4Addr × Origin). lives_past n o ≡ true) (lives_past n) (λ o passes. passes) path.1.origins);
      })

  -- Paths expire: those that are left stand at the moment that has come.
  pub paths_expire : (paths : List (Key × PathFact)) → ArePaths r moment paths → ArePaths r n (expire n paths)
  unfolding expire
  paths_expire paths are =
      let living = filter (lives_on n) paths in
      record {
        apart = apart_expire n paths are.in_order (λ q v found. (known q v found).origins.in_order) are.apart;
        in_order = subst T (sym (is_sorted-both key_cmp (map (with_living n) living) living (keys-map (λ (e : Key × PathFact). (with_living n e).1) living))) (is_sorted-filter key_cmp (lives_on n) paths are.in_order);
        few = omega (arith, are.few, length-filter_most (lives_on n) paths, length-map_same (with_living n) living);
        each = all-map (IsPath r n) (with_living n) living
            (all-both (IsPath r moment) (λ path. lives_on n path ≡ true) (λ path. IsPath r n (with_living n path)) path_lives living
            (all-filter (IsPath r moment) (lives_on n) paths are.each)
            (all-filter_passes (λ path. lives_on n path ≡ true) (lives_on n) (λ path passes. passes) paths));
      }
    where
      known : (q : Key) (v : PathFact) → find key_cmp q paths ≡ Some v → IsPath r moment (q, v)
      known q v found = subst (λ (o : Option PathFact). IfSome o (λ fact. IsPath r moment (q, fact))) found (path_known r moment q paths are)
