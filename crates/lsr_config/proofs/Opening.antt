-- A configuration that a document says, where it keeps all rules, is one that a router can be opened with.
use Rattle.std.proofs.Common.{◌≡◌, ℕ, ◌+◌, ◌-◌, ◌*◌, ◌/◌, ◌%◌, ◌^◌, ◌<◌, ◌≤◌, true, false, List, [], ◌∷◌, ◌++◌, map, length, Option, Some, None, is_some, refl, sym, ap, subst, ◌∙◌, arith, T, length-append}
use Rattle.std.proofs.Math.Nat.{mul-mod_right}
use Rattle.std.proofs.lemmas.Cmp.{nat_cmp_total}
use Rattle.std.proofs.lemmas.Map.Keys.{IsDistinct-cons}
use Rattle.std.proofs.lemmas.Map.Lookups.{exact_unsigned}
use Rattle.std.proofs.lemmas.Nat.{from_be_bytes-to_be_bytes_4, pow_pos}
use Rattle.std.specs.Prelude.{IfSome, IsSomeAnd, IsTrue, MatchOption}
use Rattle.std.specs.List.{AllByRecursion, IsDistinct, list_any}
use Rattle.std.specs.FinMap.Entries.{find, is_sorted}
use Rattle.std.specs.Option.{option_map_or}
use Rattle.std.specs.Net.Addr.{ipv4_bits, ipv4_octets}
use Rattle.std.specs.Net.Grammar.{IsIpv4Text}
use Rattle.std.specs.Ordering.{nat_cmp}
use Rattle.std.specs.declared.net.ipv4_addr.Ipv4Addr.{Ipv4Addr}
use Rattle.toml.specs.Data.{Data, get}
use Rattle.rsvp_bodies.specs.declared.prefix.Prefix.{Prefix}
use Rattle.rsvp_bodies.specs.declared.step.Step.{Step}
use Rattle.rsvp_contents.specs.Below.objects.Ranges.{IsAddress}
use Rattle.rsvp_contents.specs.Limits.{is_short_route}
use Rattle.rsvp_bodies.specs.RateWords.{tspec_with}
use Rattle.sorted_rows.specs.ListLaws.{all-map}
use Rattle.sorted_rows.specs.Rows.{values_of}
use Rattle.sorted_rows.specs.RowsLaws.{find-all_row}
use Rattle.lsr_facts.specs.Bypasses.{AreBypasses, IsBypass, carries}
use Rattle.lsr_facts.specs.Orders.{prefix_cmp}
use Rattle.lsr_facts.specs.OrderLaws.{prefix_total, prefix_exact}
use Rattle.lsr_facts.specs.Routers.{AreLabels, AreRoutes, HasLink, IsLink, IsRouter, is_same, link_at, masked, own_addresses}
use Rattle.lsr_facts.specs.declared.bypass.Bypass.{Bypass}
use Rattle.lsr_facts.specs.declared.router.LabelRange.{LabelRange}
use Rattle.lsr_facts.specs.Tunnels.{AreTunnels, AreUnchanging, IsPendingAs, IsTunnel, route_from}
use Rattle.lsr_facts.specs.declared.router.Link.{Link}
use Rattle.lsr_facts.specs.declared.router.Router.{Router}
use Rattle.lsr_facts.specs.declared.tunnel.Tunnel.{Tunnel}
use Rattle.lsr_config.specs.Configs.{IsConfig, Setup}
use Rattle.lsr_config.specs.Keys.{key_name}
use Rattle.lsr_config.specs.Values.{SaysAddress, SaysEach, SaysLabels, SaysWhole, SaysPrefix, SaysSteps, SaysTspec}
use Rattle.lsr_config.specs.Rules.{Rule, Has, HasOr, HasAddress, HasCapacity, HasNumber, HaveRoom, HasPrefix, IsFree, SomeOf, Holds}
use Rattle.lsr_config.specs.Documents.{all_known_rules, each_record, link_rules, router_rules, route_rules, tunnel_rules, bypass_rules, rules_of, records, table_rules, new_tunnel, SaysLink, SaysRoute, SaysTunnel, SaysBypass, Says, in_order}
use Rattle.lsr_config.specs.declared.key.Key.{Key}
use Rattle.lsr_config.specs.declared.key.Key.TheVariants as key
use Rattle.lsr_config.proofs.Capacities.{CarryAll, has_some, room_in_all, tspec_fits}
use Rattle.lsr_config.proofs.Apart.{address_rule, addresses_apart, distinct_addresses, not_same, rows_apart, same_link}
use Rattle.lsr_config.proofs.Judging.{all_front, all_back, records_kept, says_length, turn_end, turn_first, turn_kept, turn_rest}
use Rattle.lsr_config.proofs.Placing.{sorted_in_order, length_in_order, all_in_order, found_in_order}
use Rattle.lsr_config.proofs.Routing.{short_from, steps_said}
use Rattle.lsr_config.proofs.Telling.{AreNumbered, links_numbered, row_of_number, tunnels_numbered}

-- ---- rules that are kept

links_kept : (d : Data) → AllByRecursion Holds (rules_of d) → AllByRecursion Holds (each_record (link_rules d) [] (records key.Link d))
unfolding rules_of
links_kept d h = records_kept key.Link (link_rules d) d (turn_first _ _ (turn_rest _ _ h))

routes_kept : (d : Data) → AllByRecursion Holds (rules_of d) → AllByRecursion Holds (each_record (route_rules (records key.Link d)) [] (records key.Route d))
unfolding rules_of
routes_kept d h = records_kept key.Route (route_rules (records key.Link d)) d (turn_first _ _ (turn_rest _ _ (turn_rest _ _ h)))

tunnels_kept : (d : Data) → AllByRecursion Holds (rules_of d) → AllByRecursion Holds (each_record (tunnel_rules d) [] (records key.Tunnel d))
unfolding rules_of
tunnels_kept d h = records_kept key.Tunnel (tunnel_rules d) d (turn_first _ _ (turn_rest _ _ (turn_rest _ _ (turn_rest _ _ h))))

bypasses_kept : (d : Data) → AllByRecursion Holds (rules_of d) → AllByRecursion Holds (each_record (bypass_rules d) [] (records key.Bypass d))
unfolding rules_of
bypasses_kept d h = records_kept key.Bypass (bypass_rules d) d (turn_first _ _ (turn_rest _ _ (turn_rest _ _ (turn_rest _ _ (turn_rest _ _ h)))))

few_links : (d : Data) (before : List Data) (link : Data) → AllByRecursion Holds (link_rules d before link) → length before < 16
unfolding link_rules Holds
few_links d before link h =
    (turn_first _ _ (turn_rest _ _ (turn_rest _ _ (turn_rest _ _ (turn_rest _ _ (turn_rest _ _ (turn_rest _ _ (turn_rest _ _ (turn_rest _ _ (turn_rest _ _ (turn_rest _ _ h))))))))))).0

few_routes : (links before : List Data) (route : Data) → AllByRecursion Holds (route_rules links before route) → length before < 256
unfolding route_rules Holds
few_routes links before route h = (turn_first _ _ (turn_rest _ _ (turn_rest _ _ (turn_rest _ _ (turn_rest _ _ h))))).0

few_tunnels : (d : Data) (before : List Data) (tunnel : Data) → AllByRecursion Holds (tunnel_rules d before tunnel) → length before < 256
unfolding tunnel_rules Holds
few_tunnels d before tunnel h =
    (turn_first _ _ (turn_rest _ _ (turn_rest _ _ (turn_rest _ _ (turn_rest _ _ (turn_rest _ _ (turn_rest _ _ (turn_rest _ _ h)))))))).0

few_bypasses : (d : Data) (before : List Data) (bypass : Data) → AllByRecursion Holds (bypass_rules d before bypass) → length before < 64
unfolding bypass_rules Holds
few_bypasses d before bypass h = (turn_first _ _ (turn_rest _ _ (turn_rest _ _ (turn_rest _ _ (turn_rest _ _ (turn_rest _ _ (turn_rest _ _ (turn_rest _ _ (turn_rest _ _ h))))))))).0

ends_elsewhere : (d : Data) (before : List Data) (tunnel : Data) → AllByRecursion Holds (tunnel_rules d before tunnel) → (a : Ipv4Addr) → HasAddress key.Endpoint tunnel a → IsFree d (records key.Link d) a
unfolding tunnel_rules Holds
ends_elsewhere d before tunnel h = (turn_first _ _ (turn_rest _ _ (turn_rest _ _ (turn_rest _ _ h)))).0

over_a_link : (links before : List Data) (route : Data) → AllByRecursion Holds (route_rules links before route) → (n : ℕ) → HasNumber 1 key.Link route n → SomeOf (λ link. HasNumber 1 key.Number link n) links
unfolding route_rules Holds
over_a_link links before route h = (turn_first _ _ (turn_rest _ _ (turn_rest _ _ (turn_rest _ _ h)))).0

in_a_tunnel : (d : Data) (before : List Data) (bypass : Data) → AllByRecursion Holds (bypass_rules d before bypass) → (n : ℕ) → HasNumber 0 key.Tunnel bypass n → SomeOf (λ tunnel. HasNumber 0 key.Number tunnel n) (records key.Tunnel d)
unfolding bypass_rules Holds
in_a_tunnel d before bypass h = (turn_first _ _ (turn_rest _ _ (turn_rest _ _ (turn_rest _ _ h)))).0

for_a_link : (d : Data) (before : List Data) (bypass : Data) → AllByRecursion Holds (bypass_rules d before bypass) → (n : ℕ) → HasNumber 1 key.Link bypass n → SomeOf (λ link. HasNumber 1 key.Number link n) (records key.Link d)
unfolding bypass_rules Holds
for_a_link d before bypass h = (turn_first _ _ (turn_rest _ _ (turn_rest _ _ (turn_rest _ _ (turn_rest _ _ (turn_rest _ _ h)))))).0

in_room : (d : Data) (before : List Data) (bypass : Data) → AllByRecursion Holds (bypass_rules d before bypass) → (n capacity : ℕ) → HasNumber 0 key.Tunnel bypass n → HasCapacity bypass capacity → HaveRoom n capacity (records key.Tunnel d)
unfolding bypass_rules Holds
in_room d before bypass h = (turn_first _ _ (turn_rest _ _ (turn_rest _ _ (turn_rest _ _ (turn_rest _ _ (turn_rest _ _ (turn_rest _ _ (turn_rest _ _ h)))))))).0

-- a table has no more records than the rule of each allows
at_most : (rules : List Data → Data → List Rule) (most : ℕ) → ((before : List Data) (d : Data) → AllByRecursion Holds (rules before d) → length before < most)
    → (before ds : List Data) → AllByRecursion Holds (each_record rules before ds) → length before ≤ most → length before + length ds ≤ most
unfolding each_record
at_most rules most limit before [] h within = omega arith
at_most rules most limit before (d ∷ ds) h within =
    let here : length before < most = limit before d (all_front Holds (rules before d) (each_record rules (before ++ d ∷ []) ds) h) in
    let longer : length (before ++ d ∷ []) ≡ length before + 1 = length-append before (d ∷ []) in
    let rest : length (before ++ d ∷ []) + length ds ≤ most =
    at_most rules most limit (before ++ d ∷ []) ds (all_back Holds (rules before d) (each_record rules (before ++ d ∷ []) ds) h) (omega arith) in
    omega arith

-- nor do its records say more rows
few_rows : {A : Type 0} (Reads : Data → A → Type 0) (rules : List Data → Data → List Rule) (most : ℕ) → ((before : List Data) (d : Data) → AllByRecursion Holds (rules before d) → length before < most)
    → (ds : List Data) (rows : List A) → AllByRecursion Holds (each_record rules [] ds) → SaysEach Reads ds rows → length rows ≤ most
few_rows Reads rules most limit ds rows kept says =
    let records_few : 0 + length ds ≤ most = at_most rules most limit [] ds kept (omega arith) in
    omega (arith, says_length Reads ds rows says)

-- what holds of each record that says a row, and of its rules, holds of each row
module _ {A : Type 0} (Reads : Data → A → Type 0) (rules : List Data → Data → List Rule) (P : A → Type 0) (holds : (before : List Data) (d : Data) (row : A) → AllByRecursion Holds (rules before d) → Reads d row → P row) where
  all_rows : (before ds : List Data) (rows : List A) → AllByRecursion Holds (each_record rules before ds) → SaysEach Reads ds rows → AllByRecursion P rows
  unfolding each_record
  all_rows before [] [] kept says = tt
  all_rows before [] (row ∷ rows) kept says = absurd says
  all_rows before (d ∷ ds) [] kept says = absurd says
  all_rows before (d ∷ ds) (row ∷ rows) kept says = (
    holds before d row (all_front Holds (rules before d) (each_record rules (before ++ d ∷ []) ds) kept) says.0,
    all_rows (before ++ d ∷ []) ds rows (all_back Holds (rules before d) (each_record rules (before ++ d ∷ []) ds) kept) says.1,
  )

-- ---- what the values say

number_from_one : (key : Key) (d : Data) (n : ℕ) → HasNumber 1 key d n → 1 ≤ n
unfolding SaysWhole
number_from_one key d n h = has_some (λ v. SaysWhole 1 65535 v n) (1 ≤ n) (get (key_name key) d) (λ v says. says.1) h

limit_fits : (d : Data) (limit : ℕ) → Has key.Limit d (λ v. SaysWhole 0 (2 ^ 50) v limit) → limit ≤ 2 ^ 50
unfolding SaysWhole
limit_fits d limit h = has_some (λ v. SaysWhole 0 (2 ^ 50) v limit) (limit ≤ 2 ^ 50) (get (key_name key.Limit) d) (λ v says. says.2) h

refresh_from_one : (o : Option Data) (n : ℕ) → MatchOption o (n ≡ 30000) (λ v. SaysWhole 1 4294967295 v n) → 1 ≤ n
unfolding SaysWhole
refresh_from_one None n is = omega (arith, is)
refresh_from_one (Some v) n says = says.1

labels_fit : (d : Data) (labels : LabelRange) → Has key.Labels d (λ v. SaysLabels v labels) → AreLabels labels
unfolding SaysLabels SaysWhole
labels_fit d labels h =
    has_some (λ v. SaysLabels v labels) (AreLabels labels) (get (key_name key.Labels) d)
    (λ v says. record {
      first = says.3.1;
      some = says.5;
      last = says.4.2;
      few = (let number = says.6 in omega (arith, number));
    }) h

address_of_four : (key : Key) (d : Data) (a : Ipv4Addr) → HasAddress key d a → length (ipv4_octets a) ≡ 4
unfolding SaysAddress
address_of_four key d a h = has_some (λ v. SaysAddress v a) (length (ipv4_octets a) ≡ 4) (get (key_name key) d) (λ v says. ap length says.2.value) h

bits_fit : (text : List ℕ) (a : Ipv4Addr) → IsIpv4Text text a → ipv4_bits a < 2 ^ 32
unfolding ipv4_bits
bits_fit text a h = rw h.value (let fit = h.fit in omega arith)

unmasked : (a : Ipv4Addr) (n : ℕ) → ipv4_bits a - ipv4_bits a % 2 ^ (32 - n) < 2 ^ 32 → ipv4_bits (masked a n) ≡ ipv4_bits a - ipv4_bits a % 2 ^ (32 - n)
unfolding masked ipv4_bits
unmasked a n fits = from_be_bytes-to_be_bytes_4 _ fits

whole_part : (bits size : ℕ) → 0 < size → bits - bits % size ≡ size * (bits / size)
whole_part bits size some = omega arith

-- bits past the length are 0 in what is left of an address
masked_past : (a : Ipv4Addr) (n : ℕ) → n ≤ 32 → ipv4_bits a < 2 ^ 32 → ipv4_bits (masked a n) % 2 ^ (32 - n) ≡ 0
masked_past a n short fits =
    ap (λ b. b % 2 ^ (32 - n)) (unmasked a n (omega arith) ∙ whole_part (ipv4_bits a) (2 ^ (32 - n)) (pow_pos (32 - n))) ∙ mul-mod_right (2 ^ (32 - n)) (ipv4_bits a / 2 ^ (32 - n))

prefix_fits : (key : Key) (d : Data) (p : Prefix) → HasPrefix key d p → (p.length ≤ 32) × (ipv4_bits p.address % 2 ^ (32 - p.length) ≡ 0)
unfolding SaysPrefix
prefix_fits key d p h =
    has_some (λ v. SaysPrefix v p) ((p.length ≤ 32) × (ipv4_bits p.address % 2 ^ (32 - p.length) ≡ 0)) (get (key_name key) d)
    (λ v says.
    let written = says.2.0 in
    let same : p.length ≡ written.length = ap (λ (q : Prefix). q.length) says.2.3 in
    let past : ipv4_bits (masked written.address written.length) % 2 ^ (32 - written.length) ≡ 0 = masked_past written.address written.length says.2.2 (bits_fit _ written.address says.2.1.0) in
    (omega (arith, same, says.2.2), rw says.2.3 past)) h

-- a number that one of the records has is found among their rows
number_found : {V : Type 0} (first n : ℕ) (ds : List Data) (rows sorted : List (ℕ × V)) → sorted ≡ in_order nat_cmp rows → AreNumbered first ds rows → SomeOf (λ d. HasNumber first key.Number d n) ds → IsTrue (is_some (find nat_cmp n sorted))
number_found first n ds rows sorted is says h =
    subst (λ s. IsTrue (is_some (find nat_cmp n s))) (sym is) (found_in_order nat_cmp nat_cmp_total exact_unsigned n rows (row_of_number first n ds rows says h))

-- ---- tunnels

-- no row of a link has an address that no record of one has
rows_are_free : (a : Ipv4Addr) (ds : List Data) (rows : List (ℕ × Link)) → SaysEach SaysLink ds rows → AllByRecursion (λ link. ¬ HasAddress key.Address link a) ds → AllByRecursion (λ row. is_same a row.1.address ≡ false) rows
rows_are_free a [] [] says h = tt
rows_are_free a [] (row ∷ rows) says h = absurd says
rows_are_free a (d ∷ ds) [] says h = absurd says
rows_are_free a (d ∷ ds) (row ∷ rows) says h = (
  not_same a row.1.address (λ e. h.0 (subst (HasAddress key.Address d) (sym e) says.0.address)),
  rows_are_free a ds rows says.1 h.1,
)

none_same : (a : Ipv4Addr) (addresses : List Ipv4Addr) → AllByRecursion (λ b. is_same a b ≡ false) addresses → list_any (is_same a) addresses ≡ false
none_same a [] h = refl
none_same a (b ∷ addresses) h = rw (h.0, none_same a addresses h.1) refl

route_fits : (r : Router) (key : Key) (d : Data) (steps : List Step) → length (ipv4_octets r.id) ≡ 4 → Has key d (λ v. SaysSteps v steps) → IsTrue (is_short_route (route_from r steps))
unfolding SaysSteps
route_fits r key d steps four h =
    has_some (λ v. SaysSteps v steps) (IsTrue (is_short_route (route_from r steps))) (get (key_name key) d) (λ v says. short_from r steps four (steps_said _ steps says.2) says.3) h

-- a tunnel with its first LSP fits, where what is asked for that does
new_fits : (r : Router) (row : ℕ × Tunnel) → row.1 ≡ new_tunnel row.1.endpoint row.1.attr row.1.current.route row.1.current.tspec
    → IsAddress row.1.endpoint → list_any (is_same row.1.endpoint) (own_addresses r) ≡ false → IsTrue (is_short_route (route_from r row.1.current.route)) → length row.1.current.tspec ≡ 32 → IsTunnel r row
new_fits r row first endpoint elsewhere short whole =
    let current : row.1.current.id ≡ 1 = ap (λ (t : Tunnel). t.current.id) first in
    let last : row.1.last ≡ 1 = ap (λ (t : Tunnel). t.last) first in
    let none : row.1.pending ≡ None = ap (λ (t : Tunnel). t.pending) first in
    record {
      endpoint = endpoint;
      elsewhere = elsewhere;
      current = record { route = short; whole_tspec = whole; numbered = omega (arith, current); given = omega (arith, current, last) };
      pending = subst (IsPendingAs r row.1) (sym none) tt;
    }

-- a tunnel that is found, under a number whose tunnels carry so much, carries it
found_carries : (n capacity : ℕ) (o : Option Tunnel) → IfSome o (λ t. n ≡ n → carries capacity t ≡ true) → option_map_or (carries capacity) o true ≡ true
found_carries n capacity None h = refl
found_carries n capacity (Some t) h = h refl

-- ---- the configuration

module _ (d : Data) (c : Setup) (kept : AllByRecursion Holds (rules_of d)) (says : Says d c) where
  -- what holds of each record of a link and of what it says holds of each link
  each_link : (P : ℕ × Link → Type 0) → ((before : List Data) (link : Data) (row : ℕ × Link) → AllByRecursion Holds (link_rules d before link) → SaysLink link row → P row) → AllByRecursion P c.router.links
  each_link P from =
      subst (AllByRecursion P) (sym says.links.2)
      (all_in_order nat_cmp nat_cmp_total exact_unsigned P says.links.0 (all_rows SaysLink (link_rules d) P from [] (records key.Link d) says.links.0 (links_kept d kept) says.links.1))

  link_fits : (before : List Data) (link : Data) (row : ℕ × Link) → AllByRecursion Holds (link_rules d before link) → SaysLink link row → IsLink row
  link_fits before link row held this = record {
    numbered = number_from_one key.Number link row.0 this.number;
    address = address_of_four key.Address link row.1.address this.address;
    peer = address_of_four key.Peer link row.1.peer this.peer;
    peer_router = address_of_four key.PeerRouter link row.1.peer_router this.peer_router;
    limit = limit_fits link row.1.limit this.limit;
  }

  not_routers : (before : List Data) (link : Data) (row : ℕ × Link) → AllByRecursion Holds (link_rules d before link) → SaysLink link row → is_same c.router.id row.1.address ≡ false
  not_routers before link row held this =
      not_same c.router.id row.1.address (λ e. (address_rule d before link held row.1.address this.address).0 (subst (HasAddress key.Router d) e says.id))

  addresses_differ : IsDistinct is_same (own_addresses c.router)
  addresses_differ =
      let links = c.router.links in
      let apart : IsDistinct same_link (values_of links) =
      subst (λ rows. IsDistinct same_link (values_of rows)) (sym says.links.2) (addresses_apart nat_cmp says.links.0 (rows_apart d [] (records key.Link d) says.links.0 (links_kept d kept) says.links.1)) in
      IsDistinct-cons is_same c.router.id (map (λ l. l.1.address) links)
      (all-map (λ a. is_same c.router.id a ≡ false) (λ l. l.1.address) links (each_link (λ row. is_same c.router.id row.1.address ≡ false) not_routers))
      (distinct_addresses links apart)

  router_opens : IsRouter c.router
  router_opens = record {
    id = address_of_four key.Router d c.router.id says.id;
    refresh = refresh_from_one (get (key_name key.RefreshMs) d) c.router.refresh_ms says.refresh_ms;
    labels = labels_fit d c.router.labels says.labels;
    in_order = subst (λ links. T (is_sorted nat_cmp links)) (sym says.links.2) (sorted_in_order nat_cmp nat_cmp_total exact_unsigned says.links.0);
    few = rw says.links.2
        (omega (arith, length_in_order nat_cmp nat_cmp_total exact_unsigned says.links.0, few_rows SaysLink (link_rules d) 16 (few_links d) (records key.Link d) says.links.0 (links_kept d kept) says.links.1));
    links = each_link IsLink link_fits;
    apart = addresses_differ;
  }

  link_there : (n : ℕ) → SomeOf (λ link. HasNumber 1 key.Number link n) (records key.Link d) → HasLink c.router n
  unfolding link_at
  link_there n h = number_found 1 n (records key.Link d) says.links.0 c.router.links says.links.2 (links_numbered _ _ says.links.1) h

  routes_open : AreRoutes c.router c.routes
  routes_open =
      let rows = says.routes.0 in
      let each = says.routes.1 in
      let is = says.routes.2 in
      let links = records key.Link d in
      let count = few_rows SaysRoute (route_rules links) 256 (few_routes links) (records key.Route d) rows (routes_kept d kept) each in
      let same = λ (P : Prefix × ℕ → Type 0) (from : (before : List Data) (route : Data) (row : Prefix × ℕ) → AllByRecursion Holds (route_rules links before route) → SaysRoute route row → P row).
      subst (AllByRecursion P) (sym is) (all_in_order prefix_cmp prefix_total prefix_exact P rows (all_rows SaysRoute (route_rules links) P from [] (records key.Route d) rows (routes_kept d kept) each)) in
      record {
        in_order = subst (λ routes. T (is_sorted prefix_cmp routes)) (sym is) (sorted_in_order prefix_cmp prefix_total prefix_exact rows);
        few = rw is (omega (arith, length_in_order prefix_cmp prefix_total prefix_exact rows, count));
        prefixes = same (λ row. row.0.length ≤ 32) (λ before route row _ this. (prefix_fits key.Prefix route row.0 this.prefix).0);
        masked = same (λ row. ipv4_bits row.0.address % 2 ^ (32 - row.0.length) ≡ 0) (λ before route row _ this. (prefix_fits key.Prefix route row.0 this.prefix).1);
        over_links = same (λ row. HasLink c.router row.1) (λ before route row held this. link_there row.1 (over_a_link links before route held row.1 this.link));
      }

  is_elsewhere : (a : Ipv4Addr) → IsFree d (records key.Link d) a → list_any (is_same a) (own_addresses c.router) ≡ false
  is_elsewhere a free =
      let links = c.router.links in
      let apart : AllByRecursion (λ row. is_same a row.1.address ≡ false) links =
      subst (AllByRecursion (λ row. is_same a row.1.address ≡ false)) (sym says.links.2)
      (all_in_order nat_cmp nat_cmp_total exact_unsigned (λ row. is_same a row.1.address ≡ false) says.links.0 (rows_are_free a (records key.Link d) says.links.0 says.links.1 free.1)) in
      none_same a (own_addresses c.router)
      (not_same a c.router.id (λ e. free.0 (subst (HasAddress key.Router d) (sym e) says.id)), all-map (λ b. is_same a b ≡ false) (λ l. l.1.address) links apart)

  tunnel_opens : (before : List Data) (tunnel : Data) (row : ℕ × Tunnel) → AllByRecursion Holds (tunnel_rules d before tunnel) → SaysTunnel tunnel row → IsTunnel c.router row
  tunnel_opens before tunnel row held this =
      new_fits c.router row this.first
      (address_of_four key.Endpoint tunnel row.1.endpoint this.endpoint)
      (is_elsewhere row.1.endpoint (ends_elsewhere d before tunnel held row.1.endpoint this.endpoint))
      (route_fits c.router key.Route tunnel row.1.current.route router_opens.id this.route)
      (tspec_fits key.Rate tunnel row.1.current.tspec this.tspec)

  tunnels_open : AreTunnels c.router c.tunnels
  tunnels_open =
      let rows = says.tunnels.0 in
      let each = says.tunnels.1 in
      let is = says.tunnels.2 in
      let count = few_rows SaysTunnel (tunnel_rules d) 256 (few_tunnels d) (records key.Tunnel d) rows (tunnels_kept d kept) each in
      record {
        in_order = subst (λ tunnels. T (is_sorted nat_cmp tunnels)) (sym is) (sorted_in_order nat_cmp nat_cmp_total exact_unsigned rows);
        few = rw is (omega (arith, length_in_order nat_cmp nat_cmp_total exact_unsigned rows, count));
        each = subst (AllByRecursion (IsTunnel c.router)) (sym is)
            (all_in_order nat_cmp nat_cmp_total exact_unsigned (IsTunnel c.router) rows (all_rows SaysTunnel (tunnel_rules d) (IsTunnel c.router) tunnel_opens [] (records key.Tunnel d) rows (tunnels_kept d kept) each));
      }

  -- no tunnel is being changed
  tunnels_rest : AreUnchanging c.tunnels
  tunnels_rest =
      let rows = says.tunnels.0 in
      subst AreUnchanging (sym says.tunnels.2)
      (all_in_order nat_cmp nat_cmp_total exact_unsigned (λ (row : ℕ × Tunnel). row.1.pending ≡ None) rows
      (all_rows SaysTunnel (tunnel_rules d) (λ row. row.1.pending ≡ None) (λ before tunnel row held this. ap (λ (t : Tunnel). t.pending) this.first) [] (records key.Tunnel d) rows (tunnels_kept d kept) says.tunnels.1))

  -- a tunnel carries the capacities for which its record has room
  all_carry : (n capacity : ℕ) → HaveRoom n capacity (records key.Tunnel d) → option_map_or (carries capacity) (find nat_cmp n c.tunnels) true ≡ true
  all_carry n capacity room =
      let all : CarryAll n capacity c.tunnels =
      subst (CarryAll n capacity) (sym says.tunnels.2)
      (all_in_order nat_cmp nat_cmp_total exact_unsigned (λ (row : ℕ × Tunnel). row.0 ≡ n → carries capacity row.1 ≡ true) says.tunnels.0 (room_in_all n capacity (records key.Tunnel d) says.tunnels.0 says.tunnels.1 room)) in
      found_carries n capacity (find nat_cmp n c.tunnels) (find-all_row nat_cmp exact_unsigned (λ (row : ℕ × Tunnel). row.0 ≡ n → carries capacity row.1 ≡ true) n c.tunnels all)

  bypass_opens : (before : List Data) (bypass : Data) (row : ℕ × Bypass) → AllByRecursion Holds (bypass_rules d before bypass) → SaysBypass bypass row → IsBypass c.router c.tunnels row
  bypass_opens before bypass row held this = record {
    protects = link_there row.1.link (for_a_link d before bypass held row.1.link this.link);
    runs = number_found 0 row.1.tunnel (records key.Tunnel d) says.tunnels.0 c.tunnels says.tunnels.2 (tunnels_numbered _ _ says.tunnels.1) (in_a_tunnel d before bypass held row.1.tunnel this.tunnel);
    carried = all_carry row.1.tunnel row.1.capacity (in_room d before bypass held row.1.tunnel row.1.capacity this.tunnel this.capacity);
  }

  bypasses_open : AreBypasses c.router c.tunnels c.bypasses
  bypasses_open =
      let rows = says.bypasses.0 in
      let each = says.bypasses.1 in
      let is = says.bypasses.2 in
      let count = few_rows SaysBypass (bypass_rules d) 64 (few_bypasses d) (records key.Bypass d) rows (bypasses_kept d kept) each in
      record {
        in_order = subst (λ bypasses. T (is_sorted nat_cmp bypasses)) (sym is) (sorted_in_order nat_cmp nat_cmp_total exact_unsigned rows);
        few = rw is (omega (arith, length_in_order nat_cmp nat_cmp_total exact_unsigned rows, count));
        each = subst (AllByRecursion (IsBypass c.router c.tunnels)) (sym is)
            (all_in_order nat_cmp nat_cmp_total exact_unsigned (IsBypass c.router c.tunnels) rows (all_rows SaysBypass (bypass_rules d) (IsBypass c.router c.tunnels) bypass_opens [] (records key.Bypass d) rows (bypasses_kept d kept) each));
      }

  pub opens : IsConfig c
  opens = record { router = router_opens; routes = routes_open; tunnels = tunnels_open; unchanging = tunnels_rest; bypasses = bypasses_open }

-- A document whose parts were judged one after the other: its rules are kept, it says the configuration of these parts, and a router can be opened with that.
pub parts_open : (d : Data) (c : Setup) (links : List (ℕ × Link)) (routes : List (Prefix × ℕ)) (tunnels : List (ℕ × Tunnel)) (bypasses : List (ℕ × Bypass))
    → AllByRecursion Holds (router_rules d) × (HasAddress key.Router d c.router.id × HasOr key.RefreshMs d (c.router.refresh_ms ≡ 30000) (λ v. SaysWhole 1 4294967295 v c.router.refresh_ms) × Has key.Labels d (λ v. SaysLabels v c.router.labels)
    × HasOr key.LabelRestMs d (c.router.label_rest_ms ≡ 0) (λ v. SaysWhole 0 4294967295 v c.router.label_rest_ms))
    → AllByRecursion Holds (table_rules key.Link (link_rules d) d) × SaysEach SaysLink (records key.Link d) links
    → AllByRecursion Holds (table_rules key.Route (route_rules (records key.Link d)) d) × SaysEach SaysRoute (records key.Route d) routes
    → AllByRecursion Holds (table_rules key.Tunnel (tunnel_rules d) d) × SaysEach SaysTunnel (records key.Tunnel d) tunnels
    → AllByRecursion Holds (table_rules key.Bypass (bypass_rules d) d) × SaysEach SaysBypass (records key.Bypass d) bypasses
    → AllByRecursion Holds (all_known_rules d)
    → c.router.links ≡ in_order nat_cmp links → c.routes ≡ in_order prefix_cmp routes → c.tunnels ≡ in_order nat_cmp tunnels → c.bypasses ≡ in_order nat_cmp bypasses
    → (AllByRecursion Holds (rules_of d) × Says d c) × IsConfig c
unfolding rules_of
parts_open d c links routes tunnels bypasses top each_link each_route each_tunnel each_bypass known link_order route_order tunnel_order bypass_order =
    let kept : AllByRecursion Holds (rules_of d) =
    turn_kept _ _ top.0 (turn_kept _ _ each_link.0 (turn_kept _ _ each_route.0 (turn_kept _ _ each_tunnel.0 (turn_kept _ _ each_bypass.0 (turn_kept _ _ known turn_end))))) in
    let says : Says d c = record {
      id = top.1.0;
      refresh_ms = top.1.1;
      labels = top.1.2;
      label_rest = top.1.3;
      links = (links, each_link.1, link_order);
      routes = (routes, each_route.1, route_order);
      tunnels = (tunnels, each_tunnel.1, tunnel_order);
      bypasses = (bypasses, each_bypass.1, bypass_order);
    } in
    ((kept, says), opens d c kept says)
