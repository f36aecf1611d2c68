-- The Resvs that a step sends are those that are wanted after it; each is made of what is known of its LSP.
use Rattle.std.specs.Prelude.{◌≡◌, ◌⊎◌, ◌++◌, ◌&&◌, ℕ, Bool, true, false, cond, if◌then◌else◌, All, Contains, List, [], ◌∷◌, filter_map, map, Option, Some, None, IfSome, is_none, option_map, unwrap_or}
use Rattle.std.specs.FinMap.Entries.{find}
use Rattle.std.specs.List.{AllByRecursion, flat_map}
use Rattle.std.specs.Option.{option_and_then, option_map_or, option_or}
use Rattle.std.specs.Ordering.{eq_by_cmp, nat_cmp}
use Rattle.std.specs.declared.net.ipv4_addr.Ipv4Addr.{Ipv4Addr}
use Rattle.std.proofs.Common.{refl, sym, ap, subst, ◌∙◌, inl, inr}
use Rattle.std.proofs.lemmas.Bool.{cond_both}
use Rattle.std.proofs.lemmas.List.Elements.{All-from_recursion}
use Rattle.std.proofs.lemmas.Option.{same_Some}
use Rattle.rsvp_bodies.specs.declared.trace.Trace.{Trace}
use Rattle.rsvp_contents.specs.declared.messages.Content.{Content}
use Rattle.rsvp_contents.specs.declared.messages.Content.TheVariants as contents
use Rattle.rsvp_contents.specs.Limits.{is_short_record}
use Rattle.sorted_rows.specs.ListLaws.{all-append, all-map, all-weaker}
use Rattle.sorted_rows.specs.RowsLaws.{all_found}
use Rattle.label_space.specs.LineLaws.{Contains-first, Contains-later}
use Rattle.lsr_facts.specs.OrderLaws.{key_total}
use Rattle.lsr_facts.specs.Orders.{key_cmp}
use Rattle.lsr_facts.specs.Routers.{IsRouter, link_at, own_addresses}
use Rattle.lsr_facts.specs.declared.key.Item.{Item}
use Rattle.lsr_facts.specs.declared.key.Key.{Key}
use Rattle.lsr_facts.specs.declared.path_fact.Origin.{Origin}
use Rattle.lsr_facts.specs.declared.path_fact.PathFact.{PathFact}
use Rattle.lsr_facts.specs.declared.path_fact.Via.{Via}
use Rattle.lsr_facts.specs.declared.path_fact.Via.TheVariants as vias
use Rattle.lsr_facts.specs.declared.repair.Repair.{Repair}
use Rattle.lsr_facts.specs.declared.resv_fact.ResvFact.{ResvFact}
use Rattle.lsr_facts.specs.declared.router.Link.{Link}
use Rattle.lsr_facts.specs.declared.router.Router.{Router}
use Rattle.lsr_facts.specs.declared.upstream.Upstream.{Upstream}
use Rattle.abstract_paths.specs.Outcomes.{routed_by, sent_by}
use Rattle.abstract_paths.specs.Paths.{goes_on}
use Rattle.abstract_paths.specs.Places.{is_up, place_of}
use Rattle.abstract_paths.specs.RowLaws.{option_map-holds}
use Rattle.abstract_paths.specs.Routing.{route_to}
use Rattle.abstract_paths.specs.declared.events.Made.{Made}
use Rattle.abstract_paths.specs.declared.events.Output.{Output}
use Rattle.abstract_router.specs.Arrivals.{outcome}
use Rattle.abstract_router.specs.Lsps.{Around, Lsp, around_of, held_of, lsp_of, lsps_of}
use Rattle.abstract_router.specs.Outcomes.{Outcome}
use Rattle.abstract_router.specs.Outputs.{outputs_of}
use Rattle.abstract_router.specs.Repairing.{told_repaired}
use Rattle.abstract_router.specs.Soundness.{IsSound}
use Rattle.abstract_router.specs.States.{State}
use Rattle.abstract_router.specs.Steps.{Step, promised}
use Rattle.abstract_router.specs.Through.{backup_of}
use Rattle.abstract_router.specs.UpstreamLaws.{all-filter_map}
use Rattle.abstract_router.specs.Upstreams.{Reserved, flagged_entry, label_entry, own_entries, own_flags, record_upstream, records_labels, reserved_by_end, reserved_by_next, reserved_for, resv_to, upstream_of, upstream_row, upstream_rows, upstream_to, upstream_via}
use Rattle.abstract_router.specs.Wanted.{backup_row, downstream_row, items_of}
use Rattle.router_soundness.proofs.Running.{sound_step}
use Rattle.router_laws.specs.Sending.{content_of, is_state, says}
use Rattle.router_laws.proofs.Outgoing.{outputs-hold}
use Rattle.router_laws.proofs.OverUp.{always, and_then-holds}
use Rattle.router_laws.proofs.Reports.{IsReport, event_reports, repaired-reports}
use Rattle.router_laws.proofs.Sent.{loud_sends}
use Rattle.label_laws.specs.Said.{SaysWhatIsHeld, held_after, is_resv, put_before, recorded_after}

-- ---- what is no Resv

-- what makes no state is no Resv
no_state_no_resv : (output : Output) → says is_state output ≡ false → says is_resv output ≡ false
no_state_no_resv output = by (content_of output.frame)
  where
    by : (o : Option Content) → option_map_or is_state o false ≡ false → option_map_or is_resv o false ≡ false
    by None is = refl
    by (Some (contents.Path p)) is = refl
    by (Some (contents.Resv v)) is = absurd (let f = is in cc)
    by (Some (contents.PathErr e)) is = refl
    by (Some (contents.ResvErr e)) is = refl
    by (Some (contents.PathTear t)) is = refl
    by (Some (contents.ResvTear t)) is = refl

abbrev IsNoResv : Item × Output → Type 0
IsNoResv row = says is_resv row.1 ≡ false

module _ (a : Around) where
  downstream-none : (lsp : Key × Lsp) → IfSome (downstream_row a lsp) IsNoResv
  downstream-none lsp =
      cond_both (goes_on lsp.1.path.role && is_none lsp.1.repair && is_up a.place.up lsp.1.path.out_link) _ None (λ o. IfSome o IsNoResv)
      (λ goes. option_map-holds IsNoResv _ (link_at a.place.router lsp.1.path.out_link) (always _ (λ link. refl) (link_at a.place.router lsp.1.path.out_link))) (λ stays. tt)

  backup-none : (lsp : Key × Lsp) → IfSome (backup_row a lsp) IsNoResv
  backup-none lsp =
      and_then-holds IsNoResv _
      (λ repair. option_map-holds IsNoResv _ (backup_of a lsp.0 lsp.1.path repair)
      (and_then-holds (λ (output : Output). says is_resv output ≡ false) _
      (λ bypass_tunnel. and_then-holds (λ (output : Output). says is_resv output ≡ false) _ (λ link. option_map-holds (λ (output : Output). says is_resv output ≡ false) _ bypass_tunnel.over (always _ (λ over. refl) bypass_tunnel.over)) (link_at a.place.router repair.resv.link)) _))
      lsp.1.repair

items-none : (r : Router) (s : State) → AllByRecursion IsNoResv (items_of r s)
unfolding items_of
items-none r s =
    all-append IsNoResv (filter_map (downstream_row (around_of r s)) (lsps_of s)) (filter_map (backup_row (around_of r s)) (lsps_of s)) (all-filter_map IsNoResv (downstream_row (around_of r s)) (downstream-none (around_of r s)) (lsps_of s))
    (all-filter_map IsNoResv (backup_row (around_of r s)) (backup-none (around_of r s)) (lsps_of s))

-- ---- what Resvs say

-- the address of a link is one of the router's own
link-own : (number : ℕ) (link : Link) (links : List (ℕ × Link)) → find nat_cmp number links ≡ Some link → Contains (map (λ l. l.1.address) links) link.address
link-own number link [] found = absurd (let e = found in cc)
link-own number link (l ∷ ls) found =
    elim (eq_by_cmp nat_cmp number l.0) as (λ b. cond b (Some l.1) (find nat_cmp number ls) ≡ Some link → Contains (l.1.address ∷ map (λ l. l.1.address) ls) link.address) [
      | true ↦ λ own. Contains-first l.1.address (map (λ l. l.1.address) ls) link.address (ap (λ (k : Link). k.address) (same_Some l.1 link own))
      | false ↦ λ later. Contains-later l.1.address (map (λ l. l.1.address) ls) link.address (link-own number link ls later)
    ] found

address-own : (r : Router) (number : ℕ) (link : Link) → link_at r number ≡ Some link → Contains (own_addresses r) link.address
unfolding link_at
address-own r number link found = Contains-later r.id (map (λ l. l.1.address) r.links) link.address (link-own number link r.links found)

module _ (r : Router) (s : State) (key : Key) (path : PathFact) (known : find key_cmp key s.facts.paths ≡ Some path) where
  abbrev a : Around
  a = around_of r s

  abbrev lsp : Key × Lsp
  lsp = (key, lsp_of s key path)

  abbrev Says : Upstream × Output → Type 0
  Says row = SaysWhatIsHeld r s row.1

  -- a record that is within the limits
  own-before : (flags label : ℕ) → own_entries r flags path label ≡ put_before r flags path label
  own-before flags label =
      elim (records_labels path.attr) as (λ b. cond {A = List Trace} b (flagged_entry r flags ∷ label_entry label ∷ []) (flagged_entry r flags ∷ []) ≡ flagged_entry r flags ∷ cond b (label_entry label ∷ []) []) [ true ↦ refl | false ↦ refl ]

  grown : (flags label : ℕ) (recorded : List Trace) → recorded ≡ recorded_after s key path → (came : Option (List Trace))
      → (option_and_then (λ came. if is_short_record (own_entries r flags path label ++ recorded) then Some (own_entries r flags path label ++ recorded) else None) came ≡ None)
      ⊎ (option_and_then (λ came. if is_short_record (own_entries r flags path label ++ recorded) then Some (own_entries r flags path label ++ recorded) else None) came ≡ Some (put_before r flags path label ++ recorded_after s key path))
  grown flags label recorded same None = inl refl
  grown flags label recorded same (Some came) =
      let entries = own_entries r flags path label ++ recorded in
      cond_both (is_short_record entries) (Some entries) None (λ (o : Option (List Trace)). (o ≡ None) ⊎ (o ≡ Some (put_before r flags path label ++ recorded_after s key path))) (λ short. inr (λ i. Some (own-before flags label i ++ same i))) (λ long. inl refl)

  resv-says : (label : ℕ) → find key_cmp key s.labels ≡ Some label → (said : Reserved) → said.recorded ≡ recorded_after s key path → (origin : Ipv4Addr × Origin) (address : Ipv4Addr) → Contains (own_addresses r) address
      → (output : Output) → content_of output.frame ≡ Some (contents.Resv (resv_to r key lsp.1.path origin address label said)) → SaysWhatIsHeld r s output
  unfolding record_upstream
  resv-says label held said same origin address own output says =
      let message = resv_to r key lsp.1.path origin address label said in
      record {
        key = key;
        path = path;
        label = label;
        message = message;
        descriptor = record {
          flowspec = said.flowspec;
          filter = record key.sender { sender = origin.0 };
          label = record { number = label };
          recorded = record_upstream r said.flags lsp.1.path label said.recorded;
        };
        known = known;
        held = held;
        says = says;
        hop = own;
        session = refl;
        only = refl;
        lsp = refl;
        gives = refl;
        flags = said.flags;
        recorded = grown said.flags label said.recorded same path.recorded;
      }

  module _ (label : ℕ) (held : find key_cmp key s.labels ≡ Some label) (said : Reserved) (same : said.recorded ≡ recorded_after s key path) (origin : Ipv4Addr × Origin) where
    by_link : (number : ℕ) (b : Bool) (l : Option Link) → link_at r number ≡ l → IfSome (cond b (option_map {U = Upstream × Output} (λ link. (upstream_to key origin, sent_by number (contents.Resv (resv_to r key lsp.1.path origin link.address label said)))) l) None) Says
    by_link number true None at = tt
    by_link number true (Some link) at = resv-says label held said same origin link.address (address-own r number link at) (sent_by number (contents.Resv (resv_to r key lsp.1.path origin link.address label said))) refl
    by_link number false l at = tt

    back : (l : Option ℕ) → IfSome (option_map {U = Upstream × Output} (λ link. (upstream_to key origin, routed_by link origin.1.hop.address (contents.Resv (resv_to r key lsp.1.path origin r.id label said)))) l) Says
    back None = tt
    back (Some link) =
        resv-says label held said same origin r.id (Contains-first r.id (map (λ l. l.1.address) r.links) r.id refl) (routed_by link origin.1.hop.address (contents.Resv (resv_to r key lsp.1.path origin r.id label said))) refl

    row-says : (via : Via) → IfSome (upstream_via a lsp label said origin via) Says
    row-says (vias.Link number) = by_link number (is_up s.facts.up number) (link_at r number) refl
    row-says vias.Stack = back (route_to (place_of r s.facts) origin.1.hop.address)

  -- what is said of the LSP has the record that came
  timeless-held : held_of lsp.1 ≡ option_map (λ (resv : ResvFact). record resv { expiry = 0 }) (held_after s key)
  timeless-held = by (find key_cmp key s.resvs) (find key_cmp key s.repairs)
    where
      by : (resv : Option ResvFact) (repair : Option Repair)
          → option_or (option_map (λ (resv : ResvFact). record resv { expiry = 0 }) resv) (option_map (λ (repair : Repair). repair.resv) (option_map (λ (repair : Repair). record repair { resv = record repair.resv { expiry = 0 } }) repair))
          ≡ option_map (λ (resv : ResvFact). record resv { expiry = 0 }) (option_or resv (option_map (λ (repair : Repair). repair.resv) repair))
      by (Some resv) repair = refl
      by None (Some repair) = refl
      by None None = refl

  said-records : IfSome (reserved_for a lsp) (λ said. said.recorded ≡ recorded_after s key path)
  said-records = by_role (goes_on path.role)
    where
      by_held : (o : Option ResvFact) → IfSome (option_map (reserved_by_next (own_flags a lsp)) (option_map (λ (resv : ResvFact). record resv { expiry = 0 }) o)) (λ said. said.recorded ≡ unwrap_or (option_and_then (λ (resv : ResvFact). resv.recorded) o) [])
      by_held None = tt
      by_held (Some resv) = refl

      by_role : (goes : Bool) → IfSome (cond goes (option_map (reserved_by_next (own_flags a lsp)) (held_of lsp.1)) (Some (reserved_by_end lsp.1.path))) (λ said. said.recorded ≡ cond goes (unwrap_or (option_and_then (λ (resv : ResvFact). resv.recorded) (held_after s key)) []) [])
      by_role true =
          subst (λ (o : Option ResvFact). IfSome (option_map (reserved_by_next (own_flags a lsp)) o) (λ said. said.recorded ≡ unwrap_or (option_and_then (λ (resv : ResvFact). resv.recorded) (held_after s key)) [])) (sym timeless-held) (by_held (held_after s key))
      by_role false = refl

  rows-say : AllByRecursion Says (upstream_rows a lsp)
  rows-say = by_label (find key_cmp key s.labels) refl
    where
      by_said : (label : ℕ) → find key_cmp key s.labels ≡ Some label → (o : Option Reserved) → IfSome o (λ said. said.recorded ≡ recorded_after s key path) → AllByRecursion Says (option_map_or (λ said. filter_map (upstream_row a lsp label said) lsp.1.path.origins) o [])
      by_said label held None same = tt
      by_said label held (Some said) same = all-filter_map Says (upstream_row a lsp label said) (λ origin. row-says label held said same origin origin.1.via) lsp.1.path.origins

      by_label : (o : Option ℕ) → find key_cmp key s.labels ≡ o → AllByRecursion Says (option_map_or (λ label. option_map_or (λ said. filter_map (upstream_row a lsp label said) lsp.1.path.origins) (reserved_for a lsp) []) o [])
      by_label None held = tt
      by_label (Some label) held = by_said label held (reserved_for a lsp) said-records

-- what holds of all that f gives of each of these holds of all that it gives
all-flat_map_within : {A B : Type 0} (P : B → Type 0) (f : A → List B) (xs : List A) → AllByRecursion (λ x. AllByRecursion P (f x)) xs → AllByRecursion P (flat_map f xs)
all-flat_map_within P f [] each = tt
all-flat_map_within P f (x ∷ xs) each = all-append P (f x) (flat_map f xs) each.0 (all-flat_map_within P f xs each.1)

wanted-say : (r : Router) (s : State) → IsSound r s → AllByRecursion (λ row. SaysWhatIsHeld r s row.1) (upstream_of r s)
unfolding upstream_of lsps_of
wanted-say r s is =
    all-flat_map_within (λ row. SaysWhatIsHeld r s row.1) (upstream_rows (around_of r s)) (map (λ (row : Key × PathFact). (row.0, lsp_of s row.0 row.1)) s.facts.paths)
    (all-map (λ (lsp : Key × Lsp). AllByRecursion (λ row. SaysWhatIsHeld r s row.1) (upstream_rows (around_of r s) lsp)) (λ (row : Key × PathFact). (row.0, lsp_of s row.0 row.1)) s.facts.paths
    (all-weaker (λ (row : Key × PathFact). find key_cmp row.0 s.facts.paths ≡ Some row.1) (λ (row : Key × PathFact). AllByRecursion (λ row. SaysWhatIsHeld r s row.1) (upstream_rows (around_of r s) (row.0, lsp_of s row.0 row.1)))
    (λ row found. rows-say r s row.0 row.1 found) s.facts.paths (all_found key_cmp key_total s.facts.paths is.paths.paths.in_order)))

-- ---- a step

module _ (r : Router) (before after : State) (made : Made) (router : IsRouter r) (is : IsSound r before) (x : Step r before made after) where
  abbrev SaysIt : Output → Type 0
  SaysIt output = says is_resv output ≡ true → SaysWhatIsHeld r after output

  -- what is no Resv says nothing
  quiet : (output : Output) → says is_resv output ≡ false → SaysIt output
  quiet output none some = absurd (let e = sym some ∙ none in cc)

  abbrev o : Outcome
  o = outcome r before made.event

  loud_says : o.is_silent ≡ false → AllByRecursion SaysIt made.outputs
  loud_says loud =
      let told = o.errors ++ told_repaired r (promised r o.after) in
      subst (AllByRecursion SaysIt) (sym (loud_sends r before after made x loud))
      (outputs-hold SaysIt r before told o.due o.upstream_due after
      (all-weaker IsReport SaysIt (λ output report. quiet output (no_state_no_resv output report.0)) told
      (all-append IsReport o.errors (told_repaired r (promised r o.after)) (event_reports r before made.event) (repaired-reports r (promised r o.after))))
      (λ output tear. quiet output (no_state_no_resv output tear.0)) (all-weaker IsNoResv (λ row. SaysIt row.1) (λ row none. quiet row.1 none) (items_of r after) (items-none r after))
      (all-weaker (λ row. SaysWhatIsHeld r after row.1) (λ row. SaysIt row.1) (λ row says some. says) (upstream_of r after) (wanted-say r after (sound_step r before made after router is x))))

  silent_says : o.is_silent ≡ true → AllByRecursion SaysIt made.outputs
  silent_says silent = subst (AllByRecursion SaysIt) (sym (x.sent ∙ ap (λ b. if b then [] else outputs_of r before (o.errors ++ told_repaired r (promised r o.after)) o.due o.upstream_due after) silent)) tt

  all_say : AllByRecursion SaysIt made.outputs
  all_say = elim o.is_silent as (λ b. o.is_silent ≡ b → AllByRecursion SaysIt made.outputs) [ true ↦ silent_says | false ↦ loud_says ] refl

-- Each Resv that a step sends says what is held.
pub says_what_is_held : (r : Router) (before after : State) (made : Made) → IsRouter r → IsSound r before → Step r before made after → All (λ output. says is_resv output ≡ true → SaysWhatIsHeld r after output) made.outputs
says_what_is_held r before after made router is x = All-from_recursion (λ output. says is_resv output ≡ true → SaysWhatIsHeld r after output) made.outputs (all_say r before after made router is x)
