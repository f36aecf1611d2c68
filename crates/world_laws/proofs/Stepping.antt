-- A step of one router keeps a closed world true.
use Rattle.std.specs.Prelude.{◌≡◌, ◌⊎◌, ◌-◌, ℕ, suc, zero, if◌then◌else◌, Bool, true, false, Contains, List, [], ◌∷◌, ◌++◌, map, slice_get, Option, Some, None, IfSome, option_map, unwrap_or}
use Rattle.std.specs.FinMap.Entries.{find}
use Rattle.std.specs.List.{AllByRecursion}
use Rattle.std.specs.Option.{option_and_then, option_map_or, option_or}
use Rattle.std.specs.Ordering.{is_eq, nat_cmp}
use Rattle.std.specs.declared.net.ipv4_addr.Ipv4Addr.{Ipv4Addr}
use Rattle.std.proofs.Common.{refl, sym, ap, subst, ◌∙◌, inl, inr, ⊎_elim}
use Rattle.std.proofs.lemmas.Bool.{and_parts, cases_eq, cond_both}
use Rattle.std.proofs.lemmas.List.Elements.{All-contains, All-contains_itself, All-from_recursion, Contains-append_left, Contains-append_right, recursion_from_All}
use Rattle.std.proofs.lemmas.Option.{cond_some, same_Some}
use Rattle.rsvp_bodies.specs.declared.trace.Trace.{Trace}
use Rattle.rsvp_bodies.specs.declared.trace.Trace.TheVariants as traces
use Rattle.rsvp_contents.specs.Spelling.{SpellsReading}
use Rattle.rsvp_contents.specs.declared.descriptors.FlowDescriptor.{FlowDescriptor}
use Rattle.rsvp_contents.specs.declared.message.Reading.{Reading}
use Rattle.rsvp_contents.specs.declared.message.Reading.TheVariants as readings
use Rattle.rsvp_contents.specs.declared.messages.Content.{Content}
use Rattle.rsvp_contents.specs.declared.messages.Content.TheVariants as contents
use Rattle.rsvp_contents.specs.declared.messages.Resv.{Resv}
use Rattle.link_frames.specs.declared.frame.Frame.{Frame}
use Rattle.link_frames.specs.declared.frame.Frame.TheVariants as frames
use Rattle.link_frames.specs.declared.payload.Payload.TheVariants as payloads
use Rattle.sorted_rows.specs.ListLaws.{all-append, all-both, all-from_map, all-map, all-weaker}
use Rattle.sorted_rows.specs.RowsLaws.{find-all_row, ties}
use Rattle.label_space.specs.LineLaws.{Contains-first}
use Rattle.lsr_facts.specs.OrderLaws.{key_exact}
use Rattle.lsr_facts.specs.Orders.{key_cmp}
use Rattle.lsr_facts.specs.Routers.{is_same, link_at, own_addresses}
use Rattle.lsr_facts.specs.declared.key.Key.{Key}
use Rattle.lsr_facts.specs.declared.path_fact.PathFact.{PathFact}
use Rattle.lsr_facts.specs.declared.repair.BypassTunnel.{BypassTunnel}
use Rattle.lsr_facts.specs.declared.repair.Repair.{Repair}
use Rattle.lsr_facts.specs.declared.resv_fact.ResvFact.{ResvFact}
use Rattle.lsr_facts.specs.declared.router.Link.{Link}
use Rattle.lsr_facts.specs.declared.router.Router.{Router}
use Rattle.abstract_paths.specs.Merging.{under}
use Rattle.abstract_paths.specs.Paths.{goes_on}
use Rattle.abstract_paths.specs.declared.events.Event.TheVariants as events
use Rattle.abstract_paths.specs.declared.events.Made.{Made}
use Rattle.abstract_paths.specs.declared.events.Output.{Output}
use Rattle.abstract_paths.specs.declared.ways.ArrivalWay.{ArrivalWay}
use Rattle.abstract_paths.specs.declared.ways.ArrivalWay.TheVariants as ways
use Rattle.abstract_paths.specs.declared.ways.Arrive.{Arrive}
use Rattle.abstract_router.specs.BypassTunnels.{bypass_tunnels_of}
use Rattle.abstract_router.specs.Protecting.{ends_at_peer, first_label, label_after}
use Rattle.abstract_router.specs.Reserving.{key_in}
use Rattle.abstract_router.specs.Returning.{ends_at, is_known_as}
use Rattle.abstract_router.specs.States.{RouterState, State}
use Rattle.abstract_router.specs.Steps.{Step}
use Rattle.abstract_router.specs.Upstreams.{records_labels}
use Rattle.router_soundness.proofs.Running.{sound_step}
use Rattle.router_laws.proofs.Settled.{step-settled}
use Rattle.router_laws.specs.Sending.{content_of, says}
use Rattle.label_laws.specs.Held.{IsAskedFor, IsMadeOf, IsRenewed}
use Rattle.label_laws.specs.Said.{IsPassedOn, SaysWhatIsHeld, is_resv, put_before, recorded_after}
use Rattle.label_laws.proofs.Given.{held_or_chosen}
use Rattle.label_laws.proofs.KeptEnds.{keeps_end}
use Rattle.label_laws.proofs.Passing.{all_passed}
use Rattle.label_laws.proofs.Repaired.{made_or_renewed}
use Rattle.label_laws.proofs.Reserved.{asked_for}
use Rattle.label_laws.proofs.Saying.{says_what_is_held}
use Rattle.abstract_world.specs.Wires.{router_at}
use Rattle.abstract_world.specs.Worlds.{IsStep, WorldState, at, given_by, routers_in, sent_by, stepped}
use Rattle.abstract_world.specs.declared.joint.End.{End}
use Rattle.abstract_world.specs.declared.sent.Given.{Given}
use Rattle.world_laws.specs.Closed.{IsClosed}
use Rattle.world_laws.specs.Coming.{IsTrueArrival, IsTrueEvent, IsTrueReading}
use Rattle.world_laws.specs.Given.{AreGiven, BeginsWell, Gave, IsGivenBy, IsGivenOver, IsNextGiven, IsTrueRecord, LspName, name_of}
use Rattle.world_laws.specs.Truths.{IsFrom, IsTrueDescriptor, IsTrueFrame, IsTrueMessage, IsTrueRepair, IsTrueResv, IsTrueRouter, IsTrueUnread, IsTrueWorld, IsTruthful}
use Rattle.world_laws.proofs.Later.{IsLater, by_later, gave_later, frames_later, message_later, over_later, record_later, router_later}
use Rattle.world_laws.proofs.Places.{got_other, got_set, map_set}
use Rattle.world_laws.proofs.Wired.{IsPeerOf, one_owner, peer_over, same_address}

-- ---- LSPs, records and addresses

-- the router of a place, among those that never change
pub router_there : (w : WorldState) (place : ℕ) (r : Router) (s : State) → at w place ≡ Some (record { router = r; state = s }) → router_at (routers_in w.routers) place ≡ Some r
router_there w place r s knows = by w.routers place knows
  where
    by : (routers : List RouterState) (i : ℕ) → slice_get routers i ≡ Some (record { router = r; state = s }) → slice_get (map (λ (q : RouterState). q.router) routers) i ≡ Some r
    by [] i is = absurd (let e = is in cc)
    by (q ∷ routers) zero is = ap (λ (t : RouterState). Some t.router) (same_Some q (record { router = r; state = s }) is)
    by (q ∷ routers) (suc i) is = by routers i is

-- the label of a router's record that is taken for its LSP was given by it
label_taken : (w : WorldState) (lsp : LspName) (id : Ipv4Addr) (entries : List Trace) (label : ℕ) → IsNextGiven w lsp id entries → first_label entries ≡ Some label → IsGivenBy w id lsp label
label_taken w lsp id [] label given is = absurd (let e = is in cc)
label_taken w lsp id (traces.Ipv4 prefix flags ∷ entries) label given is = absurd (let e = is in cc)
label_taken w lsp id (traces.Other bytes ∷ entries) label given is = absurd (let e = is in cc)
label_taken w lsp id (traces.Label flags number ∷ entries) label given is =
    subst (IsGivenBy w id lsp) (cond_some _ number label is).1 given

-- so is the one that a record has after the router's address
after_given : (w : WorldState) (lsp : LspName) (id : Ipv4Addr) (entries : List Trace) (label : ℕ) → AreGiven w lsp entries → label_after id entries ≡ Some label → IsGivenBy w id lsp label
unfolding label_after
after_given w lsp id [] label given is = absurd (let e = is in cc)
after_given w lsp id (traces.Label flags number ∷ entries) label given is = after_given w lsp id entries label given is
after_given w lsp id (traces.Other bytes ∷ entries) label given is = after_given w lsp id entries label given is
after_given w lsp id (traces.Ipv4 prefix flags ∷ entries) label given is =
    by_name (is_same prefix.address id) refl (after_given w lsp id entries label given.1) is
  where
    by_label : prefix.address ≡ id → (o : Option ℕ) → first_label entries ≡ o → (label_after id entries ≡ Some label → IsGivenBy w id lsp label) → option_or o (label_after id entries) ≡ Some label → IsGivenBy w id lsp label
    by_label same None first more is = more is
    by_label same (Some number) first more is =
        subst (λ (a : Ipv4Addr). IsGivenBy w a lsp label) same (label_taken w lsp prefix.address entries label given.0 (first ∙ is))

    by_name : (b : Bool) → is_same prefix.address id ≡ b → (label_after id entries ≡ Some label → IsGivenBy w id lsp label) → option_or (if b then first_label entries else None) (label_after id entries) ≡ Some label → IsGivenBy w id lsp label
    by_name true same more is = by_label (same_address prefix.address id same) (first_label entries) refl more is
    by_name false same more is = more is

-- a record that is told on is true: this router's entries come before what came
told_on : (w : WorldState) (place : ℕ) (r : Router) (lsp : LspName) (flags : ℕ) (path : PathFact) (label : ℕ) (came : List Trace) → router_at (routers_in w.routers) place ≡ Some r → Gave w place lsp label → IsTrueRecord w lsp came
    → IsTrueRecord w lsp (put_before r flags path label ++ came)
told_on w place r lsp flags path label came there gave is = by (records_labels path.attr)
  where
    by : (labels : Bool) → IsTrueRecord w lsp ((traces.Ipv4 (record { address = r.id; length = 32 }) flags ∷ (if labels then traces.Label 0x01 label ∷ [] else [])) ++ came)
    by true = (tt, (record { place = place; router = r; there = there; named = refl; gave = gave }, is.1))
    by false = (tt, (next_free came is.0, is.1))
      where
        next_free : (entries : List Trace) → BeginsWell entries → IsNextGiven w lsp r.id entries
        next_free [] well = tt
        next_free (traces.Ipv4 prefix more ∷ entries) well = tt
        next_free (traces.Other bytes ∷ entries) well = tt
        next_free (traces.Label more number ∷ entries) well = absurd well

-- those who know the LSP as another sender's know the same LSP
same_name : (r : Router) (key : Key) (old : Repair) (other : Key) → is_known_as r other (key, old) ≡ true → name_of other ≡ name_of key
same_name r key old other known = by (link_at r old.resv.link) known
  where
    by : (o : Option Link) → option_map_or (λ (link : Link). is_eq (key_cmp (under link.address key) other)) o false ≡ true → name_of other ≡ name_of key
    by None is = absurd (let e = is in cc)
    by (Some link) is = ap name_of (sym (key_exact (under link.address key) other (ties (key_cmp (under link.address key) other) is)))

-- what a bypass ends at
end_of_bypass : (r : Router) (s : State) (hop : Ipv4Addr) (key : Key) (old : Repair) (bypass_tunnel : BypassTunnel) → find nat_cmp old.bypass (bypass_tunnels_of r s) ≡ Some bypass_tunnel → ends_at r s hop (key, old) ≡ true → bypass_tunnel.ends_at ≡ hop
end_of_bypass r s hop key old bypass_tunnel known is =
    same_address bypass_tunnel.ends_at hop (sym (ap (λ (o : Option BypassTunnel). option_map_or (λ (b : BypassTunnel). is_same b.ends_at hop) o false) known) ∙ is)

-- a bypass that ends at the next router ends at the one that the link names
next_hop : (r : Router) (resv : ResvFact) (bypass_tunnel : BypassTunnel) (id : Ipv4Addr) → ((link : Link) → link_at r resv.link ≡ Some link → link.peer_router ≡ id) → ends_at_peer r resv bypass_tunnel ≡ true → id ≡ bypass_tunnel.ends_at
next_hop r resv bypass_tunnel id named is = by (link_at r resv.link) refl is
  where
    by : (o : Option Link) → link_at r resv.link ≡ o → option_map_or (λ (link : Link). is_same link.peer_router bypass_tunnel.ends_at) o false ≡ true → id ≡ bypass_tunnel.ends_at
    by None has is = absurd (let e = is in cc)
    by (Some link) has is = sym (named link has) ∙ same_address link.peer_router bypass_tunnel.ends_at is

-- ---- a step

-- what a step leaves is the same world, later
pub stepped_later : (w : WorldState) (place : ℕ) (made : Made) (r : Router) (before s : State) → at w place ≡ Some (record { router = r; state = before }) → IsLater w (stepped place (record { router = r; state = s }) made w)
stepped_later w place made r before s knows = record {
  routers = map_set (λ (q : RouterState). q.router) w.routers place (record { router = r; state = before }) (record { router = r; state = s }) knows refl;
  joints = refl;
  given = λ row among. Contains-append_left w.given (map (given_by place) made.labels) row among;
}

module _ (w : WorldState) (place : ℕ) (made : Made) (r : Router) (before s : State) (closed : IsClosed w) (so : IsTrueWorld w) (knows : at w place ≡ Some (record { router = r; state = before })) (step : Step r before made s) (came : IsTrueEvent w place made.event) where
  -- the world as it is grown
  abbrev grown : WorldState
  grown = stepped place (record { router = r; state = s }) made w

  abbrev its : IsTrueRouter w place r before
  its = so.routers place r before knows

  there : router_at (routers_in w.routers) place ≡ Some r
  there = router_there w place r before knows

  later : IsLater w grown
  later = stepped_later w place made r before s knows

  there_then : router_at (routers_in grown.routers) place ≡ Some r
  there_then = ap (λ (routers : List Router). router_at routers place) later.routers ∙ there

  -- labels: each that was chosen is given now
  labels_then : (key : Key) (label : ℕ) → find key_cmp key s.labels ≡ Some label → Gave grown place (name_of key) label
  labels_then key label found =
      ⊎_elim (λ (old : find key_cmp key before.labels ≡ Some label). gave_later w grown later place (name_of key) label (its.labels key label old))
      (λ (new : find key_cmp key made.labels ≡ Some label). subst (λ (o : Option ℕ). IfSome o (λ l. Gave grown place (name_of key) l)) new (find-all_row key_cmp key_exact Chosen key made.labels all_chosen)) (held_or_chosen r before s made key label its.router its.sound step found)
    where
      Chosen : Key × ℕ → Type 0
      Chosen row = Gave grown place (name_of row.0) row.1

      rows : List Given
      rows = map (given_by place) made.labels

      all_chosen : AllByRecursion Chosen made.labels
      all_chosen = all-from_map (Contains grown.given) (given_by place) made.labels (all-weaker (Contains rows) (Contains grown.given) (λ row among. Contains-append_right w.given rows row among) rows (recursion_from_All (Contains rows) rows (All-contains_itself rows)))

  -- what a Resv says that came
  said : (way : ArrivalWay) (v : Resv) (brings : (a : Arrive) × (made.event ≡ events.Arrive a) × (a.way ≡ way) × (a.reading ≡ readings.Whole (contents.Resv v))) → IsTrueArrival w (record { router = place; link = brings.0.link }) way (contents.Resv v)
  said way v brings =
      let a = brings.0 in
      let link : End = record { router = place; link = a.link } in
      subst (λ (x : Reading). IsTrueReading w link way x) brings.3 (subst (λ (y : ArrivalWay). IsTrueReading w link y a.reading) brings.2 (subst (IsTrueEvent w place) brings.1 came))

  among : (v : Resv) (d : FlowDescriptor) → IsTrueMessage w (contents.Resv v) → Contains v.descriptors d → IsTrueDescriptor w v d
  among v d is has = All-contains (IsTrueDescriptor w v) v.descriptors d (All-from_recursion (IsTrueDescriptor w v) v.descriptors is) has

  -- reservations: the router that sent the Resv gave the label, since no other router has its hop
  asked_then : (key : Key) (resv : ResvFact) → IsAskedFor before made.event key resv → IsTrueResv grown place key resv
  asked_then key resv asked =
      let v = asked.message in
      let d = asked.descriptor in
      let a = asked.brings.arrived in
      let arrived = said ways.Hop v (a, asked.brings.came, asked.brings.by_way, asked.brings.read) in
      let from = arrived.0 in
      let is = among v d arrived.1 asked.brings.among in
      let same : is.label.place ≡ from.0.router = one_owner (routers_in w.routers) is.label.place from.0.router is.label.router from.2.0 v.hop.address (and_parts _ _ closed.closed).1 is.label.there from.2.1 is.label.own from.2.2 in
      let lsp : name_of (key_in v d) ≡ name_of key = ap name_of (sym asked.named) in
      let over : IsGivenOver w (record { router = place; link = a.link }) (name_of (key_in v d)) d.label.number = record { other = from.0; leads = from.1; gave = subst (λ (i : ℕ). Gave w i (name_of (key_in v d)) d.label.number) same is.label.gave } in
      subst (IsTrueResv grown place key) (sym asked.asked) (record {
        label = over_later w grown later (record { router = place; link = a.link }) (name_of key) d.label.number (subst (λ (l : LspName). IsGivenOver w (record { router = place; link = a.link }) l d.label.number) lsp over);
        recorded = record_later w grown later (name_of key) (unwrap_or d.recorded []) (subst (λ (l : LspName). IsTrueRecord w l (unwrap_or d.recorded [])) lsp is.recorded);
      })

  resvs_then : (key : Key) (resv : ResvFact) → find key_cmp key s.resvs ≡ Some resv → IsTrueResv grown place key resv
  resvs_then key resv found =
      ⊎_elim (λ (old : find key_cmp key before.resvs ≡ Some resv). (router_later w grown later place r before its).resvs key resv old) (asked_then key resv)
      (asked_for r before s made key resv its.sound step found)

  -- repairs: the bypass of one that stood ends where it did
  stood_then : (key : Key) (repair : Repair) → find key_cmp key before.repairs ≡ Some repair → find key_cmp key s.repairs ≡ Some repair → IsTrueRepair grown r s key repair
  stood_then key repair was found =
      let kept = (keeps_end r before s made key repair repair its.router its.sound its.settled step was found).2 in
      let old = its.repairs key repair was in
      let ends : old.bypass_tunnel.ends_at ≡ kept.1.ends_at = ap (λ (b : BypassTunnel). b.ends_at) (same_Some old.bypass_tunnel kept.0 (sym old.known ∙ kept.2)) ∙ sym kept.4 in
      record {
        bypass_tunnel = kept.1;
        known = kept.3;
        label = by_later w grown later kept.1.ends_at (name_of key) repair.resv.label (subst (λ (a : Ipv4Addr). IsGivenBy w a (name_of key) repair.resv.label) ends old.label);
        recorded = record_later w grown later (name_of key) (unwrap_or repair.resv.recorded []) old.recorded;
      }

  -- one that is made has the label of the next router, or the one that the record says of a later one
  made_then : (key : Key) (repair : Repair) → IsMadeOf r before s key repair → IsTrueRepair grown r s key repair
  made_then key repair is = record {
    bypass_tunnel = is.bypass_tunnel;
    known = is.known;
    label = by_later w grown later ends (name_of key) repair.resv.label (⊎_elim next after is.label);
    recorded = record_later w grown later (name_of key) (unwrap_or repair.resv.recorded []) (subst (λ (f : ResvFact). IsTrueRecord w (name_of key) (unwrap_or f.recorded [])) (sym is.kept) old.recorded);
  }
    where
      resv : ResvFact
      resv = is.resv

      ends : Ipv4Addr
      ends = is.bypass_tunnel.ends_at

      old : IsTrueResv w place key resv
      old = its.resvs key resv is.reserved

      peer : IsPeerOf (routers_in w.routers) r resv.link old.label.other.router
      peer = peer_over (routers_in w.routers) w.joints (record { router = place; link = resv.link }) old.label.other r (and_parts _ _ closed.closed).0 old.label.leads there

      next : (ends_at_peer r resv is.bypass_tunnel ≡ true) × (repair.resv.label ≡ resv.label) → IsGivenBy w ends (name_of key) repair.resv.label
      next at = record {
        place = old.label.other.router;
        router = peer.peer;
        there = peer.there;
        named = next_hop r resv is.bypass_tunnel peer.peer.id peer.named at.0;
        gave = subst (Gave w old.label.other.router (name_of key)) (sym at.1) old.label.gave;
      }

      after : label_after ends (unwrap_or resv.recorded []) ≡ Some repair.resv.label → IsGivenBy w ends (name_of key) repair.resv.label
      after at = after_given w (name_of key) ends (unwrap_or resv.recorded []) repair.resv.label old.recorded.1 at

  -- one that is renewed has the label of its bypass's end, since no other router has that address
  renewed_then : (key : Key) (repair : Repair) → IsRenewed r before made.event key repair → find key_cmp key s.repairs ≡ Some repair → IsTrueRepair grown r s key repair
  renewed_then key repair renewed found =
      let v = renewed.message in
      let d = renewed.descriptor in
      let b = renewed.brings in
      let is = among v d (said ways.Routed v (b.arrived, b.came, b.by_way, b.read)) b.among in
      let old = its.repairs key renewed.old renewed.was in
      let hop : old.bypass_tunnel.ends_at ≡ v.hop.address = end_of_bypass r before v.hop.address key renewed.old old.bypass_tunnel old.known renewed.from_end in
      let owns : Contains (own_addresses old.label.router) v.hop.address = Contains-first old.label.router.id (map (λ l. l.1.address) old.label.router.links) v.hop.address (old.label.named ∙ hop) in
      let same : is.label.place ≡ old.label.place = one_owner (routers_in w.routers) is.label.place old.label.place is.label.router old.label.router v.hop.address (and_parts _ _ closed.closed).1 is.label.there old.label.there is.label.own owns in
      let kept = (keeps_end r before s made key renewed.old repair its.router its.sound its.settled step renewed.was found).2 in
      let ends : old.bypass_tunnel.ends_at ≡ kept.1.ends_at = ap (λ (b : BypassTunnel). b.ends_at) (same_Some old.bypass_tunnel kept.0 (sym old.known ∙ kept.2)) ∙ sym kept.4 in
      let lsp : name_of (key_in v d) ≡ name_of key = same_name r key renewed.old (key_in v d) renewed.known_as in
      let label : repair.resv.label ≡ d.label.number = ap (λ (u : Repair). u.resv.label) renewed.renewed in
      let gave : Gave w old.label.place (name_of key) d.label.number = subst (λ (l : LspName). Gave w old.label.place l d.label.number) lsp (subst (λ (i : ℕ). Gave w i (name_of (key_in v d)) d.label.number) same is.label.gave) in
      let by : IsGivenBy w kept.1.ends_at (name_of key) d.label.number = record { place = old.label.place; router = old.label.router; there = old.label.there; named = old.label.named ∙ ends; gave = gave } in
      let recorded : IsTrueRecord w (name_of key) (unwrap_or d.recorded []) = subst (λ (l : LspName). IsTrueRecord w l (unwrap_or d.recorded [])) lsp is.recorded in
      record {
        bypass_tunnel = kept.1;
        known = kept.3;
        label = by_later w grown later kept.1.ends_at (name_of key) repair.resv.label (subst (IsGivenBy w kept.1.ends_at (name_of key)) (sym label) by);
        recorded = record_later w grown later (name_of key) (unwrap_or repair.resv.recorded []) (subst (λ (u : Repair). IsTrueRecord w (name_of key) (unwrap_or u.resv.recorded [])) (sym renewed.renewed) recorded);
      }

  repairs_then : (key : Key) (repair : Repair) → find key_cmp key s.repairs ≡ Some repair → IsTrueRepair grown r s key repair
  repairs_then key repair found =
      ⊎_elim (λ (old : find key_cmp key before.repairs ≡ Some repair). stood_then key repair old found)
      (⊎_elim (made_then key repair) (λ (renewed : IsRenewed r before made.event key repair). renewed_then key repair renewed found)) (made_or_renewed r before s made key repair its.router its.sound step found)

  router_then : IsTrueRouter grown place r s
  router_then = record {
    router = its.router;
    sound = sound_step r before made s its.router its.sound step;
    settled = step-settled r before made s its.settled step;
    resvs = resvs_then;
    repairs = repairs_then;
    labels = labels_then;
  }

  -- ---- what is sent

  -- the record that came with what an LSP's label is held by
  came_recorded : (key : Key) (path : PathFact) → IsTrueRecord grown (name_of key) (recorded_after s key path)
  came_recorded key path = cond_both (goes_on path.role) _ _ (IsTrueRecord grown (name_of key)) (λ goes. by_resv (find key_cmp key s.resvs) refl) (λ ends. (tt, tt))
    where
      by_repair : (o : Option Repair) → find key_cmp key s.repairs ≡ o → IsTrueRecord grown (name_of key) (unwrap_or (option_and_then (λ (f : ResvFact). f.recorded) (option_map (λ (u : Repair). u.resv) o)) [])
      by_repair None found = (tt, tt)
      by_repair (Some repair) found = (repairs_then key repair found).recorded

      by_resv : (o : Option ResvFact) → find key_cmp key s.resvs ≡ o
          → IsTrueRecord grown (name_of key) (unwrap_or (option_and_then (λ (f : ResvFact). f.recorded) (option_or o (option_map (λ (u : Repair). u.resv) (find key_cmp key s.repairs)))) [])
      by_resv None found = by_repair (find key_cmp key s.repairs) refl
      by_resv (Some resv) found = (resvs_then key resv found).recorded

  -- a Resv that it says itself
  resv_sent : (output : Output) (v : Resv) → content_of output.frame ≡ Some (contents.Resv v) → SaysWhatIsHeld r s output → IsFrom grown place (contents.Resv v) × IsTrueMessage grown (contents.Resv v)
  resv_sent output v is says = subst (λ (x : Resv). IsFrom grown place (contents.Resv x) × IsTrueMessage grown (contents.Resv x)) same ((r, there_then, says.hop), subst (AllByRecursion (IsTrueDescriptor grown m)) (sym says.only) (true_of_it, tt))
    where
      m : Resv
      m = says.message

      d : FlowDescriptor
      d = says.descriptor

      same : m ≡ v
      same = let e = sym says.says ∙ is in cc

      lsp : name_of says.key ≡ name_of (key_in m d)
      lsp = λ i. record { session = sym says.session i; id = sym says.lsp i }

      gave : Gave grown place (name_of (key_in m d)) says.label
      gave = subst (λ (l : LspName). Gave grown place l says.label) lsp (labels_then says.key says.label says.held)

      record_sent : (o : Option (List Trace)) → (o ≡ None) ⊎ (o ≡ Some (put_before r says.flags says.path says.label ++ recorded_after s says.key says.path)) → IsTrueRecord grown (name_of (key_in m d)) (unwrap_or o [])
      record_sent o (inl none) = subst (λ (x : Option (List Trace)). IsTrueRecord grown (name_of (key_in m d)) (unwrap_or x [])) (sym none) (tt, tt)
      record_sent o (inr some) =
          subst (λ (x : Option (List Trace)). IsTrueRecord grown (name_of (key_in m d)) (unwrap_or x [])) (sym some)
          (told_on grown place r (name_of (key_in m d)) says.flags says.path says.label (recorded_after s says.key says.path) there_then gave
          (subst (λ (l : LspName). IsTrueRecord grown l (recorded_after s says.key says.path)) lsp (came_recorded says.key says.path)))

      true_of_it : IsTrueDescriptor grown m d
      true_of_it = record {
        label = record { place = place; router = r; there = there_then; own = says.hop; gave = subst (Gave grown place (name_of (key_in m d))) (sym says.gives) gave };
        recorded = record_sent d.recorded says.recorded;
      }

  -- what it sends of itself
  content_sent : (output : Output) (content : Content) → content_of output.frame ≡ Some content → (says is_resv output ≡ true → SaysWhatIsHeld r s output) → IsFrom grown place content × IsTrueMessage grown content
  content_sent output (contents.Path p) is held = (tt, tt)
  content_sent output (contents.Resv v) is held = resv_sent output v is (held (ap (λ (o : Option Content). option_map_or is_resv o false) is))
  content_sent output (contents.PathErr e) is held = (tt, tt)
  content_sent output (contents.ResvErr e) is held = (tt, tt)
  content_sent output (contents.PathTear t) is held = (tt, tt)
  content_sent output (contents.ResvTear t) is held = (tt, tt)

  -- what it passes on
  bytes_sent : (to : Ipv4Addr) (limit : ℕ) (message : List ℕ) (output : Output) → output.frame ≡ frames.Relayed to limit message → IsPassedOn made.event output → IsTrueUnread grown message
  bytes_sent to limit message output is passed =
      let on = passed.0 in
      let same : on.message ≡ message = same_bytes on.to to (on.limit - 1) limit on.message message (sym passed.2 ∙ is) in
      let whole : IsTrueUnread w on.message = subst (IsTrueEvent w place) passed.1 came in
      λ content spells. message_later w grown later content (whole content (subst (λ (bytes : List ℕ). SpellsReading bytes (readings.Whole content)) (sym same) spells))
    where
      same_bytes : (a b : Ipv4Addr) (k n : ℕ) (x y : List ℕ) → frames.Relayed a k x ≡ frames.Relayed b n y → x ≡ y
      same_bytes a b k n x y is = let e = is in cc

  frame_sent : (output : Output) (frame : Frame) → output.frame ≡ frame → (says is_resv output ≡ true → SaysWhatIsHeld r s output) → (content_of output.frame ≡ None → IsPassedOn made.event output) → IsTrueFrame grown place frame
  frame_sent output (frames.Hop content) is held passed = content_sent output content (ap content_of is) held
  frame_sent output (frames.Labelled stack (payloads.Message content)) is held passed = (content_sent output content (ap content_of is) held).1
  frame_sent output (frames.Labelled stack (payloads.Received payload)) is held passed = let on = passed (ap content_of is) in absurd (let e = sym is ∙ on.2 in cc)
  frame_sent output (frames.Routed to limit content) is held passed = (content_sent output content (ap content_of is) held).1
  frame_sent output (frames.Relayed to limit message) is held passed = bytes_sent to limit message output is (passed (ap content_of is))

  sent_then : AllByRecursion (IsTruthful grown) (map (sent_by place) made.outputs)
  sent_then =
      all-map (IsTruthful grown) (sent_by place) made.outputs
      (all-both Says Passes IsSent (λ output. frame_sent output output.frame refl) made.outputs
      (recursion_from_All Says made.outputs (says_what_is_held r before s made its.router its.sound step))
      (recursion_from_All Passes made.outputs (all_passed r before s made step)))
    where
      Says : Output → Type 0
      Says output = says is_resv output ≡ true → SaysWhatIsHeld r s output

      Passes : Output → Type 0
      Passes output = content_of output.frame ≡ None → IsPassedOn made.event output

      IsSent : Output → Type 0
      IsSent output = IsTrueFrame grown place output.frame

  -- ---- the world

  all_then : (i : ℕ) (q : Router) (t : State) → at grown i ≡ Some (record { router = q; state = t }) → IsTrueRouter grown i q t
  all_then i q t stands = ⊎_elim own other (cases_eq place i)
    where
      own : place ≡ i → IsTrueRouter grown i q t
      own same =
          let now : Some (record { router = r; state = s }) ≡ Some (record { router = q; state = t }) = sym (got_set w.routers place (record { router = r; state = before }) (record { router = r; state = s }) knows) ∙ ap (at grown) same ∙ stands in
          let pair = same_Some (record { router = r; state = s }) (record { router = q; state = t }) now in
          subst (λ (u : RouterState). IsTrueRouter grown i u.router u.state) pair (subst (λ (j : ℕ). IsTrueRouter grown j r s) same router_then)

      other : (place ≡ i → ⊥) → IsTrueRouter grown i q t
      other apart = router_later w grown later i q t (so.routers i q t (sym (got_other w.routers place i (record { router = r; state = s }) apart) ∙ stands))

  pub world_then : IsTrueWorld grown
  world_then = record { routers = all_then; frames = all-append (IsTruthful grown) w.frames (map (sent_by place) made.outputs) (frames_later w grown later w.frames so.frames) sent_then }

pub step_later : (w : WorldState) (place : ℕ) (made : Made) (after : WorldState) → IsStep w place made after → IsLater w after
step_later w place made after is = subst (IsLater w) (sym is.changed) (stepped_later w place made is.router is.before is.knows_then is.knows)

-- A step of a router keeps a closed world true, where what came to it was true.
pub kept_by_step : (w : WorldState) (place : ℕ) (made : Made) (after : WorldState) → IsClosed w → IsTrueWorld w → IsTrueEvent w place made.event → IsStep w place made after → IsTrueWorld after
kept_by_step w place made after closed so came is =
    subst IsTrueWorld (sym is.changed) (world_then w place made is.router is.before is.knows_then closed so is.knows is.step came)
