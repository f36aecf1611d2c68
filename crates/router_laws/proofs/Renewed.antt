-- What the end of a bypass renews and ends.
use Rattle.std.specs.Prelude.{◌≡◌, not, Bool, true, false, cond, List, [], ◌∷◌, filter, fold, Option, Some, None, IfSome, is_none, is_some}
use Rattle.std.specs.FinMap.Entries.{find, find-where_key, is_sorted-put, put}
use Rattle.std.specs.Option.{option_map_or}
use Rattle.std.proofs.Common.{refl, sym, ap, subst, ◌∙◌}
use Rattle.std.proofs.lemmas.Bool.{cond_both}
use Rattle.rsvp_contents.specs.declared.descriptors.FlowDescriptor.{FlowDescriptor}
use Rattle.rsvp_contents.specs.declared.message.Reading.{Reading}
use Rattle.rsvp_contents.specs.declared.message.Reading.TheVariants as readings
use Rattle.rsvp_contents.specs.declared.messages.Content.TheVariants as contents
use Rattle.rsvp_contents.specs.declared.messages.Resv.{Resv}
use Rattle.rsvp_contents.specs.declared.messages.ResvTear.{ResvTear}
use Rattle.sorted_rows.specs.ListLaws.{filter-all_pass}
use Rattle.sorted_rows.specs.RowsLaws.{find-put_same}
use Rattle.lsr_facts.specs.OrderLaws.{key_exact, key_total}
use Rattle.lsr_facts.specs.Orders.{is_one_of, key_cmp}
use Rattle.lsr_facts.specs.Reservations.{style_of}
use Rattle.lsr_facts.specs.Routers.{link_at}
use Rattle.lsr_facts.specs.declared.key.Key.{Key}
use Rattle.lsr_facts.specs.declared.refusal.Refusal.TheVariants.{LinkDown, NoMatch, UnknownLink}
use Rattle.lsr_facts.specs.declared.repair.Repair.{Repair}
use Rattle.lsr_facts.specs.declared.reply.Reply.TheVariants as replies
use Rattle.lsr_facts.specs.declared.resv_fact.ResvFact.{ResvFact}
use Rattle.lsr_facts.specs.declared.resv_fact.ResvStyle.{ResvStyle}
use Rattle.lsr_facts.specs.declared.router.Router.{Router}
use Rattle.abstract_paths.specs.declared.events.Event.TheVariants as events
use Rattle.abstract_paths.specs.declared.events.Made.{Made}
use Rattle.abstract_paths.specs.declared.ways.ArrivalWay.{ArrivalWay}
use Rattle.abstract_paths.specs.declared.ways.ArrivalWay.TheVariants as ways
use Rattle.abstract_paths.specs.declared.ways.Arrive.{Arrive}
use Rattle.abstract_paths.specs.Places.{is_up}
use Rattle.abstract_router.specs.Arrivals.{arrival, arrival_by}
use Rattle.abstract_router.specs.Assigning.{assigned_anew, fits_share}
use Rattle.abstract_router.specs.BypassTunnels.{bypass_tunnels_of}
use Rattle.abstract_router.specs.Outcomes.{Outcome, refused, replied}
use Rattle.abstract_router.specs.Repairing.{repair_stands, repaired, repairs_left}
use Rattle.abstract_router.specs.Reserving.{Failed, Granted, PassedOver, Progress, Verdict, key_in, resv_by, resv_replied, verdict_by_style}
use Rattle.abstract_router.specs.Returning.{all_returned, carried_back, next_returned, renewed, repair_from, returned_keys, returned_resv, returned_tear, torn_back}
use Rattle.abstract_router.specs.Soundness.{IsSound}
use Rattle.abstract_router.specs.States.{State, with_repair, with_repairs_where}
use Rattle.abstract_router.specs.Steps.{AreSettled, Step, left_standing, stands}
use Rattle.router_soundness.proofs.AssigningRepairs.{of_found, passes_filter}
use Rattle.router_laws.proofs.Led.{answered, led}
use Rattle.router_laws.proofs.NoneRepaired.{over-up, repaired-same}
use Rattle.router_laws.proofs.Renewals.{IsOf, repair_from-of}
use Rattle.router_laws.proofs.Settled.{none_of_fewer, taken_over-same}
use Rattle.abstract_paths.specs.StampLaws.{none-is}

-- ---- of itself

module _ (r : Router) (s : State) (v : Resv) (d : FlowDescriptor) (style : ResvStyle) where
  -- a repair is renewed by what a descriptor asks for, and all else stays
  record IsRenewal (o : Outcome) : Type 0 where
    key : Key
    repair : Repair
    of : repair_from r s v.hop.address (key_in v d) ≡ Some (key, repair)
    renews : o ≡ replied replies.Done [] (with_repair key (record repair { resv = resv_by s.facts.moment repair.resv.link style v d }) s)

  abbrev Renews : Outcome → Type 0
  Renews o = o.reply ≡ replies.Done → IsRenewal o

  abbrev start : Progress
  start = record { state = s; errors = []; first = None; has_granted = false }

  abbrev answer : Progress → Outcome
  answer progress = resv_replied s progress progress.first

  by_verdict : (repair : Key × Repair) → repair_from r s v.hop.address (key_in v d) ≡ Some repair → (verdict : Verdict) → Renews (answer (carried_back r v d repair (resv_by s.facts.moment repair.1.resv.link style v d) start verdict))
  by_verdict repair of (Failed e) done = absurd (let f = done in cc)
  by_verdict repair of PassedOver done = absurd (let f = done in cc)
  by_verdict repair of Granted done = record { key = repair.0; repair = repair.1; of = of; renews = refl }

  by_repair : (o : Option (Key × Repair)) → repair_from r s v.hop.address (key_in v d) ≡ o → Renews (answer (option_map_or (renewed r style v d start) o start))
  by_repair None of done = absurd (let f = done in cc)
  by_repair (Some repair) of done =
      let fact = resv_by s.facts.moment repair.1.resv.link style v d in
      by_verdict repair of (verdict_by_style r s repair.0 fact (fits_share s repair.0 fact)) done

  resv-renews : v.descriptors ≡ d ∷ [] → style_of v.style ≡ Some style → Renews (returned_resv r s v)
  unfolding returned_resv
  resv-renews one of_style =
      subst (λ (o : Option ResvStyle). Renews (option_map_or (λ style. let progress = all_returned r s style v in resv_replied s progress progress.first) o (refused s NoMatch))) (sym of_style)
      (subst (λ (ds : List FlowDescriptor). Renews (answer (fold (next_returned r style v) start ds))) (sym one) (by_repair (repair_from r s v.hop.address (key_in v d)) refl))

  arrival-renews : (a : Arrive) → a.way ≡ ways.Routed → a.reading ≡ readings.Whole (contents.Resv v) → v.descriptors ≡ d ∷ [] → style_of v.style ≡ Some style → Renews (arrival r s a)
  unfolding arrival
  arrival-renews a way reading one of_style =
      cond_both (is_none (link_at r a.link)) (refused s UnknownLink) _ Renews (λ none done. absurd (let f = done in cc))
      (λ there. cond_both (not (is_up s.facts.up a.link)) (refused s LinkDown) _ Renews (λ down done. absurd (let f = done in cc))
      (λ up. subst (λ (w : ArrivalWay). Renews (arrival_by r s w a.link a.reading)) (sym way) (subst (λ (said : Reading). Renews (arrival_by r s ways.Routed a.link said)) (sym reading) (resv-renews one of_style))))

module _ (r : Router) (s : State) (t : ResvTear) where
  -- the repairs that a ResvTear is for go, and all else stays
  abbrev Ends : Outcome → Type 0
  Ends o = o.reply ≡ replies.Done → o ≡ replied replies.Done [] (with_repairs_where (λ repair. not (is_one_of (returned_keys r s t) repair.0)) s)

  tear-ends : Ends (returned_tear r s t)
  unfolding returned_tear
  tear-ends = by (returned_keys r s t)
    where
      by : (keys : List Key) → (torn_back s keys).reply ≡ replies.Done → torn_back s keys ≡ replied replies.Done [] (with_repairs_where (λ repair. not (is_one_of keys repair.0)) s)
      by [] done = absurd (let f = done in cc)
      by (key ∷ keys) done = refl

  arrival-ends : (a : Arrive) → a.way ≡ ways.Routed → a.reading ≡ readings.Whole (contents.ResvTear t) → Ends (arrival r s a)
  unfolding arrival
  arrival-ends a way reading =
      cond_both (is_none (link_at r a.link)) (refused s UnknownLink) _ Ends (λ none done. absurd (let f = done in cc))
      (λ there. cond_both (not (is_up s.facts.up a.link)) (refused s LinkDown) _ Ends (λ down done. absurd (let f = done in cc))
      (λ up. subst (λ (w : ArrivalWay). Ends (arrival_by r s w a.link a.reading)) (sym way) (subst (λ (said : Reading). Ends (arrival_by r s ways.Routed a.link said)) (sym reading) tear-ends)))

-- ---- a step

module _ (r : Router) (before after : State) (made : Made) (arrived : Arrive) (is : IsSound r before) (rests : AreSettled r before) (x : Step r before made after) (event : made.event ≡ events.Arrive arrived) where
  -- where a message changes but repairs, those are left that stand
  left_by : (repairs : List (Key × Repair)) → arrival r before arrived ≡ replied replies.Done [] (record before { repairs = repairs }) → after.repairs ≡ filter (repair_stands r before) repairs
  unfolding repairs_left bypass_tunnels_of
  left_by repairs does =
      let s : State = record before { repairs = repairs } in
      ap (λ (t : State). t.repairs) (led r before after made (events.Arrive arrived) (replied replies.Done [] s) x event does)
      ∙ ap (λ (t : State). (left_standing r (repaired r (assigned_anew r t))).repairs) (taken_over-same r s rests)
      ∙ ap (λ (t : State). (left_standing r t).repairs) (repaired-same r (assigned_anew r s) (over-up r before is))
      ∙ ap (λ (resvs : List (Key × ResvFact)). (repairs_left r (record (assigned_anew r s) { resvs = resvs })).repairs) (filter-all_pass (stands before.facts) before.resvs is.standing)

-- A Resv from the end of a bypass that is done renews the repair that it is for.
pub renewed_by_end : (r : Router) (before after : State) (made : Made) (arrived : Arrive) (v : Resv) (d : FlowDescriptor) (style : ResvStyle) → IsSound r before → AreSettled r before → Step r before made after → made.event ≡ events.Arrive arrived
    → arrived.way ≡ ways.Routed → arrived.reading ≡ readings.Whole (contents.Resv v) → v.descriptors ≡ d ∷ [] → style_of v.style ≡ Some style → made.reply ≡ replies.Done
    → (key : Key) × (repair : Repair) × (repair_from r before v.hop.address (key_in v d) ≡ Some (key, repair)) × (find key_cmp key after.repairs ≡ Some (record repair { resv = resv_by before.facts.moment repair.resv.link style v d }))
renewed_by_end r before after made arrived v d style is rests x event way reading one of_style is_done =
    let o = arrival r before arrived in
    let its = arrival-renews r before v d style arrived way reading one of_style (sym (answered r before after made (events.Arrive arrived) o x event refl) ∙ is_done) in
    let key : Key = its.key in
    let repair : Repair = its.repair in
    let new : Repair = record repair { resv = resv_by before.facts.moment repair.resv.link style v d } in
    let of : IsOf r before v.hop.address (key, repair) = subst (λ (o : Option (Key × Repair)). IfSome o (IsOf r before v.hop.address)) its.of (repair_from-of r before v.hop.address (key_in v d) is.repaired.in_order) in
    let stood : repair_stands r before (key, repair) ≡ true = of_found (λ (u : Key × Repair). repair_stands r before u ≡ true) key repair before.repairs is.repairs_standing of.0 in
    let repairs = put key_cmp key new before.repairs in (
      key,
      repair,
      its.of,
      ap (find key_cmp key) (left_by r before after made arrived is rests x event repairs its.renews)
          ∙ passes_filter (repair_stands r before) key new repairs (is_sorted-put key_cmp key_total key new before.repairs is.repaired.in_order) (find-put_same key_cmp key_total key new before.repairs) stood,
    )

-- A ResvTear from there ends the repairs that it is for.
pub ended_by_end : (r : Router) (before after : State) (made : Made) (arrived : Arrive) (t : ResvTear) (key : Key) → IsSound r before → AreSettled r before → Step r before made after → made.event ≡ events.Arrive arrived
    → arrived.way ≡ ways.Routed → arrived.reading ≡ readings.Whole (contents.ResvTear t) → made.reply ≡ replies.Done → is_one_of (returned_keys r before t) key ≡ true → find key_cmp key after.repairs ≡ None
ended_by_end r before after made arrived t key is rests x event way reading is_done one =
    let o = arrival r before arrived in
    let its = arrival-ends r before t arrived way reading (sym (answered r before after made (events.Arrive arrived) o x event refl) ∙ is_done) in
    let left : Key → Bool = λ k. not (is_one_of (returned_keys r before t) k) in
    let repairs = filter (λ (repair : Key × Repair). left repair.0) before.repairs in
    let gone : find key_cmp key repairs ≡ None = find-where_key key_cmp left key (λ k tied. ap left (sym (key_exact key k tied))) before.repairs ∙ ap (λ b. cond (not b) (find key_cmp key before.repairs) None) one in
    ap (find key_cmp key) (left_by r before after made arrived is rests x event repairs its)
    ∙ none-is (find key_cmp key (filter (repair_stands r before) repairs)) (none_of_fewer (repair_stands r before) key repairs (ap is_some gone))
