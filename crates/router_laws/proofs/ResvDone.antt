-- A Resv that is done has a descriptor granted whose LSP keeps its path, and what is asked for that LSP last is reserved.
use Rattle.std.specs.Prelude.{◌≡◌, ◌⊎◌, ℕ, ◌&&◌, ◌||◌, not, Bool, true, false, cond, if◌then◌else◌, Contains, List, [], ◌∷◌, filter, fold, map, Option, Some, None, IfSome, is_none, is_some, option_map}
use Rattle.std.specs.FinMap.Entries.{find, find-where_key, where_key}
use Rattle.std.specs.List.{AllByRecursion, list_any}
use Rattle.std.specs.Option.{option_map_or}
use Rattle.std.specs.Ordering.{is_eq, nat_cmp}
use Rattle.std.proofs.Common.{refl, sym, ap, subst, ◌∙◌, inl, inr, ⊎_elim}
use Rattle.std.proofs.lemmas.Bool.{cond_both, not-false}
use Rattle.std.proofs.lemmas.Cmp.{nat_cmp_total}
use Rattle.std.proofs.lemmas.List.Elements.{All-contains_itself, recursion_from_All}
use Rattle.std.proofs.lemmas.Map.Lookups.{exact_unsigned}
use Rattle.rsvp_contents.specs.declared.messages.Content.TheVariants as contents
use Rattle.rsvp_contents.specs.declared.messages.Resv.{Resv}
use Rattle.rsvp_contents.specs.declared.descriptors.FlowDescriptor.{FlowDescriptor}
use Rattle.sorted_rows.specs.RowsLaws.{all_found, find-all_row, find-put_other, find-put_same, ties}
use Rattle.label_space.specs.LineLaws.{Contains-cons_cases, none_contained}
use Rattle.lsr_facts.specs.Claims.{is_same_session}
use Rattle.lsr_facts.specs.Errors.{no_path, no_sender, unknown_style}
use Rattle.lsr_facts.specs.OrderLaws.{key_exact, key_total}
use Rattle.lsr_facts.specs.Orders.{key_cmp}
use Rattle.lsr_facts.specs.Reservations.{style_of}
use Rattle.lsr_facts.specs.Routers.{link_at}
use Rattle.lsr_facts.specs.Tunnels.{AreTunnels, current_key, head_key}
use Rattle.lsr_facts.specs.declared.errors.RsvpError.{RsvpError}
use Rattle.lsr_facts.specs.declared.facts.Facts.{Facts}
use Rattle.lsr_facts.specs.declared.key.Key.{Key}
use Rattle.lsr_facts.specs.declared.path_fact.PathFact.{PathFact}
use Rattle.lsr_facts.specs.declared.refusal.Refusal.TheVariants.{LinkDown, NoMatch, UnknownLink}
use Rattle.lsr_facts.specs.declared.reply.Reply.TheVariants as replies
use Rattle.lsr_facts.specs.declared.resv_fact.ResvFact.{ResvFact}
use Rattle.lsr_facts.specs.declared.resv_fact.ResvStyle.{ResvStyle}
use Rattle.lsr_facts.specs.declared.router.Router.{Router}
use Rattle.lsr_facts.specs.declared.tunnel.Tunnel.{Tunnel}
use Rattle.lsr_facts.specs.declared.tunnel.TunnelLsp.{TunnelLsp}
use Rattle.abstract_paths.specs.declared.events.Made.{Made}
use Rattle.abstract_paths.specs.Arrivals.{comes, hop_arrive}
use Rattle.abstract_paths.specs.Places.{is_up}
use Rattle.abstract_paths.specs.Tears.{leaves_by}
use Rattle.abstract_router.specs.Arrivals.{arrival}
use Rattle.abstract_router.specs.Outcomes.{Outcome, refused}
use Rattle.abstract_router.specs.Preempting.{fits_link, giving_way}
use Rattle.abstract_router.specs.Repairing.{repaired, repairs_left}
use Rattle.abstract_router.specs.Reserving.{Failed, Granted, PassedOver, Progress, Verdict, all_descriptors, carried_on, key_in, next_descriptor, resv_arrival, resv_by, resv_failed, resv_replied, verdict_by_style, verdict_of, verdict_on_path}
use Rattle.abstract_router.specs.Soundness.{IsSound}
use Rattle.abstract_router.specs.States.{State, is_one_of, is_repaired, is_reserved, with_resv, without_resvs}
use Rattle.abstract_router.specs.Steps.{AreSettled, Step, given_up, is_ready, settled, stands, taken_over, with_moments}
use Rattle.router_soundness.proofs.AssigningRepairs.{passes_filter}
use Rattle.router_soundness.proofs.TakingOver.{new_kept}
use Rattle.router_laws.specs.TouchedBy.{touched_by_way}
use Rattle.router_laws.proofs.GivenUp.{path_left}
use Rattle.router_laws.proofs.Led.{answered, led}
use Rattle.router_laws.proofs.Touching.{Keeps, arrival-keeps, neither}

-- what is granted is for a path that leaves by the link
pub granted_leaves : (r : Router) (s : State) (key : Key) (fact : ResvFact) → verdict_of r s key fact ≡ Granted → option_map_or (leaves_by fact.link) (find key_cmp key s.facts.paths) false ≡ true
unfolding verdict_of
granted_leaves r s key fact =
    cond_both (not (list_any (λ path. is_same_session key.session path.0.session) s.facts.paths)) (Failed no_path) _ (λ (v : Verdict). v ≡ Granted → option_map_or (leaves_by fact.link) (find key_cmp key s.facts.paths) false ≡ true)
    (λ none e. absurd (let f = e in cc)) (λ some. by (find key_cmp key s.facts.paths))
  where
    by : (o : Option PathFact) → option_map_or (verdict_on_path r s key fact) o (Failed no_sender) ≡ Granted → option_map_or (leaves_by fact.link) o false ≡ true
    by None = λ e. absurd (let f = e in cc)
    by (Some path) =
        cond_both (not (leaves_by fact.link path) || is_repaired s key) PassedOver (verdict_by_style r s key fact (fits_link r s key fact)) (λ (v : Verdict). v ≡ Granted → leaves_by fact.link path ≡ true)
        (λ over e. absurd (let f = e in cc)) (λ leaves e. not-false (leaves_by fact.link path) (neither (not (leaves_by fact.link path)) (is_repaired s key) leaves).0)

-- What a descriptor asks for is reserved of an LSP, on the link that its path leaves by.
record IsReservedBy (s : State) (link : ℕ) (style : ResvStyle) (v : Resv) (t : State) (key : Key) : Type 0 where
  descriptor : FlowDescriptor
  among : Contains v.descriptors descriptor
  own : key_in v descriptor ≡ key
  reserved : find key_cmp key t.resvs ≡ Some (resv_by s.facts.moment link style v descriptor)
  leaves : option_map_or (leaves_by link) (find key_cmp key s.facts.paths) false ≡ true

-- What some descriptors have led to: where one was granted, one is reserved so; and each LSP that is reserved was so before, or
-- is so by a descriptor.
record Carries (s : State) (link : ℕ) (style : ResvStyle) (v : Resv) (t : State) (has_granted : Bool) : Type 0 where
  facts : t.facts ≡ s.facts
  some : has_granted ≡ true → (key : Key) × IsReservedBy s link style v t key
  each : (key : Key) → is_reserved t key ≡ true → (is_reserved s key ≡ true) ⊎ IsReservedBy s link style v t key

module _ (r : Router) (s : State) (link : ℕ) (style : ResvStyle) (v : Resv) where
  -- a descriptor that is granted
  module _ (d : FlowDescriptor) (among : Contains v.descriptors d) (progress : Progress) (is : Carries s link style v progress.state progress.has_granted)
      (by : verdict_of r progress.state (key_in v d) (resv_by progress.state.facts.moment link style v d) ≡ Granted) where
    abbrev own : Key
    own = key_in v d

    abbrev fact : ResvFact
    fact = resv_by progress.state.facts.moment link style v d

    abbrev gone : List Key
    gone = giving_way r progress.state own fact

    abbrev left : Key → Bool
    left k = not (is_one_of gone k)

    abbrev next : State
    next = with_resv own fact (without_resvs gone progress.state)

    granted : IsReservedBy s link style v next own
    granted = record {
      descriptor = d;
      among = among;
      own = refl;
      reserved = find-put_same key_cmp key_total own fact (without_resvs gone progress.state).resvs ∙ ap (λ (f : Facts). Some (resv_by f.moment link style v d)) is.facts;
      leaves = subst (λ (f : Facts). option_map_or (leaves_by link) (find key_cmp own f.paths) false ≡ true) is.facts (granted_leaves r progress.state own fact by);
    }

    -- another LSP is as it was, unless it gave way
    other : (key : Key) → is_eq (key_cmp key own) ≡ false → find key_cmp key next.resvs ≡ (if left key then find key_cmp key progress.state.resvs else None)
    other key apart =
        find-put_other key_cmp key_total key own fact (where_key key_cmp left progress.state.resvs) apart
        ∙ find-where_key key_cmp left key (λ k tied. ap left (sym (key_exact key k tied))) progress.state.resvs

    each_next : (key : Key) → is_reserved next key ≡ true → (is_reserved s key ≡ true) ⊎ IsReservedBy s link style v next key
    each_next key some = by_own (is_eq (key_cmp key own)) refl
      where
        by_left : is_eq (key_cmp key own) ≡ false → (b : Bool) → left key ≡ b → is_some (if b then find key_cmp key progress.state.resvs else None) ≡ true → (is_reserved s key ≡ true) ⊎ IsReservedBy s link style v next key
        by_left apart true kept still =
            let same : find key_cmp key next.resvs ≡ find key_cmp key progress.state.resvs = other key apart ∙ ap (λ (b : Bool). cond {A = Option ResvFact} b (find key_cmp key progress.state.resvs) None) kept in
            ⊎_elim inl (λ (was : IsReservedBy s link style v progress.state key). inr (record { descriptor = was.descriptor; among = was.among; own = was.own; reserved = same ∙ was.reserved; leaves = was.leaves })) (is.each key still)
        by_left apart false way still = absurd (let e = still in cc)

        by_own : (b : Bool) → is_eq (key_cmp key own) ≡ b → (is_reserved s key ≡ true) ⊎ IsReservedBy s link style v next key
        by_own true tie = inr (subst (IsReservedBy s link style v next) (sym (key_exact key own (ties _ tie))) granted)
        by_own false apart = by_left apart (left key) refl (sym (ap is_some (other key apart)) ∙ some)

  verdict-carries : (d : FlowDescriptor) → Contains v.descriptors d → (progress : Progress) → Carries s link style v progress.state progress.has_granted → (verdict : Verdict)
      → verdict_of r progress.state (key_in v d) (resv_by progress.state.facts.moment link style v d) ≡ verdict
      → Carries s link style v (carried_on r link v d (resv_by progress.state.facts.moment link style v d) progress verdict).state (carried_on r link v d (resv_by progress.state.facts.moment link style v d) progress verdict).has_granted
  verdict-carries d among progress is (Failed e) by = is
  verdict-carries d among progress is PassedOver by = is
  verdict-carries d among progress is Granted by = record { facts = is.facts; some = λ done. (key_in v d, granted d among progress is by); each = each_next d among progress is by }

  descriptors-carry : (ds : List FlowDescriptor) → AllByRecursion (Contains v.descriptors) ds → (progress : Progress) → Carries s link style v progress.state progress.has_granted
      → Carries s link style v (fold (next_descriptor r link style v) progress ds).state (fold (next_descriptor r link style v) progress ds).has_granted
  descriptors-carry [] among progress is = is
  descriptors-carry (d ∷ ds) among progress is =
      descriptors-carry ds among.1 (next_descriptor r link style v progress d) (verdict-carries d among.0 progress is (verdict_of r progress.state (key_in v d) (resv_by progress.state.facts.moment link style v d)) refl)

  -- an outcome that is done has one reserved so
  abbrev Reserves : Outcome → Type 0
  Reserves o = o.reply ≡ replies.Done → (o.is_silent ≡ false) × Carries s link style v o.after true × (is_up s.facts.up link ≡ true)

  by_first : is_up s.facts.up link ≡ true → (progress : Progress) → Carries s link style v progress.state progress.has_granted → (first : Option RsvpError) → Reserves (resv_replied s progress first)
  by_first up progress is (Some e) = λ done. absurd (let f = done in cc)
  by_first up progress is None =
      cond_both progress.has_granted _ (refused s NoMatch) Reserves (λ some done. (refl, subst (Carries s link style v progress.state) some is, up)) (λ none done. absurd (let f = done in cc))

  resv-reserves : is_up s.facts.up link ≡ true → style_of v.style ≡ Some style → Reserves (resv_arrival r s link v)
  unfolding resv_arrival
  resv-reserves up of_style =
      let progress = all_descriptors r s link style v in
      subst (λ (o : Option ResvStyle). Reserves (option_map_or (λ style. let progress = all_descriptors r s link style v in resv_replied s progress progress.first) o (resv_failed r s link v false [] unknown_style))) (sym of_style)
      (by_first up progress
      (descriptors-carry v.descriptors (recursion_from_All (Contains v.descriptors) v.descriptors (All-contains_itself v.descriptors)) (record { state = s; errors = []; first = None; has_granted = false })
      (record { facts = refl; some = λ none. absurd (let f = none in cc); each = λ key some. inl some }))
      progress.first)

  arrival-reserves : style_of v.style ≡ Some style → Reserves (arrival r s (hop_arrive link (contents.Resv v)))
  unfolding arrival
  arrival-reserves of_style =
      cond_both (is_none (link_at r link)) (refused s UnknownLink) _ Reserves (λ none done. absurd (let f = done in cc))
      (λ there. cond_both (not (is_up s.facts.up link)) (refused s LinkDown) _ Reserves (λ down done. absurd (let f = done in cc)) (λ up. resv-reserves (not-false (is_up s.facts.up link) up) of_style))

-- where tunnels give up an LSP, one of them goes over to its new one
one_goes : (r : Router) (ready : ℕ × Tunnel → Bool) (all : List (ℕ × Tunnel)) (key : Key) (tunnels : List (ℕ × Tunnel)) → AllByRecursion (λ tunnel. find nat_cmp tunnel.0 all ≡ Some tunnel.1) tunnels
    → is_one_of (map (current_key r) (filter ready tunnels)) key ≡ true → (tunnel : ℕ × Tunnel) × (find nat_cmp tunnel.0 all ≡ Some tunnel.1) × (ready tunnel ≡ true)
one_goes r ready all key [] known one = absurd (let e = one in cc)
one_goes r ready all key (tunnel ∷ tunnels) known one = by (ready tunnel) refl (one_goes r ready all key tunnels known.1) one
  where
    Goes : Type 0
    Goes = (tunnel : ℕ × Tunnel) × (find nat_cmp tunnel.0 all ≡ Some tunnel.1) × (ready tunnel ≡ true)

    by : (b : Bool) → ready tunnel ≡ b → (is_one_of (map (current_key r) (filter ready tunnels)) key ≡ true → Goes) → is_one_of (map (current_key r) (cond b (tunnel ∷ filter ready tunnels) (filter ready tunnels))) key ≡ true → Goes
    by true goes rest one = (tunnel, known.0, goes)
    by false waits rest one = rest one

-- One of the LSPs that are reserved so isn't given up: where a tunnel goes over to its new LSP, that one is reserved so.
module _ (r : Router) (s : State) (is : IsSound r s) (rests : AreSettled r s) (link : ℕ) (style : ResvStyle) (v : Resv) (t : State) (carries : Carries s link style v t true) where
  abbrev OneStays : Type 0
  OneStays = (key : Key) × IsReservedBy s link style v t key × (is_one_of (given_up r t) key ≡ false)

  are : AreTunnels r t.facts.tunnels
  are = subst (λ (f : Facts). AreTunnels r f.tunnels) (sym carries.facts) is.paths.tunnels

  new_stays : (tunnel : ℕ × Tunnel) → find nat_cmp tunnel.0 t.facts.tunnels ≡ Some tunnel.1 → is_ready r t tunnel ≡ true → OneStays
  new_stays tunnel known = by tunnel.1.pending refl
    where
      key_of : Option TunnelLsp → Option Key
      key_of pending = option_map (λ lsp. head_key r tunnel.0 tunnel.1.endpoint lsp.id) pending

      waits : is_ready r s tunnel ≡ false
      waits =
          subst (λ (o : Option Tunnel). IfSome o (λ u. is_ready r s (tunnel.0, u) ≡ false)) (ap (λ (f : Facts). find nat_cmp tunnel.0 f.tunnels) (sym carries.facts) ∙ known)
          (find-all_row nat_cmp exact_unsigned (λ tunnel. is_ready r s tunnel ≡ false) tunnel.0 s.facts.tunnels rests)

      by : (o : Option TunnelLsp) → tunnel.1.pending ≡ o → option_map_or (is_reserved t) (key_of o) false ≡ true → OneStays
      by None none ready = absurd (let e = ready in cc)
      by (Some lsp) pending ready =
          let own = head_key r tunnel.0 tunnel.1.endpoint lsp.id in
          ⊎_elim (λ (before : is_reserved s own ≡ true). absurd (let e = sym waits ∙ ap (λ (o : Option TunnelLsp). option_map_or (is_reserved s) (key_of o) false) pending ∙ before in cc))
          (λ (new : IsReservedBy s link style v t own). (own, new, new_kept r t are tunnel.0 tunnel.1 lsp known pending)) (carries.each own ready)

  one_stays : OneStays
  one_stays = by (is_one_of (given_up r t) (carries.some refl).0) refl
    where
      by : (b : Bool) → is_one_of (given_up r t) (carries.some refl).0 ≡ b → OneStays
      by false kept = ((carries.some refl).0, (carries.some refl).1, kept)
      by true one =
          let goes = one_goes r (is_ready r t) t.facts.tunnels (carries.some refl).0 t.facts.tunnels (all_found nat_cmp nat_cmp_total t.facts.tunnels are.in_order) one in
          new_stays goes.0 goes.1 goes.2

-- What one of its descriptors asks for is reserved after the step, and the path of its LSP is as it was.
pub some_reserved : (r : Router) (before after : State) (made : Made) (link : ℕ) (v : Resv) (style : ResvStyle) → IsSound r before → AreSettled r before → Step r before made after → made.event ≡ comes link (contents.Resv v) → style_of v.style ≡ Some style → made.reply ≡ replies.Done
    → (d : FlowDescriptor) × Contains v.descriptors d × (find key_cmp (key_in v d) after.facts.paths ≡ find key_cmp (key_in v d) before.facts.paths) × (find key_cmp (key_in v d) after.resvs ≡ Some (resv_by before.facts.moment link style v d))
unfolding taken_over repaired repairs_left
some_reserved r before after made link v style is rests x event of_style is_done =
    let a = hop_arrive link (contents.Resv v) in
    let o = arrival r before a in
    let reserves = arrival-reserves r before link style v of_style (sym (answered r before after made (comes link (contents.Resv v)) o x event refl) ∙ is_done) in
    let carries : Carries before link style v o.after true = reserves.1 in
    let stays = one_stays r before is rests link style v o.after carries in
    let key : Key = stays.0 in
    let by : IsReservedBy before link style v o.after key = stays.1 in
    let all = with_moments r before o (settled r made.labels o.after) in
    let came : after ≡ all = led r before after made (comes link (contents.Resv v)) o x event refl ∙ ap (λ b. if b then o.after else all) reserves.0 in
    let keeps : Keeps (is_one_of (touched_by_way r before a.way a.link a.reading)) before o.after = arrival-keeps r (is_one_of (touched_by_way r before a.way a.link a.reading)) before is a (λ k apart. apart) in
    let path : find key_cmp key (taken_over r o.after).facts.paths ≡ find key_cmp key before.facts.paths = path_left r o.after key stays.2 ∙ ap (λ (f : Facts). find key_cmp key f.paths) carries.facts in
    let stood : stands (taken_over r o.after).facts (key, resv_by before.facts.moment link style v by.descriptor) ≡ true =
    (λ i. is_up (keeps.up i) link && option_map_or (leaves_by link) (path i) false) ∙ ap (λ b. b && option_map_or (leaves_by link) (find key_cmp key before.facts.paths) false) reserves.2 ∙ by.leaves in
    let both : (find key_cmp (key_in v by.descriptor) after.facts.paths ≡ find key_cmp (key_in v by.descriptor) before.facts.paths) × (find key_cmp (key_in v by.descriptor) after.resvs ≡ Some (resv_by before.facts.moment link style v by.descriptor)) =
    subst (λ (k : Key). (find key_cmp k after.facts.paths ≡ find key_cmp k before.facts.paths) × (find key_cmp k after.resvs ≡ Some (resv_by before.facts.moment link style v by.descriptor))) (sym by.own) (
      ap (λ (t : State). find key_cmp key t.facts.paths) came ∙ path,
      ap (λ (t : State). find key_cmp key t.resvs) came ∙ passes_filter (stands (taken_over r o.after).facts) key (resv_by before.facts.moment link style v by.descriptor) o.after.resvs keeps.resvs_in_order by.reserved stood,
    ) in
    (by.descriptor, by.among, both.0, both.1)

-- Where it has one, that is it.
pub done_reserves : (r : Router) (before after : State) (made : Made) (link : ℕ) (v : Resv) (d : FlowDescriptor) (style : ResvStyle) → IsSound r before → AreSettled r before → Step r before made after → made.event ≡ comes link (contents.Resv v)
    → v.descriptors ≡ d ∷ [] → style_of v.style ≡ Some style → made.reply ≡ replies.Done
    → (find key_cmp (key_in v d) after.facts.paths ≡ find key_cmp (key_in v d) before.facts.paths) × (find key_cmp (key_in v d) after.resvs ≡ Some (resv_by before.facts.moment link style v d))
done_reserves r before after made link v d style is rests x event one of_style is_done =
    let some = some_reserved r before after made link v style is rests x event of_style is_done in
    let same : some.0 ≡ d = ⊎_elim (λ (own : d ≡ some.0). sym own) (λ (none : Contains [] some.0). absurd (none_contained some.0 none)) (Contains-cons_cases d [] some.0 (subst (λ (ds : List FlowDescriptor). Contains ds some.0) one some.1)) in
    subst (λ (e : FlowDescriptor). (find key_cmp (key_in v e) after.facts.paths ≡ find key_cmp (key_in v e) before.facts.paths) × (find key_cmp (key_in v e) after.resvs ≡ Some (resv_by before.facts.moment link style v e))) same (some.2, some.3)
