-- A Resv that asks for just what stands changes nothing, and nothing is sent for it.
use Rattle.std.specs.Prelude.{◌≡◌, ◌&&◌, ◌||◌, ◌++◌, ◌==◌, ℕ, ◌≤◌, not, Bool, true, false, cond, if◌then◌else◌, IsOk, List, [], ◌∷◌, fold, find as find_first, Option, Some, None, is_none, is_some, IfSome, Result, Ok, Err}
use Rattle.std.specs.FinMap.Entries.{find, put}
use Rattle.std.specs.List.{All, AllByRecursion, list_any}
use Rattle.std.specs.Option.{option_map_or}
use Rattle.std.specs.Ordering.{eq_by_cmp, is_eq}
use Rattle.std.proofs.Common.{refl, sym, ap, subst, ◌∙◌, arith}
use Rattle.std.proofs.lemmas.Bool.{and_parts, cond_both, eqb-true, false_from_ne_true, le-leb}
use Rattle.std.proofs.lemmas.Cmp.{tied_itself}
use Rattle.std.proofs.lemmas.List.Elements.{recursion_from_All}
use Rattle.rsvp_contents.specs.declared.messages.Content.TheVariants as contents
use Rattle.rsvp_contents.specs.declared.messages.Resv.{Resv}
use Rattle.rsvp_contents.specs.declared.descriptors.FlowDescriptor.{FlowDescriptor}
use Rattle.rsvp_bodies.specs.Traffic.{flowspec_rate}
use Rattle.rsvp_bodies.specs.declared.traffic_fault.TrafficFault.{TrafficFault}
use Rattle.sorted_rows.specs.ListLaws.{all-always, all-weaker, filter-all_pass}
use Rattle.sorted_rows.specs.RowsLaws.{all_found, find-all_row, put-found, ties}
use Rattle.lsr_facts.specs.OrderLaws.{key_exact, key_total, session_total}
use Rattle.lsr_facts.specs.Orders.{key_cmp}
use Rattle.lsr_facts.specs.Routers.{link_at}
use Rattle.lsr_facts.specs.declared.key.Key.{Key}
use Rattle.lsr_facts.specs.declared.path_fact.PathFact.{PathFact}
use Rattle.lsr_facts.specs.declared.refusal.Refusal.TheVariants.{LinkDown, NoMatch, UnknownLink}
use Rattle.lsr_facts.specs.declared.reply.Reply.TheVariants as replies
use Rattle.lsr_facts.specs.declared.router.Router.{Router}
use Rattle.lsr_facts.specs.Admission as admission
use Rattle.lsr_facts.specs.Admission.{granted, is_enough, without}
use Rattle.lsr_facts.specs.AdmissionLaws.{victims_of-none}
use Rattle.lsr_facts.specs.Claims.{is_same_session, reserved_of}
use Rattle.lsr_facts.specs.Reservations.{style_of}
use Rattle.lsr_facts.specs.declared.claim.Claim.{Claim}
use Rattle.lsr_facts.specs.declared.resv_fact.ResvFact.{ResvFact}
use Rattle.lsr_facts.specs.declared.resv_fact.ResvStyle.{ResvStyle}
use Rattle.abstract_paths.specs.Arrivals.{comes, hop_arrive}
use Rattle.abstract_paths.specs.declared.events.Made.{Made}
use Rattle.abstract_paths.specs.Paths.{has_loop}
use Rattle.abstract_paths.specs.Places.{is_up}
use Rattle.abstract_paths.specs.Tears.{leaves_by}
use Rattle.router_soundness.specs.Assigned.{AreStanding}
use Rattle.abstract_router.specs.ClaimsLaws.{claims-put}
use Rattle.router_soundness.proofs.Claiming.{setup_most}
use Rattle.router_soundness.proofs.Entries.{reserved_or_repaired}
use Rattle.abstract_router.specs.Arrivals.{arrival}
use Rattle.lsr_facts.specs.Errors.{no_bandwidth, no_path, no_sender, style_conflict, unacceptable_label, unknown_style}
use Rattle.abstract_router.specs.Outcomes.{refused, replied}
use Rattle.abstract_router.specs.Preempting.{all_told_preempted, attr_at, claims_of, fits_link, giving_way, limit_of, request_of}
use Rattle.abstract_router.specs.Reserving.{Failed, Granted, PassedOver, Progress, Verdict, all_descriptors, carried_on, conflicts, is_same_style, key_in, next_descriptor, resv_arrival, resv_by, resv_failed, resv_replied, verdict_by_rate, verdict_of, verdict_on_path}
use Rattle.abstract_router.specs.Soundness.{IsResv, IsSound}
use Rattle.abstract_router.specs.States.{State, is_repaired, with_resv, without_resvs}
use Rattle.abstract_router.specs.Steps.{AreSettled, Step, stands}
use Rattle.router_laws.proofs.Still.{IsStill, done-still, refused-still, still_step}

-- a search that nothing passes finds none
find-none : {A : Type 0} (test : A → Bool) (xs : List A) → AllByRecursion (λ x. test x ≡ false) xs → find_first test xs ≡ None
find-none test [] h = refl
find-none test (x ∷ xs) h = ap (λ b. cond b (Some x) (find_first test xs)) h.0 ∙ find-none test xs h.1

-- a path of the key is one of its session
session-known : (key : Key) (path : PathFact) (paths : List (Key × PathFact)) → find key_cmp key paths ≡ Some path → list_any (λ row. is_same_session key.session row.0.session) paths ≡ true
session-known key path [] = λ found. absurd (let e = found in cc)
session-known key path (row ∷ rows) =
    elim (eq_by_cmp key_cmp key row.0) as (λ b. eq_by_cmp key_cmp key row.0 ≡ b → cond b (Some row.1) (find key_cmp key rows) ≡ Some path → list_any (λ row. is_same_session key.session row.0.session) (row ∷ rows) ≡ true) [
      | true ↦ λ tie. λ found. at_first (is_same_session key.session row.0.session) (subst (λ k. is_same_session key.session k.session ≡ true) (key_exact key row.0 (ties _ tie)) (ap is_eq (tied_itself session_total key.session)))
      | false ↦ λ apart. λ found. behind (is_same_session key.session row.0.session) (session-known key path rows found)
    ] refl
  where
    at_first : (b : Bool) → b ≡ true → (b || list_any (λ row. is_same_session key.session row.0.session) rows) ≡ true
    at_first b same = ap (λ c. c || list_any (λ row. is_same_session key.session row.0.session) rows) same

    behind : (b : Bool) → list_any (λ row. is_same_session key.session row.0.session) rows ≡ true → (b || list_any (λ row. is_same_session key.session row.0.session) rows) ≡ true
    behind true h = refl
    behind false h = h

module _ (r : Router) (s : State) (is : IsSound r s) (key : Key) (fact : ResvFact) (found : find key_cmp key s.resvs ≡ Some fact) where
  abbrev claims : List (Key × Claim)
  claims = claims_of s.facts.paths s.resvs

  -- to put what is there changes nothing, nor does it change what is claimed
  put-same : put key_cmp key fact s.resvs ≡ s.resvs
  put-same = put-found key_cmp key_total key fact s.resvs is.held.in_order found

  claims-same : granted (request_of s.facts.paths key fact) claims ≡ claims
  claims-same = sym (claims-put s.facts.paths key fact s.resvs) ∙ ap (claims_of s.facts.paths) put-same

  -- it is as it should be, and it stands on its path
  own : IsResv s.facts.moment (key, fact)
  own = subst (λ o. IfSome o (λ v. IsResv s.facts.moment (key, v))) found (find-all_row key_cmp key_exact (IsResv s.facts.moment) key s.resvs is.held.each)

  stood : (is_up s.facts.up fact.link ≡ true) × (option_map_or (leaves_by fact.link) (find key_cmp key s.facts.paths) false ≡ true)
  stood =
      and_parts (is_up s.facts.up fact.link) (option_map_or (leaves_by fact.link) (find key_cmp key s.facts.paths) false)
      (subst (λ o. IfSome o (λ v. stands s.facts (key, v) ≡ true)) found (find-all_row key_cmp key_exact (λ v. stands s.facts v ≡ true) key s.resvs is.standing))

  -- so the LSP isn't repaired
  unrepaired : is_repaired s key ≡ false
  unrepaired = false_from_ne_true (is_repaired s key) (λ repaired. absurd (let e = sym (reserved_or_repaired r s key is repaired) ∙ ap is_some found in cc))

  -- no other is of another style
  agrees : find_first (conflicts fact.link fact.style key) s.resvs ≡ None
  agrees =
      find-none (conflicts fact.link fact.style key) s.resvs
      (all-weaker (λ resv. find key_cmp resv.0 s.resvs ≡ Some resv.1) (λ resv. conflicts fact.link fact.style key resv ≡ false)
      (λ resv at. by resv at (is_same_session key.session resv.0.session) (not (is_eq (key_cmp key resv.0))) (resv.1.link == fact.link) refl refl) s.resvs (all_found key_cmp key_total s.resvs is.held.in_order))
    where
      by : (resv : Key × ResvFact) → find key_cmp resv.0 s.resvs ≡ Some resv.1 → (session other on : Bool) → is_same_session key.session resv.0.session ≡ session → (resv.1.link == fact.link) ≡ on
          → (session && other && on && not (is_same_style fact.style resv.1.style)) ≡ false
      by resv at false other on same link = refl
      by resv at true false on same link = refl
      by resv at true true false same link = refl
      by resv at true true true same link = ap not (is.held.one_style key resv.0 fact resv.1 found at same (sym (eqb-true resv.1.link fact.link link)))

  -- it fits its link, and nobody gives way to it
  fits_link-itself : fits_link r s key fact ≡ true
  unfolding admission.fits
  fits_link-itself =
      le-leb _ (limit_of r fact.link) (subst (λ cs. reserved_of fact.link (request_of s.facts.paths key fact).setup cs ≤ limit_of r fact.link) (sym claims-same) (is.held.within fact.link (request_of s.facts.paths key fact).setup (setup_most (attr_at s.facts.paths key))))

  enough : is_enough (limit_of r fact.link) (request_of s.facts.paths key fact) claims [] ≡ true
  unfolding is_enough
  enough =
      le-leb _ (limit_of r fact.link) (subst (λ cs. reserved_of fact.link 7 cs ≤ limit_of r fact.link) (sym (ap (granted (request_of s.facts.paths key fact)) whole ∙ claims-same)) (is.held.within fact.link 7 (omega arith)))
    where
      whole : without [] claims ≡ claims
      whole = filter-all_pass (λ claim. true) claims (all-always (λ claim. true ≡ true) (λ claim. refl) claims)

  none-gives_way : giving_way r s key fact ≡ []
  none-gives_way = victims_of-none (limit_of r fact.link) (request_of s.facts.paths key fact) claims enough

  -- what asks for it is granted, or passed over where its record names this router
  abbrev again : Verdict
  again = if has_loop r fact.recorded then PassedOver else Granted

  by_rate : (rate : Result ℕ TrafficFault) → IsOk rate → verdict_by_rate r fact (fits_link r s key fact) rate ≡ again
  by_rate (Err fault) ok = absurd (let e = ok in cc)
  by_rate (Ok rate) ok =
      ap (λ b. if not b then Failed unacceptable_label else if has_loop r fact.recorded then PassedOver else if not (fits_link r s key fact) then Failed no_bandwidth else Granted) own.label
      ∙ ap (λ b. if has_loop r fact.recorded then PassedOver else if not b then Failed no_bandwidth else Granted) fits_link-itself

  on_path : (path : PathFact) → leaves_by fact.link path ≡ true → verdict_on_path r s key fact path ≡ again
  on_path path leaves =
      let rated = verdict_by_rate r fact (fits_link r s key fact) (flowspec_rate fact.flowspec) in
      let told = λ (other : Key × ResvFact). Failed (style_conflict other.1.style) in
      ap (λ b. if not b || is_repaired s key then PassedOver else option_map_or told (find_first (conflicts fact.link fact.style key) s.resvs) rated) leaves
      ∙ ap (λ b. if b then PassedOver else option_map_or told (find_first (conflicts fact.link fact.style key) s.resvs) rated) unrepaired
      ∙ ap (λ o. option_map_or told o rated) agrees
      ∙ by_rate (flowspec_rate fact.flowspec) own.has_rate

  verdict-again : verdict_of r s key fact ≡ again
  unfolding verdict_of
  verdict-again = by (find key_cmp key s.facts.paths) refl stood.1
    where
      by : (o : Option PathFact) → find key_cmp key s.facts.paths ≡ o → option_map_or (leaves_by fact.link) o false ≡ true
          → (if not (list_any (λ path. is_same_session key.session path.0.session) s.facts.paths) then Failed no_path else option_map_or (verdict_on_path r s key fact) (find key_cmp key s.facts.paths) (Failed no_sender)) ≡ again
      by None known leaves = absurd (let e = leaves in cc)
      by (Some path) known leaves =
          ap (λ b. if not b then Failed no_path else option_map_or (verdict_on_path r s key fact) (find key_cmp key s.facts.paths) (Failed no_sender)) (session-known key path s.facts.paths known)
          ∙ ap (λ o. option_map_or (verdict_on_path r s key fact) o (Failed no_sender)) known
          ∙ on_path path leaves

-- what descriptors have led to that change nothing
abbrev still : State → Bool → Progress
still s some = record { state = s; errors = []; first = None; has_granted = some }

-- the LSP of a descriptor has the reservation that it asks for
abbrev AsksForOwn : State → ℕ → ResvStyle → Resv → FlowDescriptor → Type 0
AsksForOwn s link style v d = find key_cmp (key_in v d) s.resvs ≡ Some (resv_by s.facts.moment link style v d)

module _ (r : Router) (s : State) (is : IsSound r s) (link : ℕ) (style : ResvStyle) (v : Resv) where
  one-still : (d : FlowDescriptor) → AsksForOwn s link style v d → (some : Bool) → next_descriptor r link style v (still s some) d ≡ still s (if has_loop r d.recorded then some else true)
  one-still d found some = ap (carried_on r link v d fact (still s some)) (verdict-again r s is key fact found) ∙ by (has_loop r d.recorded)
    where
      key : Key
      key = key_in v d

      fact : ResvFact
      fact = resv_by s.facts.moment link style v d

      by : (loops : Bool) → carried_on r link v d fact (still s some) (if loops then PassedOver else Granted) ≡ still s (if loops then some else true)
      by true = refl
      by false =
          let whole = filter-all_pass (λ resv. true) s.resvs (all-always (λ resv. true ≡ true) (λ resv. refl) s.resvs) in
          (λ i. record { state = with_resv key fact (without_resvs (none-gives_way r s is key fact found i) s); errors = [] ++ all_told_preempted r s (none-gives_way r s is key fact found i); first = None; has_granted = true })
          ∙ (λ i. record { state = record s { resvs = (ap (put key_cmp key fact) whole ∙ put-same r s is key fact found) i }; errors = []; first = None; has_granted = true })

  all-still : (ds : List FlowDescriptor) → AllByRecursion (AsksForOwn s link style v) ds → (some : Bool) → (then_some : Bool) × (fold (next_descriptor r link style v) (still s some) ds ≡ still s then_some)
  all-still [] found some = (some, refl)
  all-still (d ∷ ds) found some =
      let rest = all-still ds found.1 (if has_loop r d.recorded then some else true) in
      (rest.0, ap (λ p. fold (next_descriptor r link style v) p ds) (one-still d found.0 some) ∙ rest.1)

module _ (r : Router) (s : State) (is : IsSound r s) (rests : AreSettled r s) (stand : AreStanding r s) where
  resv-still : (link : ℕ) (style : ResvStyle) (v : Resv) → style_of v.style ≡ Some style → AllByRecursion (AsksForOwn s link style v) v.descriptors → IsStill r s (resv_arrival r s link v)
  unfolding resv_arrival
  resv-still link style v is_style found =
      let all = all-still r s is link style v v.descriptors found false in
      subst (IsStill r s)
      (sym (ap (λ o. option_map_or (λ style. let progress = all_descriptors r s link style v in resv_replied s progress progress.first) o (resv_failed r s link v false [] unknown_style)) is_style ∙ ap (λ progress. resv_replied s progress progress.first) all.1))
      (cond_both all.0 (replied replies.Done [] s) (refused s NoMatch) (IsStill r s) (λ some. done-still r s is rests stand) (λ none. refused-still r s (refused s NoMatch) refl refl))

  arrival-still : (link : ℕ) (style : ResvStyle) (v : Resv) → style_of v.style ≡ Some style → AllByRecursion (AsksForOwn s link style v) v.descriptors
      → IsStill r s (arrival r s (hop_arrive link (contents.Resv v)))
  unfolding arrival
  arrival-still link style v is_style found =
      cond_both (is_none (link_at r link)) (refused s UnknownLink) _ (IsStill r s) (λ none. refused-still r s (refused s UnknownLink) refl refl)
      (λ there. cond_both (not (is_up s.facts.up link)) (refused s LinkDown) _ (IsStill r s) (λ down. refused-still r s (refused s LinkDown) refl refl) (λ up. resv-still link style v is_style found))

-- A Resv that asks for just what stands changes nothing, and nothing is sent for it.
pub repeated_is_silent : (r : Router) (before after : State) (made : Made) (link : ℕ) (v : Resv) (style : ResvStyle) → IsSound r before → AreSettled r before → AreStanding r before → Step r before made after
    → made.event ≡ comes link (contents.Resv v) → style_of v.style ≡ Some style
    → All (λ d. find key_cmp (key_in v d) before.resvs ≡ Some (resv_by before.facts.moment link style v d)) v.descriptors
    → (after ≡ before) × (made.outputs ≡ [])
repeated_is_silent r before after made link v style is rests stand step event is_style found =
    let still = arrival-still r before is rests stand link style v is_style (recursion_from_All (AsksForOwn before link style v) v.descriptors found) in
    let same = still_step r before after made (comes link (contents.Resv v)) (arrival r before (hop_arrive link (contents.Resv v))) step event refl still in
    (same.2, same.1)
