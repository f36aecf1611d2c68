-- A reservation that is granted leaves the table of reservations as it should be.
use Rattle.std.specs.Prelude.{◌≡◌, ℕ, ◌≤◌, ◌==◌, ◌&&◌, ◌||◌, Bool, true, false, cond, not, List, [], ◌∷◌, Option, Some, None, Result, Ok, Err, IsOk, find as find_first}
use Rattle.std.specs.FinMap.Entries.{find, find-put, is_sorted-put, put}
use Rattle.std.specs.List.{list_any}
use Rattle.std.specs.Option.{option_map_or}
use Rattle.std.specs.Ordering.{eq_by_cmp, is_eq}
use Rattle.std.proofs.Common.{refl, sym, ap, subst, ◌∙◌, arith}
use Rattle.std.proofs.lemmas.Bool.{cond_both, eqb-true, not-false, or_parts}
use Rattle.std.proofs.lemmas.Cmp.{tied_itself}
use Rattle.rsvp_bodies.specs.Traffic.{flowspec_rate}
use Rattle.rsvp_bodies.specs.declared.traffic_fault.TrafficFault.{TrafficFault}
use Rattle.sorted_rows.specs.RowsLaws.{all-put_row, ties}
use Rattle.lsr_facts.specs.OrderLaws.{key_exact, key_total, session_exact, session_total}
use Rattle.lsr_facts.specs.Orders.{key_cmp, session_cmp}
use Rattle.lsr_facts.specs.declared.key.Key.{Key}
use Rattle.lsr_facts.specs.declared.path_fact.PathFact.{PathFact}
use Rattle.lsr_facts.specs.declared.router.Router.{Router}
use Rattle.forwarding_table.specs.Labels.{is_label}
use Rattle.lsr_facts.specs.Admission.{granted, without}
use Rattle.lsr_facts.specs.AdmissionLaws.{granted-elsewhere-le, granted-within, victims_of-is_enough}
use Rattle.lsr_facts.specs.Claims.{is_same_session, reserved_of}
use Rattle.lsr_facts.specs.declared.resv_fact.ResvFact.{ResvFact}
use Rattle.lsr_facts.specs.declared.resv_fact.ResvStyle.{ResvStyle}
use Rattle.lsr_facts.specs.declared.resv_fact.ResvStyle.TheVariants.{FixedFilter, SharedExplicit}
use Rattle.abstract_paths.specs.Paths.{has_loop}
use Rattle.abstract_paths.specs.Tears.{leaves_by}
use Rattle.abstract_router.specs.ClaimsLaws.{claims-put, claims-where, sorted-claims}
use Rattle.router_soundness.proofs.Claiming.{holding_below_setup, setup_most}
use Rattle.router_soundness.proofs.Labelling.{eqb-same}
use Rattle.lsr_facts.specs.Errors.{no_sender, style_conflict}
use Rattle.router_soundness.proofs.Holding.{found-all, held_where}
use Rattle.abstract_router.specs.Preempting.{attr_at, claims_of, fits_link, giving_way, limit_of, request_of}
use Rattle.abstract_router.specs.Reserving.{Verdict, Failed, Granted, conflicts, is_same_style, verdict_by_rate, verdict_by_style, verdict_of, verdict_on_path}
use Rattle.abstract_router.specs.Soundness.{AreHeld, IsResv}
use Rattle.abstract_router.specs.States.{State, is_one_of, is_repaired, with_resv, without_resvs}

-- What a descriptor has been tested for that is granted, whichever room it takes,
pub record IsAccepted (s : State) (key : Key) (fact : ResvFact) (has_room : Bool) : Type 0 where
  pub rate : IsOk (flowspec_rate fact.flowspec)
  pub label : is_label fact.label ≡ true
  pub agrees : find_first (conflicts fact.link fact.style key) s.resvs ≡ None
  pub room : has_room ≡ true

-- and one that takes bandwidth of its link.
pub record IsGranted (r : Router) (s : State) (key : Key) (fact : ResvFact) : Type 0 where
  pub unrepaired : is_repaired s key ≡ false
  pub accepted : IsAccepted s key fact (fits_link r s key fact)

module _ (r : Router) (s : State) (key : Key) (fact : ResvFact) (has_room : Bool) where
  -- what follows from a verdict by rate and style, if it is to grant
  abbrev Accepts : Verdict → Type 0
  Accepts verdict = verdict ≡ Granted → IsAccepted s key fact has_room

  accepts_by_rate : (rate : Result ℕ TrafficFault) → flowspec_rate fact.flowspec ≡ rate → find_first (conflicts fact.link fact.style key) s.resvs ≡ None → Accepts (verdict_by_rate r fact has_room rate)
  accepts_by_rate (Err fault) is agrees = λ e. absurd (let h = e in cc)
  accepts_by_rate (Ok rate) is agrees =
      cond_both (not (is_label fact.label)) _ _ Accepts (λ bad. λ e. absurd (let h = e in cc))
      (λ label.
      cond_both (has_loop r fact.recorded) _ _ Accepts (λ loops. λ e. absurd (let h = e in cc))
      (λ straight.
      cond_both (not has_room) _ _ Accepts (λ full. λ e. absurd (let h = e in cc))
      (λ room. λ e. record { rate = subst IsOk (sym is) refl; label = not-false _ label; agrees = agrees; room = not-false _ room })))

  pub accepted_means : verdict_by_style r s key fact has_room ≡ Granted → IsAccepted s key fact has_room
  accepted_means = by_conflict (find_first (conflicts fact.link fact.style key) s.resvs) refl
    where
      by_conflict : (o : Option (Key × ResvFact)) → find_first (conflicts fact.link fact.style key) s.resvs ≡ o
          → Accepts (option_map_or (λ other. Failed (style_conflict other.1.style)) o (verdict_by_rate r fact has_room (flowspec_rate fact.flowspec)))
      by_conflict None none = accepts_by_rate (flowspec_rate fact.flowspec) refl none
      by_conflict (Some other) some = λ e. absurd (let h = e in cc)

module _ (r : Router) (s : State) (key : Key) (fact : ResvFact) where
  -- what follows from a verdict, if it is to grant
  abbrev Means : Verdict → Type 0
  Means verdict = verdict ≡ Granted → IsGranted r s key fact

  means_on_path : (path : PathFact) → Means (verdict_on_path r s key fact path)
  means_on_path path =
      cond_both (not (leaves_by fact.link path) || is_repaired s key) _ _ Means (λ other. λ e. absurd (let h = e in cc))
      (λ leaves. λ e. record { unrepaired = (or_parts (not (leaves_by fact.link path)) (is_repaired s key) leaves).1; accepted = accepted_means r s key fact (fits_link r s key fact) e })

  pub granted_means : verdict_of r s key fact ≡ Granted → IsGranted r s key fact
  unfolding verdict_of
  granted_means =
      cond_both (not (list_any (λ path. is_same_session key.session path.0.session) s.facts.paths)) _ _ Means (λ none. λ e. absurd (let h = e in cc))
      (λ some. by_path (find key_cmp key s.facts.paths))
    where
      by_path : (o : Option PathFact) → Means (option_map_or (verdict_on_path r s key fact) o (Failed no_sender))
      by_path None = λ e. absurd (let h = e in cc)
      by_path (Some path) = means_on_path path

-- sessions that are one stay so the other way round
session-back : (a b : Key) → is_same_session a.session b.session ≡ true → is_same_session b.session a.session ≡ true
session-back a b h = subst (λ t. is_same_session t a.session ≡ true) (session_exact a.session b.session (ties (session_cmp a.session b.session) h)) (ap is_eq (tied_itself session_total a.session))

-- a style is the same as itself, and so the other way round
same_style : (a : ResvStyle) → is_same_style a a ≡ true
same_style FixedFilter = refl
same_style SharedExplicit = refl

same_style-back : (a b : ResvStyle) → is_same_style a b ≡ true → is_same_style b a ≡ true
same_style-back FixedFilter FixedFilter h = refl
same_style-back FixedFilter SharedExplicit h = h
same_style-back SharedExplicit FixedFilter h = h
same_style-back SharedExplicit SharedExplicit h = refl

-- what nothing passes, nothing that is found passes
none-found : (test : Key × ResvFact → Bool) (q : Key) (x : ResvFact) (resvs : List (Key × ResvFact)) → find_first test resvs ≡ None → find key_cmp q resvs ≡ Some x → test (q, x) ≡ false
none-found test q x [] = λ none found. absurd (let e = found in cc)
none-found test q x (v ∷ vs) =
    elim (test v) as (λ b. test v ≡ b → cond b (Some v) (find_first test vs) ≡ None → cond (eq_by_cmp key_cmp q v.0) (Some v.1) (find key_cmp q vs) ≡ Some x → test (q, x) ≡ false) [
      | true ↦ λ passes. λ none. absurd (let e = none in cc)
      | false ↦ λ fails. λ none. elim (eq_by_cmp key_cmp q v.0) as (λ b. eq_by_cmp key_cmp q v.0 ≡ b → cond b (Some v.1) (find key_cmp q vs) ≡ Some x → test (q, x) ≡ false) [
        | true ↦ λ tie. λ found. subst (λ k. test (k, x) ≡ false) (sym (key_exact q v.0 (ties _ tie))) (subst (λ y. test (v.0, y) ≡ false) (let e = found in cc) fails)
        | false ↦ λ apart. λ found. none-found test q x vs none found
      ] refl
    ] refl

module _ (r : Router) (s : State) (key : Key) (fact : ResvFact) (held : AreHeld r s) (may : IsGranted r s key fact) where
  abbrev gone : List Key
  gone = giving_way r s key fact

  abbrev left : State
  left = without_resvs gone s

  rest : AreHeld r left
  rest = held_where r s (λ resv. not (is_one_of gone resv.0)) held

  -- a reservation of another LSP of the session on the link is of the same style
  agree : (b : Key) (y : ResvFact) → find key_cmp b left.resvs ≡ Some y → is_eq (key_cmp b key) ≡ false → is_same_session key.session b.session ≡ true → fact.link ≡ y.link → is_same_style fact.style y.style ≡ true
  agree b y found other session link =
      by (is_same_style fact.style y.style) (is_eq (key_cmp key b)) refl
      (subst (λ p. (p && not (is_eq (key_cmp key b)) && (y.link == fact.link) && not (is_same_style fact.style y.style)) ≡ false) session
      (none-found (conflicts fact.link fact.style key) b y s.resvs may.accepted.agrees (found-all (λ resv. not (is_one_of gone resv.0)) b y s.resvs held.in_order found)))
    where
      apart : is_eq (key_cmp key b) ≡ true → ⊥
      apart tie =
          let same = key_exact key b (ties _ tie) in
          absurd (let e : is_eq (key_cmp key key) ≡ false = subst (λ k. is_eq (key_cmp k key) ≡ false) (sym same) other in let t = ap is_eq (tied_itself key_total key) in cc)

      by : (style tie : Bool) → is_eq (key_cmp key b) ≡ tie → (true && not tie && (y.link == fact.link) && not style) ≡ false → style ≡ true
      by true tie is h = refl
      by false true is h = absurd (apart is)
      by false false is h = absurd (let on : (y.link == fact.link) ≡ true = subst (λ n. (y.link == n) ≡ true) (sym link) (eqb-same y.link) in let e : ((y.link == fact.link) && true) ≡ false = h in let f = subst (λ p. (p && true) ≡ false) on e in cc)

  -- the two styles of any two
  one_style : (a b : Key) (x y : ResvFact) → find key_cmp a (put key_cmp key fact left.resvs) ≡ Some x → find key_cmp b (put key_cmp key fact left.resvs) ≡ Some y
      → is_same_session a.session b.session ≡ true → x.link ≡ y.link → is_same_style x.style y.style ≡ true
  one_style a b x y at_a at_b =
      by (eq_by_cmp key_cmp a key) (eq_by_cmp key_cmp b key) refl refl (sym (find-put key_cmp key_total a key fact left.resvs) ∙ at_a) (sym (find-put key_cmp key_total b key fact left.resvs) ∙ at_b)
    where
      by : (p q : Bool) → eq_by_cmp key_cmp a key ≡ p → eq_by_cmp key_cmp b key ≡ q → cond p (Some fact) (find key_cmp a left.resvs) ≡ Some x → cond q (Some fact) (find key_cmp b left.resvs) ≡ Some y
          → is_same_session a.session b.session ≡ true → x.link ≡ y.link → is_same_style x.style y.style ≡ true
      by true true ta tb fa fb session link =
          let ex : fact ≡ x = let e = fa in cc in
          let ey : fact ≡ y = let e = fb in cc in
          subst (λ z. is_same_style z.style y.style ≡ true) ex (subst (λ z. is_same_style fact.style z.style ≡ true) ey (same_style fact.style))
      by true false ta tb fa fb session link =
          let ex : fact ≡ x = let e = fa in cc in
          let ka = key_exact a key (ties _ ta) in
          subst (λ z. is_same_style z.style y.style ≡ true) ex
          (agree b y fb tb (subst (λ k. is_same_session k.session b.session ≡ true) ka session) (ap (λ z. z.link) ex ∙ link))
      by false true ta tb fa fb session link =
          let ey : fact ≡ y = let e = fb in cc in
          let kb = key_exact b key (ties _ tb) in
          subst (λ z. is_same_style x.style z.style ≡ true) ey
          (same_style-back fact.style x.style (agree a x fa ta (session-back a key (subst (λ k. is_same_session a.session k.session ≡ true) kb session)) (ap (λ z. z.link) ey ∙ sym link)))
      by false false ta tb fa fb session link = rest.one_style a b x y fa fb session link

  -- what is reserved once it is put
  claims : claims_of s.facts.paths (put key_cmp key fact left.resvs) ≡ granted (request_of s.facts.paths key fact) (without gone (claims_of s.facts.paths s.resvs))
  claims = claims-put s.facts.paths key fact left.resvs ∙ ap (granted (request_of s.facts.paths key fact)) (claims-where s.facts.paths (λ k. not (is_one_of gone k)) s.resvs)

  within : (link priority : ℕ) → priority ≤ 7 → reserved_of link priority (claims_of s.facts.paths (put key_cmp key fact left.resvs)) ≤ limit_of r link
  within link priority most =
      subst (λ cs. reserved_of link priority cs ≤ limit_of r link) (sym claims)
      (elim (fact.link == link) as (λ b. (fact.link == link) ≡ b → reserved_of link priority (granted (request_of s.facts.paths key fact) (without gone (claims_of s.facts.paths s.resvs))) ≤ limit_of r link) [
        | true ↦ λ on. subst (λ l. reserved_of l priority (granted (request_of s.facts.paths key fact) (without gone (claims_of s.facts.paths s.resvs))) ≤ limit_of r l) (eqb-true fact.link link on)
            (granted-within (limit_of r fact.link) priority (request_of s.facts.paths key fact) (claims_of s.facts.paths s.resvs) gone (sorted-claims s.facts.paths s.resvs held.in_order) (victims_of-is_enough (limit_of r fact.link) (request_of s.facts.paths key fact) (claims_of s.facts.paths s.resvs) (sorted-claims s.facts.paths s.resvs held.in_order) (holding_below_setup (attr_at s.facts.paths key)) (setup_most (attr_at s.facts.paths key)) may.accepted.room) most)
        | false ↦ λ off. omega (
          arith,
          held.within link priority most,
          granted-elsewhere-le link priority (request_of s.facts.paths key fact) (claims_of s.facts.paths s.resvs) gone (sorted-claims s.facts.paths s.resvs held.in_order) (λ same. absurd (let e : (fact.link == fact.link) ≡ false = subst (λ l. (fact.link == l) ≡ false) (sym same) off in let t = eqb-same fact.link in cc)),
        )
      ] refl)

  pub held_granted : IsResv s.facts.moment (key, fact) → AreHeld r (with_resv key fact left)
  held_granted is = record {
    in_order = is_sorted-put key_cmp key_total key fact left.resvs rest.in_order;
    each = all-put_row key_cmp (IsResv s.facts.moment) key fact (λ k tied. subst (λ k. IsResv s.facts.moment (k, fact)) (key_exact key k tied) is) is left.resvs rest.each;
    one_style = one_style;
    within = within;
  }
