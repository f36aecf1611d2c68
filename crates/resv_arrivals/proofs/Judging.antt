-- The verdicts on a flow descriptor, by what the code finds.
use Rattle.std.specs.Prelude.{◌≡◌, ℕ, ◌≤◌, ◌||◌, nat_le, if◌then◌else◌, not, Bool, true, false, cond, List, [], ◌∷◌, Option, Some, None, Result, Ok, Err, IsOk, is_some, find as find_first}
use Rattle.std.specs.FinMap.Entries.{find}
use Rattle.std.specs.List.{list_any}
use Rattle.std.specs.Option.{option_and_then, option_map, option_map_or, unwrap_or}
use Rattle.std.specs.Ordering.{eq_by_cmp, is_eq}
use Rattle.std.specs.Result.{result_unwrap_or}
use Rattle.std.proofs.Common.{refl, sym, ap, subst, ◌∙◌}
use Rattle.std.proofs.lemmas.Bool.{cond_both}
use Rattle.std.proofs.lemmas.Cmp.{tied_itself}
use Rattle.rsvp_bodies.specs.Traffic.{flowspec_rate}
use Rattle.rsvp_bodies.specs.declared.traffic_fault.TrafficFault.{TrafficFault}
use Rattle.rsvp_bodies.specs.declared.attr.Attr.{Attr}
use Rattle.sorted_rows.specs.RowsLaws.{ties}
use Rattle.lsr_facts.specs.OrderLaws.{key_exact, session_total}
use Rattle.lsr_facts.specs.Orders.{key_cmp}
use Rattle.lsr_facts.specs.declared.assignment.Assignment.{Assignment}
use Rattle.lsr_facts.specs.declared.key.Key.{Key}
use Rattle.lsr_facts.specs.declared.path_fact.PathFact.{PathFact}
use Rattle.lsr_facts.specs.declared.router.Router.{Router}
use Rattle.lsr_facts.specs.Admission as admission
use Rattle.lsr_facts.specs.Admission.{victims_of}
use Rattle.lsr_facts.specs.Claims.{is_same_session, reserved_of}
use Rattle.lsr_facts.specs.Priorities.{holding_of, setup_of}
use Rattle.lsr_facts.specs.declared.claim.Request.{Request}
use Rattle.lsr_facts.specs.declared.resv_fact.ResvFact.{ResvFact}
use Rattle.lsr_facts.specs.declared.resv_fact.ResvStyle.{ResvStyle}
use Rattle.lsr_facts.specs.Errors.{no_bandwidth, no_path, no_sender, style_conflict, unacceptable_label}
use Rattle.abstract_router.specs.Preempting.{claims_of, fits_link, giving_way, limit_of, request_of}
use Rattle.abstract_paths.specs.Paths.{has_loop}
use Rattle.abstract_paths.specs.Tears.{leaves_by}
use Rattle.abstract_router.specs.Assigning.{fits_share}
use Rattle.abstract_router.specs.Reserving.{Verdict, Failed, PassedOver, Granted, conflicts, verdict_by_rate, verdict_by_style, verdict_of, verdict_on_path}
use Rattle.abstract_router.specs.States.{State, is_repaired}
use Rattle.forwarding_table.specs.Labels.{is_label}
use Rattle.lsr_facts.specs.declared.claim.Claim.{Claim}
use Rattle.resv_arrivals.proofs.Claiming.{claims_sorted}
use Rattle.resv_arrivals.proofs.Renewing.{fits_again, none_gives_way}
use Rattle.resv_arrivals.specs.Progresses.{IsReached, IsRenewed, claims_at, fact_at, reached}
use Rattle.resv_arrivals.specs.declared.asked.Asked.{Asked}
use Rattle.resv_arrivals.specs.declared.progress.Progress.{Progress}

-- what the code asks for is what the LSP does
request_is : (paths : List (Key × PathFact)) (key : Key) (fact : ResvFact) (path : PathFact) (rate : ℕ) → find key_cmp key paths ≡ Some path → flowspec_rate fact.flowspec ≡ Ok rate
    → request_of paths key fact ≡ record { key = key; claim = record { link = fact.link; style = fact.style; rate = rate; holding = holding_of path.attr }; setup = setup_of path.attr }
request_is paths key fact path rate found rated =
    let with = λ (attr : Option Attr) (n : ℕ). let request : Request = record { key = key; claim = record { link = fact.link; style = fact.style; rate = n; holding = holding_of attr }; setup = setup_of attr } in request in
    ap (λ o. with (option_and_then (λ (p : PathFact). p.attr) o) (result_unwrap_or (flowspec_rate fact.flowspec) 0)) found ∙ ap (λ r. with path.attr (result_unwrap_or r 0)) rated

-- so of a flow descriptor, by the priorities that the path names
pub asks_is : (s : State) (asked : Asked) (path : PathFact) (rate : ℕ) (attr : Option Attr) (request : Request) → find key_cmp asked.key s.facts.paths ≡ Some path → flowspec_rate asked.descriptor.now.flowspec ≡ Ok rate → attr ≡ path.attr
    → request ≡ record { key = asked.key; claim = record { link = asked.link; style = asked.style; rate = rate; holding = holding_of attr }; setup = setup_of attr } → request ≡ request_of s.facts.paths asked.key (fact_at s.facts.moment asked)
asks_is s asked path rate attr request found rated named is =
    is
    ∙ ap (λ attr. record { key = asked.key; claim = record { link = asked.link; style = asked.style; rate = rate; holding = holding_of attr }; setup = setup_of attr }) named
    ∙ sym (request_is s.facts.paths asked.key (fact_at s.facts.moment asked) path rate found rated)

-- a reservation that stands against it, by its style alone
pub by_style : (o : Option (Key × ResvFact)) (otherwise : Verdict) → option_map_or (λ other. Failed (style_conflict other.1.style)) o otherwise ≡ option_map_or (λ style. Failed (style_conflict style)) (option_map (λ other. other.1.style) o) otherwise
by_style None otherwise = refl
by_style (Some other) otherwise = refl

-- the session of an LSP that has a path has one
pub has_own_path : (key : Key) (path : PathFact) (paths : List (Key × PathFact)) → find key_cmp key paths ≡ Some path → list_any (λ row. is_same_session key.session row.0.session) paths ≡ true
has_own_path key path [] = λ none. absurd (let e = none in cc)
has_own_path key path (row ∷ rows) =
    elim (eq_by_cmp key_cmp key row.0) as (λ b. eq_by_cmp key_cmp key row.0 ≡ b → cond b (Some row.1) (find key_cmp key rows) ≡ Some path → list_any (λ row. is_same_session key.session row.0.session) (row ∷ rows) ≡ true) [
      | true ↦ λ tie found. ap (λ b. b || list_any (λ (row : Key × PathFact). is_same_session key.session row.0.session) rows) (subst (λ k. is_same_session key.session k.session ≡ true) (key_exact key row.0 (ties _ tie)) (ap is_eq (tied_itself session_total key.session)))
      | false ↦ λ apart found. either (is_same_session key.session row.0.session) _ (has_own_path key path rows found)
    ] refl
  where
    either : (a b : Bool) → b ≡ true → (a || b) ≡ true
    either true b h = refl
    either false b h = h

-- A verdict where there may be no room, by the one where there is.
abbrev pub in_room : Bool → Verdict → Verdict
in_room has_room (Failed e) = Failed e
in_room has_room PassedOver = PassedOver
in_room has_room Granted = if not has_room then Failed no_bandwidth else Granted

by_room : (r : Router) (fact : ResvFact) (has_room : Bool) (rate : Result ℕ TrafficFault) → verdict_by_rate r fact has_room rate ≡ in_room has_room (verdict_by_rate r fact true rate)
by_room r fact has_room (Err fault) = refl
by_room r fact has_room (Ok rate) = by (not (is_label fact.label)) (has_loop r fact.recorded)
  where
    by : (bad loop : Bool) → (if bad then Failed unacceptable_label else if loop then PassedOver else if not has_room then Failed no_bandwidth else Granted) ≡ in_room has_room (if bad then Failed unacceptable_label else if loop then PassedOver else Granted)
    by true loop = refl
    by false true = refl
    by false false = refl

-- The same of a verdict by style.
pub style_by_room : (r : Router) (s : State) (key : Key) (fact : ResvFact) (has_room : Bool) → verdict_by_style r s key fact has_room ≡ in_room has_room (verdict_by_style r s key fact true)
style_by_room r s key fact has_room = by (find_first (conflicts fact.link fact.style key) s.resvs)
  where
    by : (found : Option (Key × ResvFact)) → option_map_or (λ other. Failed (style_conflict other.1.style)) found (verdict_by_rate r fact has_room (flowspec_rate fact.flowspec))
        ≡ in_room has_room (option_map_or (λ other. Failed (style_conflict other.1.style)) found (verdict_by_rate r fact true (flowspec_rate fact.flowspec)))
    by None = by_room r fact has_room (flowspec_rate fact.flowspec)
    by (Some other) = refl

-- So what is granted where there is room has to fit what its LSP is promised.
pub granted_within : (r : Router) (s : State) (key : Key) (fact : ResvFact) (rate : ℕ) (fits : Bool) → verdict_by_style r s key fact true ≡ Granted → flowspec_rate fact.flowspec ≡ Ok rate
    → fits ≡ option_map_or (λ given. nat_le rate given.rate) (find key_cmp key s.assignments) true
    → verdict_by_style r s key fact (fits_share s key fact) ≡ in_room fits Granted
granted_within r s key fact rate fits granted rated is =
    let share : fits_share s key fact ≡ fits =
    ap (λ (rate : Result ℕ TrafficFault). option_map_or (λ (given : Assignment). nat_le (result_unwrap_or rate 0) given.rate) (find key_cmp key s.assignments) true) rated ∙ sym is in
    style_by_room r s key fact (fits_share s key fact) ∙ (λ i. in_room (share i) (granted i))

-- So the verdict on a path that leaves by the link, of an LSP that isn't repaired, is told by the style of the first that
-- stands against it.
pub on_path_is : (r : Router) (s : State) (key : Key) (fact : ResvFact) (path : PathFact) (found : Option ResvStyle) → leaves_by fact.link path ≡ true → is_repaired s key ≡ false
    → found ≡ option_map (λ other. other.1.style) (find_first (conflicts fact.link fact.style key) s.resvs)
    → verdict_on_path r s key fact path ≡ option_map_or (λ style. Failed (style_conflict style)) found (verdict_by_rate r fact (fits_link r s key fact) (flowspec_rate fact.flowspec))
on_path_is r s key fact path found leaves unrepaired found_is =
    let rest = verdict_by_rate r fact (fits_link r s key fact) (flowspec_rate fact.flowspec) in
    (λ i. cond (not (leaves i) || unrepaired i) PassedOver (option_map_or (λ (other : Key × ResvFact). Failed (style_conflict other.1.style)) (find_first (conflicts fact.link fact.style key) s.resvs) rest))
    ∙ by_style (find_first (conflicts fact.link fact.style key) s.resvs) rest
    ∙ ap (λ (o : Option ResvStyle). option_map_or (λ style. Failed (style_conflict style)) o rest) (sym found_is)

-- An LSP that has a path is judged by it.
pub own_path_is : (r : Router) (s : State) (key : Key) (fact : ResvFact) (path : PathFact) → find key_cmp key s.facts.paths ≡ Some path → verdict_of r s key fact ≡ verdict_on_path r s key fact path
unfolding verdict_of
own_path_is r s key fact path found =
    ap (λ b. cond (not b) (Failed no_path) (option_map_or (verdict_on_path r s key fact) (find key_cmp key s.facts.paths) (Failed no_sender))) (has_own_path key path s.facts.paths found)
    ∙ ap (λ (o : Option PathFact). option_map_or (verdict_on_path r s key fact) o (Failed no_sender)) found

-- What a flow descriptor has that is granted: a path, and a rate.
pub record MayBePut (s : State) (key : Key) (fact : ResvFact) : Type 0 where
  pub path : is_some (find key_cmp key s.facts.paths) ≡ true
  pub rate : IsOk (flowspec_rate fact.flowspec)

module _ (r : Router) (s : State) (key : Key) (fact : ResvFact) where
  -- it has a rate, if it is to be granted
  abbrev IsRated : Verdict → Type 0
  IsRated verdict = verdict ≡ Granted → IsOk (flowspec_rate fact.flowspec)

  rated_by_rate : (rate : Result ℕ TrafficFault) → flowspec_rate fact.flowspec ≡ rate → IsRated (verdict_by_rate r fact (fits_link r s key fact) rate)
  rated_by_rate (Err fault) is = λ e. absurd (let h = e in cc)
  rated_by_rate (Ok rate) is = λ e. subst IsOk (sym is) refl

  rated_on_path : (path : PathFact) → IsRated (verdict_on_path r s key fact path)
  rated_on_path path =
      cond_both (not (leaves_by fact.link path) || is_repaired s key) _ _ IsRated (λ other. λ e. absurd (let h = e in cc))
      (λ leaves. by (find_first (conflicts fact.link fact.style key) s.resvs))
    where
      by : (o : Option (Key × ResvFact)) → IsRated (option_map_or (λ other. Failed (style_conflict other.1.style)) o (verdict_by_rate r fact (fits_link r s key fact) (flowspec_rate fact.flowspec)))
      by None = rated_by_rate (flowspec_rate fact.flowspec) refl
      by (Some other) = λ e. absurd (let h = e in cc)

  pub granted_may_be_put : verdict_of r s key fact ≡ Granted → MayBePut s key fact
  unfolding verdict_of
  granted_may_be_put =
      cond_both (not (list_any (λ path. is_same_session key.session path.0.session) s.facts.paths)) _ _ (λ verdict. verdict ≡ Granted → MayBePut s key fact) (λ none. λ e. absurd (let h = e in cc))
      (λ some. by (find key_cmp key s.facts.paths) refl)
    where
      by : (o : Option PathFact) → find key_cmp key s.facts.paths ≡ o → option_map_or (verdict_on_path r s key fact) o (Failed no_sender) ≡ Granted → MayBePut s key fact
      by None is = λ e. absurd (let h = e in cc)
      by (Some path) is = λ e. record { path = ap is_some is; rate = rated_on_path path e }

module _ (r : Router) (s : State) (p : Progress) (asked : Asked) (request : Request) (is : IsReached r s p) (none : is_some p.claims ≡ false) where
  -- what is claimed is what was claimed, within the limits
  was_claimed : claims_of s.facts.paths s.resvs ≡ claims_at s p
  was_claimed = sym (ap (λ o. unwrap_or o (claims_of s.facts.paths s.resvs)) (by p.claims none)) ∙ is.claimed
    where
      by : (o : Option (List (Key × Claim))) → is_some o ≡ false → o ≡ None
      by None h = refl
      by (Some claims) h = absurd (let e = h in cc)

  within : (priority : ℕ) → priority ≤ 7 → reserved_of request.claim.link priority (claims_at s p) ≤ limit_of r request.claim.link
  within priority most = subst (λ cs. reserved_of request.claim.link priority cs ≤ limit_of r request.claim.link) was_claimed (is.held.within request.claim.link priority most)

  -- An LSP that asks for what it claims already has room, and nobody gives way.
  pub renewed_is : request ≡ request_of s.facts.paths asked.key (fact_at s.facts.moment asked) → request.setup ≤ 7 → find key_cmp request.key (claims_at s p) ≡ Some request.claim
      → (fits_link r (reached s p).state asked.key (fact_at s.facts.moment asked) ≡ true) × IsRenewed r s p asked
  renewed_is asks most found =
      let fact = fact_at s.facts.moment asked in
      let sorted = claims_sorted r s p is in
      let room : fits_link r (reached s p).state asked.key fact ≡ true = sym (ap (λ (q : Request). admission.fits (limit_of r q.claim.link) q (claims_at s p)) asks) ∙ fits_again request (claims_at s p) sorted found (limit_of r request.claim.link) within most in
      let alone : giving_way r (reached s p).state asked.key fact ≡ [] = sym (ap (λ (q : Request). victims_of (limit_of r q.claim.link) q (claims_at s p)) asks) ∙ none_gives_way request (claims_at s p) sorted found (limit_of r request.claim.link) within in
      (room, record { claimed = subst (λ (q : Request). find key_cmp q.key (claims_at s p) ≡ Some q.claim) asks found; alone = alone })

-- What is granted where there is room is granted, or fails, as what the code asks for fits.
pub as_it_fits : (r : Router) (s : State) (p : Progress) (asked : Asked) (rate : ℕ) (request : Request) (room : Bool) → flowspec_rate asked.descriptor.now.flowspec ≡ Ok rate
    → verdict_by_rate r (fact_at s.facts.moment asked) true (Ok rate) ≡ Granted
    → request ≡ request_of s.facts.paths asked.key (fact_at s.facts.moment asked)
    → room ≡ admission.fits (limit_of r request.claim.link) request (claims_at s p)
    → verdict_by_rate r (fact_at s.facts.moment asked) (fits_link r (reached s p).state asked.key (fact_at s.facts.moment asked)) (flowspec_rate asked.descriptor.now.flowspec) ≡ in_room room Granted
as_it_fits r s p asked rate request room rated granted asks is =
    let fact = fact_at s.facts.moment asked in
    let has : fits_link r (reached s p).state asked.key fact ≡ room = sym (is ∙ ap (λ (q : Request). admission.fits (limit_of r q.claim.link) q (claims_at s p)) asks) in
    (λ i. verdict_by_rate r fact (has i) (rated i)) ∙ by_room r fact room (Ok rate) ∙ ap (in_room room) granted
