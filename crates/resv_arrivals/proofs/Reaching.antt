-- What a flow descriptor leads to is as it should be, and is what it leads to in the abstract router.
use Rattle.std.specs.Prelude.{◌≡◌, ℕ, suc, zero, ◌^◌, ◌<◌, ◌≤◌, ◌&&◌, ◌++◌, not, Bool, true, false, fold, List, [], ◌∷◌, filter, length, Option, Some, None, is_some, IsOk}
use Rattle.std.specs.FinMap.Entries.{find, put}
use Rattle.std.specs.List.{AllByRecursion}
use Rattle.std.specs.Option.{option_map_or, unwrap_or}
use Rattle.std.proofs.Common.{refl, sym, ap, subst, ◌∙◌, append-nil, arith, get_or}
use Rattle.rsvp_contents.specs.declared.messages.Resv.{Resv}
use Rattle.rsvp_contents.specs.declared.descriptors.FlowDescriptor.{FlowDescriptor}
use Rattle.rsvp_bodies.specs.Traffic.{flowspec_rate}
use Rattle.sorted_rows.specs.EditLaws.{edited-put}
use Rattle.sorted_rows.specs.Edits.{edited}
use Rattle.sorted_rows.specs.ListLaws.{all-filter, all-weaker}
use Rattle.sorted_rows.specs.RowsLaws.{all-put_row}
use Rattle.lsr_facts.specs.OrderLaws.{key_exact, key_total}
use Rattle.lsr_facts.specs.Orders.{key_cmp}
use Rattle.lsr_facts.specs.declared.facts.Facts.{Facts}
use Rattle.lsr_facts.specs.declared.key.Key.{Key}
use Rattle.lsr_facts.specs.declared.path_fact.PathFact.{PathFact}
use Rattle.lsr_facts.specs.declared.router.Router.{Router}
use Rattle.lsr_facts.specs.Admission.{granted, victims_of, without}
use Rattle.lsr_facts.specs.declared.claim.Claim.{Claim}
use Rattle.lsr_facts.specs.declared.claim.Request.{Request}
use Rattle.lsr_facts.specs.declared.resv_fact.ResvFact.{ResvFact}
use Rattle.abstract_paths.specs.declared.events.Output.{Output}
use Rattle.abstract_paths.specs.Places.{is_up}
use Rattle.abstract_paths.specs.Soundness.{ArePaths}
use Rattle.abstract_paths.specs.Tears.{leaves_by}
use Rattle.abstract_router.specs.Preempting.{all_told_preempted, claims_of, giving_way, limit_of, request_of}
use Rattle.abstract_router.specs.Reserving as reserving
use Rattle.abstract_router.specs.Reserving.{carried_on, verdict_of}
use Rattle.abstract_router.specs.Soundness.{AreHeld, IsResv}
use Rattle.abstract_router.specs.States.{State, is_one_of}
use Rattle.abstract_router.specs.Steps.{stands}
use Rattle.abstract_router.specs.ClaimsLaws.{claims-put, claims-where}
use Rattle.resv_arrivals.proofs.Claiming.{claims_sorted}
use Rattle.resv_arrivals.proofs.Gone.{edited_without}
use Rattle.resv_arrivals.proofs.Renewing.{granted_again}
use Rattle.resv_arrivals.proofs.Judging.{granted_may_be_put}
use Rattle.resv_arrivals.proofs.Telling.{told_in_turn}
use Rattle.resv_arrivals.specs.Progresses.{IsOwn, IsReached, IsRenewed, claims_at, fact_at, reached, resvs_at, told_of, without_edits}
use Rattle.resv_arrivals.specs.declared.asked.Asked.{Asked}
use Rattle.resv_arrivals.specs.declared.progress.Progress.{Progress}

-- a reservation that stands has a path
has_path : (facts : Facts) (resv : Key × ResvFact) → stands facts resv ≡ true → is_some (find key_cmp resv.0 facts.paths) ≡ true
has_path facts resv = by (is_up facts.up resv.1.link) (find key_cmp resv.0 facts.paths)
  where
    by : (up : Bool) (o : Option PathFact) → (up && option_map_or (leaves_by resv.1.link) o false) ≡ true → is_some o ≡ true
    by true None h = absurd (let e = h in cc)
    by true (Some path) h = refl
    by false o h = absurd (let e = h in cc)

-- Before the first flow descriptor.
pub start_reached : (r : Router) (s : State) (p : Progress) → p.claims ≡ None → p.edits ≡ [] → s.facts.moment ≤ 2 ^ 62 → ArePaths r s.facts.moment s.facts.paths → AreHeld r s → AllByRecursion (λ resv. stands s.facts resv ≡ true) s.resvs → IsReached r s p
start_reached r s p none same moment paths held standing = record {
  moment = moment;
  paths_in_order = paths.in_order;
  few = paths.few;
  held = held;
  claimed = ap (λ o. unwrap_or o (claims_of s.facts.paths s.resvs)) none ∙ sym (ap (λ (es : List (Key × Option ResvFact)). claims_of s.facts.paths (edited key_cmp es s.resvs)) same);
  rated = subst (λ (es : List (Key × Option ResvFact)). AllByRecursion (λ (resv : Key × ResvFact). IsOk (flowspec_rate resv.1.flowspec)) (edited key_cmp es s.resvs)) (sym same) (all-weaker (IsResv s.facts.moment) (λ resv. IsOk (flowspec_rate resv.1.flowspec)) (λ resv is. is.has_rate) s.resvs held.each);
  on_paths = subst (λ (es : List (Key × Option ResvFact)). AllByRecursion (λ (resv : Key × ResvFact). is_some (find key_cmp resv.0 s.facts.paths) ≡ true) (edited key_cmp es s.resvs)) (sym same) (all-weaker (λ resv. stands s.facts resv ≡ true) (λ resv. is_some (find key_cmp resv.0 s.facts.paths) ≡ true) (λ resv. has_path s.facts resv) s.resvs standing);
}

-- what is kept is as it should be where the claims and the edits are the same
pub still_reached : (r : Router) (s : State) (p now : Progress) → now.claims ≡ p.claims → now.edits ≡ p.edits → IsReached r s p → IsReached r s now
still_reached r s p now claims edits is = record {
  moment = is.moment;
  paths_in_order = is.paths_in_order;
  few = is.few;
  held = is.held;
  claimed = ap (λ o. unwrap_or o (claims_of s.facts.paths s.resvs)) claims ∙ is.claimed ∙ sym (ap (λ (es : List (Key × Option ResvFact)). claims_of s.facts.paths (edited key_cmp es s.resvs)) edits);
  rated = subst (λ (es : List (Key × Option ResvFact)). AllByRecursion (λ (resv : Key × ResvFact). IsOk (flowspec_rate resv.1.flowspec)) (edited key_cmp es s.resvs)) (sym edits) is.rated;
  on_paths = subst (λ (es : List (Key × Option ResvFact)). AllByRecursion (λ (resv : Key × ResvFact). is_some (find key_cmp resv.0 s.facts.paths) ≡ true) (edited key_cmp es s.resvs)) (sym edits) is.on_paths;
}

module _ (r : Router) (s : State) (p now : Progress) (key : Key) (fact : ResvFact) (gone : List Key) (is : IsReached r s p) (may : verdict_of r (reached s p).state key fact ≡ reserving.Granted) (edits : now.edits ≡ put key_cmp key (Some fact) (without_edits p.edits gone)) where
  -- what is reserved once it is granted
  resvs_then : resvs_at s now ≡ put key_cmp key fact (filter (λ resv. not (is_one_of gone resv.0)) (resvs_at s p))
  resvs_then =
      ap (λ (es : List (Key × Option ResvFact)). edited key_cmp es s.resvs) edits
      ∙ edited-put key_cmp key_total key_exact key (Some fact) (without_edits p.edits gone) s.resvs is.held.in_order
      ∙ ap (put key_cmp key fact) (edited_without gone p.edits s.resvs is.held.in_order)

  -- what holds of the granted one, and of each that was there, holds of each
  each_then : (P : Key × ResvFact → Type 0) → P (key, fact) → AllByRecursion P (resvs_at s p) → AllByRecursion P (resvs_at s now)
  each_then P here each =
      subst (AllByRecursion P) (sym resvs_then)
      (all-put_row key_cmp P key fact (λ k tied. subst (λ k. P (k, fact)) (key_exact key k tied) here) here (filter (λ resv. not (is_one_of gone resv.0)) (resvs_at s p)) (all-filter P (λ resv. not (is_one_of gone resv.0)) (resvs_at s p) each))

  pub granted_reached : unwrap_or now.claims (claims_of s.facts.paths s.resvs) ≡ granted (request_of s.facts.paths key fact) (without gone (claims_at s p)) → IsReached r s now
  granted_reached claims = record {
    moment = is.moment;
    paths_in_order = is.paths_in_order;
    few = is.few;
    held = is.held;
    claimed = claims
        ∙ ap (granted (request_of s.facts.paths key fact)) (sym (claims-where s.facts.paths (λ k. not (is_one_of gone k)) (resvs_at s p)))
        ∙ sym (claims-put s.facts.paths key fact (filter (λ resv. not (is_one_of gone resv.0)) (resvs_at s p)))
        ∙ sym (ap (claims_of s.facts.paths) resvs_then);
    rated = each_then (λ resv. IsOk (flowspec_rate resv.1.flowspec)) (granted_may_be_put r (reached s p).state key fact may).rate is.rated;
    on_paths = each_then (λ resv. is_some (find key_cmp resv.0 s.facts.paths) ≡ true) (granted_may_be_put r (reached s p).state key fact may).path is.on_paths;
  }

  pub granted_carried : (link : ℕ) (v : Resv) (d : FlowDescriptor) → key ≡ reserving.key_in v d → gone ≡ giving_way r (reached s p).state key fact → now.errors ≡ p.errors ++ all_told_preempted r (reached s p).state gone → now.first ≡ p.first → now.has_granted ≡ true → reached s now ≡ carried_on r link v d fact (reached s p) reserving.Granted
  granted_carried link v d own gives errors first has = λ i. record {
    state = record s { resvs = (resvs_then ∙ (λ j. put key_cmp (own j) fact (filter (λ resv. not (is_one_of (all j) resv.0)) (resvs_at s p)))) i };
    errors = (errors ∙ ap (λ keys. p.errors ++ all_told_preempted r (reached s p).state keys) all) i;
    first = first i;
    has_granted = has i;
  }
    where
      all : gone ≡ giving_way r (reached s p).state (reserving.key_in v d) fact
      all = gives ∙ ap (λ k. giving_way r (reached s p).state k fact) own

-- A flow descriptor that is granted leads to what the code makes of it.
pub granted_leads : (r : Router) (s : State) (p : Progress) (asked : Asked) (is_last : Bool) (request : Request) (gone : List Key) (fact : ResvFact) (errors : List Output) (edits : List (Key × Option ResvFact)) (claims : Option (List (Key × Claim)))
    → IsReached r s p → IsOwn asked
    → verdict_of r (reached s p).state asked.key (fact_at s.facts.moment asked) ≡ reserving.Granted
    → request ≡ request_of s.facts.paths asked.key (fact_at s.facts.moment asked)
    → gone ≡ victims_of (limit_of r request.claim.link) request (claims_at s p)
    → fact ≡ fact_at s.facts.moment asked
    → errors ≡ fold (told_of r (resvs_at s p)) p.errors gone
    → edits ≡ put key_cmp request.key (Some fact) (without_edits p.edits gone)
    → (is_last ≡ false → claims ≡ Some (granted request (without gone (unwrap_or p.claims (claims_of s.facts.paths s.resvs)))))
    → let now : Progress = record { claims = claims; edits = edits; errors = errors; first = p.first; has_granted = true } in
    (reached s now ≡ carried_on r asked.link asked.resv.now asked.descriptor.now (fact_at s.facts.moment asked) (reached s p) reserving.Granted) × (is_last ≡ false → IsReached r s now)
granted_leads r s p asked is_last request gone fact errors edits claims is own may asks gives same tells edited_so claimed_so =
    let key = asked.key in
    let wanted = fact_at s.facts.moment asked in
    let now : Progress = record { claims = claims; edits = edits; errors = errors; first = p.first; has_granted = true } in
    let put_so : edits ≡ put key_cmp key (Some wanted) (without_edits p.edits gone) = edited_so ∙ (λ i. put key_cmp (asks i).key (Some (same i)) (without_edits p.edits gone)) in
    let gives_so : gone ≡ giving_way r (reached s p).state key wanted = gives ∙ ap (λ (q : Request). victims_of (limit_of r q.claim.link) q (claims_at s p)) asks in
    let counted : is_last ≡ false → unwrap_or claims (claims_of s.facts.paths s.resvs) ≡ granted (request_of s.facts.paths key wanted) (without gone (claims_at s p)) =
    λ more. ap (λ (o : Option (List (Key × Claim))). unwrap_or o (claims_of s.facts.paths s.resvs)) (claimed_so more) ∙ (λ i. granted (asks i) (without gone (is.claimed i))) in (
      granted_carried r s p now key wanted gone is may put_so asked.link asked.resv.now asked.descriptor.now own gives_so (tells ∙ told_in_turn r (reached s p).state p.errors gone) refl refl,
      λ more. granted_reached r s p now key wanted gone is may put_so (counted more),
    )

-- And so does one whose LSP claims that already.
pub renewed_leads : (r : Router) (s : State) (p : Progress) (asked : Asked) (fact : ResvFact) (edits : List (Key × Option ResvFact))
    → IsReached r s p → IsOwn asked
    → verdict_of r (reached s p).state asked.key (fact_at s.facts.moment asked) ≡ reserving.Granted
    → IsRenewed r s p asked
    → fact ≡ fact_at s.facts.moment asked
    → edits ≡ put key_cmp asked.key (Some fact) p.edits
    → let now : Progress = record { claims = p.claims; edits = edits; errors = p.errors; first = p.first; has_granted = true } in
    (reached s now ≡ carried_on r asked.link asked.resv.now asked.descriptor.now (fact_at s.facts.moment asked) (reached s p) reserving.Granted) × IsReached r s now
renewed_leads r s p asked fact edits is own may renewed same edited_so =
    let key = asked.key in
    let wanted = fact_at s.facts.moment asked in
    let now : Progress = record { claims = p.claims; edits = edits; errors = p.errors; first = p.first; has_granted = true } in
    let put_so : edits ≡ put key_cmp key (Some wanted) p.edits = edited_so ∙ (λ i. put key_cmp key (Some (same i)) p.edits) in (
      granted_carried r s p now key wanted [] is may put_so asked.link asked.resv.now asked.descriptor.now own (sym renewed.alone) (sym (append-nil p.errors)) refl refl,
      granted_reached r s p now key wanted [] is may put_so (is.claimed ∙ sym (granted_again (request_of s.facts.paths key wanted) (claims_at s p) (claims_sorted r s p is) renewed.claimed)),
    )

-- What holds of each holds of the one at a place.
pub each_at : {A : Type 0} (P : A → Type 0) (xs : List A) (i : ℕ) (x : A) → AllByRecursion P xs → i < length xs → x ≡ get_or xs i x → P x
each_at P [] i x each below is = absurd (omega arith)
each_at P (y ∷ ys) zero x each below is = subst P (sym is) each.0
each_at P (y ∷ ys) (suc i) x each below is = each_at P ys i x each.1 (omega arith) is
