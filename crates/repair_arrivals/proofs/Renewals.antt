-- What comes of a flow descriptor is what comes of it in the abstract router.
use Rattle.std.specs.Prelude.{◌≡◌, ℕ, ◌++◌, ◌||◌, Bool, true, T, List, [], ◌∷◌, map, Option, Some, None, is_some}
use Rattle.std.specs.FinMap.Entries.{by_order, find, is_sorted, put}
use Rattle.std.specs.Option.{option_map, option_map_or, option_or, option_to_list}
use Rattle.std.specs.declared.cmp.Ordering.{Ordering}
use Rattle.std.specs.declared.cmp.Ordering.TheVariants.{Less, Equal, Greater}
use Rattle.std.proofs.Common.{refl, sym, ap, subst, ◌∙◌}
use Rattle.rsvp_contents.specs.declared.messages.Resv.{Resv}
use Rattle.rsvp_contents.specs.declared.descriptors.FlowDescriptor.{FlowDescriptor}
use Rattle.sorted_rows.specs.EditLaws.{edited-put, is_sorted-edited}
use Rattle.sorted_rows.specs.Edits.{edited}
use Rattle.sorted_rows.specs.Rows.{keys_of}
use Rattle.sorted_rows.specs.RowsLaws.{find-map, is_sorted-both, put-found}
use Rattle.lsr_facts.specs.OrderLaws.{key_exact, key_total}
use Rattle.lsr_facts.specs.Orders.{key_cmp}
use Rattle.lsr_facts.specs.declared.errors.RsvpError.{RsvpError}
use Rattle.lsr_facts.specs.declared.key.Key.{Key}
use Rattle.lsr_facts.specs.declared.router.Router.{Router}
use Rattle.lsr_facts.specs.declared.repair.Repair.{Repair}
use Rattle.lsr_facts.specs.declared.resv_fact.ResvFact.{ResvFact}
use Rattle.lsr_facts.specs.declared.resv_fact.ResvStyle.{ResvStyle}
use Rattle.lsr_facts.specs.declared.resv_fact.ResvStyle.TheVariants.{FixedFilter}
use Rattle.abstract_paths.specs.declared.events.Output.{Output}
use Rattle.abstract_router.specs.Assigning.{fits_share}
use Rattle.abstract_router.specs.Lsps.{Around, around_of}
use Rattle.abstract_router.specs.Outcomes.{reservation_error}
use Rattle.abstract_router.specs.Reserving as reserving
use Rattle.abstract_router.specs.Reserving.{Verdict, Failed, PassedOver, Granted, key_in, named, resv_by, verdict_by_style}
use Rattle.abstract_router.specs.Returning.{carried_back, next_returned, renewed, repair_from}
use Rattle.abstract_router.specs.States.{State}
use Rattle.abstract_router.specs.Through.{told_through}
use Rattle.resv_arrivals.proofs.Hearing.{either_granted, some_error}
use Rattle.resv_arrivals.specs.Progresses.{fact_at, is_heard}
use Rattle.resv_arrivals.specs.declared.asked.Asked.{Asked}
use Rattle.repair_arrivals.proofs.Matches.{around_apart, same_from}
use Rattle.repair_arrivals.specs.Progresses.{IsReached, bare, reached, repairs_at}
use Rattle.repair_arrivals.specs.declared.progress.RepairProgress.{RepairProgress}

-- a repair of which as much is left
abbrev filled : Key × (ℕ × (Bool × ℕ)) → Key × Repair
filled left = (
  left.0,
  record {
    bypass = left.1.0;
    is_nnhop = left.1.1.0;
    resv = record { link = left.1.1.1; style = FixedFilter; flowspec = []; label = 0; recorded = None; passing = []; expiry = 0 };
  },
)

-- What comes of a flow descriptor for a repair goes by what a Resv leaves of that.
carried-bare : (r : Router) (v : Resv) (d : FlowDescriptor) (repair : Key × Repair) (fact : ResvFact) (p : reserving.Progress) (verdict : Verdict) → carried_back r v d repair fact p verdict ≡ carried_back r v d (filled (bare repair)) fact p verdict
carried-bare r v d repair fact p (Failed e) = refl
carried-bare r v d repair fact p PassedOver = refl
carried-bare r v d repair fact p Granted = refl

module _ (r : Router) (style : ResvStyle) (v : Resv) (d : FlowDescriptor) (p : reserving.Progress) where
  renewed-bare : (found : Option (Key × Repair)) → option_map_or (renewed r style v d p) found p ≡ option_map_or (λ left. renewed r style v d p (filled left)) (option_map bare found) p
  renewed-bare None = refl
  renewed-bare (Some repair) =
      let fact = resv_by p.state.facts.moment repair.1.resv.link style v d in
      carried-bare r v d repair fact p (verdict_by_style r p.state repair.0 fact (fits_share p.state repair.0 fact))

-- The next flow descriptor is for the repair that it was for before all.
pub next_is : (r : Router) (style : ResvStyle) (v : Resv) (d : FlowDescriptor) (s : State) (p : RepairProgress) (found : Option (Key × Repair)) → IsReached s p → found ≡ repair_from r s v.hop.address (key_in v d)
    → option_map_or (renewed r style v d (reached s p)) found (reached s p) ≡ next_returned r style v (reached s p) d
next_is r style v d s p found left is =
    renewed-bare r style v d (reached s p) found
    ∙ ap (λ found. option_map_or (λ (left : Key × (ℕ × (Bool × ℕ))). renewed r style v d (reached s p) (filled left)) found (reached s p))
    (ap (option_map bare) is ∙ sym (same_from r s (repairs_at s p) v.hop.address (key_in v d) left))
    ∙ sym (renewed-bare r style v d (reached s p) (repair_from r (reached s p).state v.hop.address (key_in v d)))

-- One for a repair comes to what its verdict leads to.
pub renewed_by : (r : Router) (s : State) (p : RepairProgress) (asked : Asked) (repair : Repair) (verdict : Verdict) → asked.link ≡ repair.resv.link
    → verdict_by_style r s asked.key (fact_at s.facts.moment asked) (fits_share s asked.key (fact_at s.facts.moment asked)) ≡ verdict
    → renewed r asked.style asked.resv.now asked.descriptor.now (reached s p) (asked.key, repair) ≡ carried_back r asked.resv.now asked.descriptor.now (asked.key, repair) (fact_at s.facts.moment asked) (reached s p) verdict
renewed_by r s p asked repair verdict same is =
    let v = asked.resv.now in
    let d = asked.descriptor.now in
    let by_link = λ (link : ℕ).
    let fact = resv_by s.facts.moment link asked.style v d in
    carried_back r v d (asked.key, repair) fact (reached s p) (verdict_by_style r s asked.key fact (fits_share s asked.key fact)) in
    ap by_link (sym same) ∙ ap (carried_back r v d (asked.key, repair) (fact_at s.facts.moment asked) (reached s p)) is

-- One in error leads to what the code makes of it.
pub failed_leads : (r : Router) (s : State) (p : RepairProgress) (v : Resv) (d : FlowDescriptor) (repair : Key × Repair) (fact : ResvFact) (e : RsvpError) (told : Option Output) (errors : List Output) (first : Option RsvpError)
    → first ≡ option_or p.first (Some e)
    → told ≡ told_through (around_of r s) repair.1 v.session (reservation_error r true e) v.style (named d ∷ [])
    → errors ≡ p.errors ++ option_to_list told
    → reached s (record { edits = p.edits; errors = errors; first = first; has_granted = p.has_granted }) ≡ carried_back r v d repair fact (reached s p) (Failed e)
failed_leads r s p v d repair fact e told errors first or tells are = λ i. record {
  state = (reached s p).state;
  errors = (are
      ∙ ap (λ one. p.errors ++ option_to_list one) tells
      ∙ ap (λ (a : Around). p.errors ++ option_to_list (told_through a repair.1 v.session (reservation_error r true e) v.style (named d ∷ []))) (sym (around_apart r s (repairs_at s p)))) i;
  first = or i;
  has_granted = p.has_granted;
}

-- one more of the rows, and what is left of it
map-put : {K X Y : Type 0} (cmp : K → K → Ordering) (f : X → Y) (key : K) (x : X) (rows : List (K × X)) → map (λ row. (row.0, f row.1)) (put cmp key x rows) ≡ put cmp key (f x) (map (λ row. (row.0, f row.1)) rows)
map-put cmp f key x [] = refl
map-put {K} {X} {Y} cmp f key x (row ∷ rows) = by (cmp key row.0) (map-put cmp f key x rows)
  where
    values : List (K × X) → List (K × Y)
    values = map (λ (row : K × X). (row.0, f row.1))

    by : (o : Ordering) → values (put cmp key x rows) ≡ put cmp key (f x) (values rows)
        → values (by_order o ((key, x) ∷ row ∷ rows) ((row.0, x) ∷ rows) (row ∷ put cmp key x rows)) ≡ by_order o ((key, f x) ∷ (row.0, f row.1) ∷ values rows) ((row.0, f x) ∷ values rows) ((row.0, f row.1) ∷ put cmp key (f x) (values rows))
    by Less rest = refl
    by Equal rest = refl
    by Greater rest = ap (λ (l : List (K × Y)). (row.0, f row.1) ∷ l) rest

keys-values : {K X Y : Type 0} (f : X → Y) (rows : List (K × X)) → keys_of (map (λ row. (row.0, f row.1)) rows) ≡ keys_of rows
keys-values f [] = refl
keys-values f (row ∷ rows) = ap (λ keys. row.0 ∷ keys) (keys-values f rows)

module _ (s : State) (p now : RepairProgress) (key : Key) (repair : Repair) (fact : ResvFact) (sorted : T (is_sorted key_cmp s.repairs)) where
  -- what is repaired once it is granted
  repairs_then : now.edits ≡ put key_cmp key (Some (record repair { resv = fact })) p.edits → repairs_at s now ≡ put key_cmp key (record repair { resv = fact }) (repairs_at s p)
  repairs_then edits =
      ap (λ (es : List (Key × Option Repair)). edited key_cmp es s.repairs) edits
      ∙ edited-put key_cmp key_total key_exact key (Some (record repair { resv = fact })) p.edits s.repairs sorted

  -- As much is left of all where the link is the same.
  pub granted_reached : now.edits ≡ put key_cmp key (Some (record repair { resv = fact })) p.edits → find key_cmp key s.repairs ≡ Some repair → fact.link ≡ repair.resv.link → IsReached s p → IsReached s now
  granted_reached edits found same left =
      let value = λ (repair : Repair). let left : ℕ × (Bool × ℕ) = (repair.bypass, (repair.is_nnhop, repair.resv.link)) in left in
      let rows = map bare (repairs_at s p) in
      let has : find key_cmp key rows ≡ Some (value (record repair { resv = fact })) =
      ap (find key_cmp key) left ∙ find-map key_cmp value key s.repairs ∙ ap (option_map value) found ∙ (λ i. Some (repair.bypass, (repair.is_nnhop, sym same i))) in
      let in_order : T (is_sorted key_cmp rows) =
      subst T (sym (is_sorted-both key_cmp rows (repairs_at s p) (keys-values value (repairs_at s p)))) (is_sorted-edited key_cmp key_total p.edits s.repairs sorted) in
      ap (map bare) (repairs_then edits)
      ∙ map-put key_cmp value key (record repair { resv = fact }) (repairs_at s p)
      ∙ put-found key_cmp key_total key (value (record repair { resv = fact })) rows in_order has
      ∙ left

  -- One that is granted leads to what the code makes of it.
  pub granted_leads : (r : Router) (v : Resv) (d : FlowDescriptor) → now.edits ≡ put key_cmp key (Some (record repair { resv = fact })) p.edits → now.errors ≡ p.errors → now.first ≡ p.first → now.has_granted ≡ true
      → reached s now ≡ carried_back r v d (key, repair) fact (reached s p) Granted
  granted_leads r v d edits errors first has = λ i. record {
    state = record s { repairs = repairs_then edits i };
    errors = errors i;
    first = first i;
    has_granted = has i;
  }

-- What is in error, or granted, is heard of.
pub heard_failed : (r : Router) (v : Resv) (d : FlowDescriptor) (repair : Key × Repair) (fact : ResvFact) (p : reserving.Progress) (e : RsvpError) → is_heard (carried_back r v d repair fact p (Failed e)) ≡ true
heard_failed r v d repair fact p e = ap (λ b. b || p.has_granted) (some_error p.first e)

pub heard_granted : (r : Router) (v : Resv) (d : FlowDescriptor) (repair : Key × Repair) (fact : ResvFact) (p : reserving.Progress) → is_heard (carried_back r v d repair fact p Granted) ≡ true
heard_granted r v d repair fact p = either_granted (is_some p.first)

still_carried : (r : Router) (v : Resv) (d : FlowDescriptor) (repair : Key × Repair) (fact : ResvFact) (p : reserving.Progress) (verdict : Verdict) → is_heard p ≡ true → is_heard (carried_back r v d repair fact p verdict) ≡ true
still_carried r v d repair fact p (Failed e) was = heard_failed r v d repair fact p e
still_carried r v d repair fact p PassedOver was = was
still_carried r v d repair fact p Granted was = heard_granted r v d repair fact p

-- Where something is heard of, it stays so.
pub still_returned : (r : Router) (style : ResvStyle) (v : Resv) (p : reserving.Progress) (d : FlowDescriptor) → is_heard p ≡ true → is_heard (next_returned r style v p d) ≡ true
still_returned r style v p d was = by (repair_from r p.state v.hop.address (key_in v d))
  where
    by : (found : Option (Key × Repair)) → is_heard (option_map_or (renewed r style v d p) found p) ≡ true
    by None = was
    by (Some repair) =
        let fact = resv_by p.state.facts.moment repair.1.resv.link style v d in
        still_carried r v d repair fact p (verdict_by_style r p.state repair.0 fact (fits_share p.state repair.0 fact)) was
