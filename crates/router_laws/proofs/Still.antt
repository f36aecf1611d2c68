-- Where an event of itself leaves a sound state as it was, so does its step; and nothing is sent but its errors.
use Rattle.std.specs.Prelude.{◌≡◌, ◌+◌, ◌++◌, ◌||◌, ℕ, not, Bool, true, false, if◌then◌else◌, T, List, [], ◌∷◌, filter, filter_map, Option, Some, None, is_some}
use Rattle.std.specs.Bool.{then_some}
use Rattle.std.specs.FinMap.Entries.{find, is_sorted, same_entries, where_key}
use Rattle.std.specs.List.{AllByRecursion, cons_option}
use Rattle.std.specs.Option.{option_and_then, option_map, option_map_or, option_or}
use Rattle.std.specs.Cmp.{IsTotalOrder}
use Rattle.std.specs.declared.cmp.Ordering.{Ordering}
use Rattle.std.specs.declared.cmp.Ordering.TheVariants.{Equal}
use Rattle.std.proofs.Common.{refl, sym, ap, subst, ◌∙◌, inl, inr}
use Rattle.sorted_rows.specs.ListLaws.{all-weaker, filter-all_pass}
use Rattle.sorted_rows.specs.Rows.{keys_of, values_of}
use Rattle.sorted_rows.specs.RowsLaws.{all_found, find-filter, is_some-find_both, is_sorted-both, is_sorted-filter}
use Rattle.lsr_facts.specs.Lifetimes.{begins_here}
use Rattle.lsr_facts.specs.OrderLaws.{item_exact, item_total, key_total}
use Rattle.lsr_facts.specs.Orders.{item_cmp, key_cmp}
use Rattle.lsr_facts.specs.declared.key.Key.{Key}
use Rattle.lsr_facts.specs.declared.path_fact.PathFact.{PathFact}
use Rattle.lsr_facts.specs.declared.reply.Reply.{Reply}
use Rattle.lsr_facts.specs.declared.reply.Reply.TheVariants as replies
use Rattle.lsr_facts.specs.declared.router.Router.{Router}
use Rattle.lsr_facts.specs.UpstreamOrder.{upstream_exact, upstream_total}
use Rattle.lsr_facts.specs.Upstreams.{upstream_cmp}
use Rattle.abstract_paths.specs.declared.events.Event.{Event}
use Rattle.abstract_paths.specs.declared.events.Made.{Made}
use Rattle.abstract_paths.specs.declared.events.Output.{Output}
use Rattle.abstract_paths.specs.Outputs.{between, send_for, tear_for}
use Rattle.abstract_paths.specs.StampLaws.{keys-stamps}
use Rattle.abstract_paths.specs.Stamps.{stamps}
use Rattle.abstract_paths.specs.TouchedLaws.{rests_same, stamps-elsewhere}
use Rattle.router_soundness.specs.Assigned.{AreStanding}
use Rattle.label_space.specs.Rests.{rested}
use Rattle.label_space.specs.RestLaws.{rested_none}
use Rattle.router_soundness.proofs.Resting.{labels_in_order}
use Rattle.lsr_facts.specs.declared.assignment.Assignment.{Assignment}
use Rattle.abstract_router.specs.Assigning.{assigned_anew, assignments_left}
use Rattle.abstract_router.specs.Arrivals.{outcome}
use Rattle.abstract_router.specs.Labels.{freed, is_labelled, labels_after}
use Rattle.abstract_router.specs.Outcomes.{Outcome, replied}
use Rattle.abstract_router.specs.Outputs.{item_stamps, outputs_of, upstream_stamps}
use Rattle.abstract_router.specs.Repairing.{repaired, told_repaired}
use Rattle.abstract_router.specs.Soundness.{IsHolding, IsSound}
use Rattle.abstract_router.specs.States.{State, is_held, is_repaired, is_reserved}
use Rattle.abstract_router.specs.Steps.{AreSettled, Step, known_after, labelled, left_standing, promised, sent_in, settled, with_moments}
use Rattle.abstract_router.specs.UpstreamLaws.{is_sorted-upstream_sound}
use Rattle.abstract_router.specs.Upstreams.{upstream_of}
use Rattle.abstract_router.specs.Wanted.{items_of}
use Rattle.abstract_router.specs.WantedLaws.{is_sorted-items}
use Rattle.router_laws.proofs.Led.{answered, led, sends}
use Rattle.router_laws.proofs.NoneRepaired.{filter_map-none, left-same, over-up, repaired-same, told-none}
use Rattle.router_laws.proofs.Settled.{filter-none_pass, taken_over-same}

-- between rows and themselves nothing comes of what is quiet
pub between-itself : {K C O : Type 0} (cmp : K → K → Ordering) (total : IsTotalOrder cmp) (f : Option C → K × C → Option O) (rows : List (K × C)) → T (is_sorted cmp rows) → ((k : K) (c : C) → f (Some c) (k, c) ≡ None) → between cmp f rows rows ≡ []
between-itself cmp total f rows h quiet =
    filter_map-none (λ row. f (find cmp row.0 rows) row) rows
    (all-weaker (λ row. find cmp row.0 rows ≡ Some row.1) (λ row. f (find cmp row.0 rows) row ≡ None) (λ row found. ap (λ o. f o row) found ∙ quiet row.0 row.1) rows (all_found cmp total rows h))

-- what is wanted as it was, and isn't due, keeps its moments
stamps-same : {I : Type 0} (cmp : I → I → Ordering) (total : IsTotalOrder cmp) (exact : (x y : I) → cmp x y ≡ Equal → x ≡ y) (was : List (I × Output)) (sent : List (I × ℕ)) (now : ℕ) → T (is_sorted cmp was) → keys_of sent ≡ keys_of was → stamps cmp [] was sent now was ≡ sent
stamps-same cmp total exact was sent now h known =
    same_entries cmp total exact (stamps cmp [] was sent now was) sent
    (subst T (sym (is_sorted-both cmp (stamps cmp [] was sent now was) was (keys-stamps cmp [] was sent now was))) h) (subst T (sym (is_sorted-both cmp sent was known)) h)
    (λ item. stamps-elsewhere cmp total exact [] was sent now was item known refl refl)

-- and nothing is sent for it
pub sends-none : {I : Type 0} (cmp : I → I → Ordering) (total : IsTotalOrder cmp) (was : List (I × Output)) → T (is_sorted cmp was) → between cmp (send_for cmp []) was was ≡ []
sends-none cmp total was h = between-itself cmp total (send_for cmp []) was h (λ item o. ap (λ b. if b then None else Some o) (rests_same cmp [] item o refl))

-- An outcome after which all is as it was, and nothing is sent.
abbrev pub IsStill : Router → State → Outcome → Type 0
IsStill r s o = (chosen : List (Key × ℕ)) → (known_after r s chosen o ≡ s) × (sent_in r s o s ≡ [])

-- a silent outcome that leaves the state
pub refused-still : (r : Router) (s : State) (o : Outcome) → o.is_silent ≡ true → o.after ≡ s → IsStill r s o
refused-still r s o silent same chosen =
    (ap (λ b. if b then o.after else with_moments r s o (settled r chosen o.after)) silent ∙ same, ap (λ b. if b then [] else outputs_of r s (o.errors ++ told_repaired r (promised r o.after)) o.due o.upstream_due s) silent)

module _ (r : Router) (s : State) (is : IsSound r s) (rests : AreSettled r s) (stand : AreStanding r s) where
  abbrev ours : Key × PathFact → Bool
  ours path = not (begins_here path.1.role)

  -- each label is held still
  pub labels-held : (chosen : List (Key × ℕ)) → labels_after s.labels chosen s.facts.paths ≡ s.labels
  unfolding labels_after
  labels-held chosen =
      ap (filter_map given) (sym is.labels.of_lsps)
      ∙ held s.labels (all_found key_cmp key_total s.labels (subst T (sym (is_sorted-both key_cmp s.labels (filter ours s.facts.paths) is.labels.of_lsps)) (is_sorted-filter key_cmp ours s.facts.paths is.paths.paths.in_order)))
    where
      given : Key → Option (Key × ℕ)
      given key = option_map (λ label. (key, label)) (option_or (find key_cmp key s.labels) (find key_cmp key chosen))

      held : (rows : List (Key × ℕ)) → AllByRecursion (λ row. find key_cmp row.0 s.labels ≡ Some row.1) rows → filter_map given (keys_of rows) ≡ rows
      held [] h = refl
      held (row ∷ rows) h = λ i. cons_option (option_map (λ label. (row.0, label)) (option_or (h.0 i) (find key_cmp row.0 chosen))) (held rows h.1 i)

  -- so none rests that didn't
  holds : (row : Key × ℕ) → find key_cmp row.0 s.labels ≡ Some row.1 → not (is_labelled s.facts.paths row.0) ≡ false
  holds row found =
      by (find key_cmp row.0 s.facts.paths)
      (sym (find-filter key_cmp key_total ours row.0 (λ k v tied. refl) s.facts.paths is.paths.paths.in_order) ∙ refl)
      (sym (is_some-find_both key_cmp row.0 s.labels (filter ours s.facts.paths) is.labels.of_lsps) ∙ ap is_some found)
    where
      by : (path : Option PathFact) → option_and_then (λ path. then_some (ours (row.0, path)) path) path ≡ find key_cmp row.0 (filter ours s.facts.paths) → is_some (find key_cmp row.0 (filter ours s.facts.paths)) ≡ true
          → not (option_map_or (λ path. not (begins_here path.role)) path false) ≡ false
      by None is there = absurd (let e = ap is_some is ∙ there in cc)
      by (Some path) is there = elim (ours (row.0, path)) as (λ b. is_some (then_some b path) ≡ true → not b ≡ false) [ true ↦ λ t. refl | false ↦ λ t. absurd (let e = t in cc) ] (ap is_some is ∙ there)

  pub none-rests : rested s.facts.moment (s.facts.moment + r.label_rest_ms) (freed s.labels s.facts.paths) s.resting ≡ s.resting
  none-rests =
      let goes = λ (row : Key × ℕ). not (is_labelled s.facts.paths row.0) in
      let none : filter goes s.labels ≡ [] = filter-none_pass goes s.labels (all-weaker (λ row. find key_cmp row.0 s.labels ≡ Some row.1) (λ row. goes row ≡ false) holds s.labels (all_found key_cmp key_total s.labels (labels_in_order r s is.labels is.paths.paths.in_order))) in
      ap (λ rows. rested s.facts.moment (s.facts.moment + r.label_rest_ms) (values_of rows) s.resting) none ∙ rested_none s.facts.moment (s.facts.moment + r.label_rest_ms) s.resting

  -- and each LSP that is promised bandwidth is held still
  pub shares-held : where_key key_cmp (is_held s) s.assignments ≡ s.assignments
  shares-held = filter-all_pass (λ given. is_held s given.0) s.assignments (all-weaker (IsHolding s) (λ given. is_held s given.0 ≡ true) by s.assignments is.assigned.held)
    where
      by : (given : Key × Assignment) → IsHolding s given → is_held s given.0 ≡ true
      by given (inl reserved) = ap (λ o. is_some o || is_repaired s given.0) reserved.1
      by given (inr repaired) = ap (λ o. is_reserved s given.0 || is_some o) repaired.1 ∙ either (is_reserved s given.0)
        where
          either : (b : Bool) → (b || true) ≡ true
          either true = refl
          either false = refl

  settled-same : (chosen : List (Key × ℕ)) → settled r chosen s ≡ s
  settled-same chosen =
      ap (λ (t : State). labelled r chosen (assignments_left (left_standing r (repaired r (assigned_anew r t))))) (taken_over-same r s rests)
      ∙ (λ i. labelled r chosen (assignments_left (left_standing r (repaired r (record s { assignments = stand i })))))
      ∙ ap (λ (t : State). labelled r chosen (assignments_left (left_standing r t))) (repaired-same r s (over-up r s is))
      ∙ ap (λ (t : State). labelled r chosen (assignments_left t)) (left-same r s is)
      ∙ (λ i. labelled r chosen (record s { assignments = shares-held i }))
      ∙ (λ i. record s { labels = labels-held chosen i; resting = none-rests i })

  -- all moments stay
  items_in_order : T (is_sorted item_cmp (items_of r s))
  items_in_order = is_sorted-items r s is.paths.paths.in_order

  upstream_in_order : T (is_sorted upstream_cmp (upstream_of r s))
  upstream_in_order = is_sorted-upstream_sound r s s.facts.moment is.paths.paths

  pub sent-same : item_stamps r s [] s ≡ s.facts.sent
  unfolding item_stamps
  sent-same = stamps-same item_cmp item_total item_exact (items_of r s) s.facts.sent s.facts.moment items_in_order is.sent

  sent_upstream-same : upstream_stamps r s [] s ≡ s.sent_upstream
  unfolding upstream_stamps
  sent_upstream-same = stamps-same upstream_cmp upstream_total upstream_exact (upstream_of r s) s.sent_upstream s.facts.moment upstream_in_order is.sent_upstream

  -- What is known after an outcome that leaves the state as it was, whatever it answers and whichever errors it meets.
  pub known-same : (reply : Reply) (errors : List Output) (chosen : List (Key × ℕ)) → known_after r s chosen (replied reply errors s) ≡ s
  known-same reply errors chosen =
      ap (with_moments r s (replied reply errors s)) (settled-same chosen) ∙ (λ i. record s { facts = record s.facts { sent = sent-same i }; sent_upstream = sent_upstream-same i })

  -- and nothing is sent
  pub sends-nothing : outputs_of r s [] [] [] s ≡ []
  unfolding outputs_of
  sends-nothing =
      let items = items_of r s in
      let upstream = upstream_of r s in
      λ i. between-itself item_cmp item_total (tear_for s.facts.up) items items_in_order (λ item o. refl) i
      ++ between-itself upstream_cmp upstream_total (tear_for s.facts.up) upstream upstream_in_order (λ u o. refl) i
      ++ sends-none item_cmp item_total items items_in_order i
      ++ sends-none upstream_cmp upstream_total upstream upstream_in_order i

  -- of an outcome that meets no error of itself: none is told of a repair either
  pub sent-none : (reply : Reply) → sent_in r s (replied reply [] s) s ≡ []
  sent-none reply =
      ap (λ (t : State). outputs_of r s (told_repaired r (assigned_anew r t)) [] [] s) (taken_over-same r s rests)
      ∙ (λ i. outputs_of r s (told_repaired r (record s { assignments = stand i })) [] [] s)
      ∙ ap (λ told. outputs_of r s told [] [] s) (told-none r s (over-up r s is))
      ∙ sends-nothing

  pub done-still : IsStill r s (replied replies.Done [] s)
  done-still chosen = (known-same replies.Done [] chosen, sent-none replies.Done)

-- A step whose event leaves all as it was.
pub still_step : (r : Router) (before after : State) (made : Made) (event : Event) (o : Outcome) → Step r before made after → made.event ≡ event → outcome r before event ≡ o → IsStill r before o → (made.reply ≡ o.reply) × (made.outputs ≡ []) × (after ≡ before)
still_step r before after made event o x is does still =
    let came : after ≡ before = led r before after made event o x is does ∙ (still made.labels).0 in
    (answered r before after made event o x is does, sends r before after made event o x is does ∙ ap (sent_in r before o) came ∙ (still made.labels).1, came)
