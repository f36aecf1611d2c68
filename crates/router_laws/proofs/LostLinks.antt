-- What a step of a link that goes down leaves of the LSPs that were reserved on it, and of the others.
use Rattle.std.specs.Prelude.{◌≡◌, ◌≢◌, ℕ, ◌&&◌, ◌||◌, not, Bool, true, false, cond, List, [], filter, Option, Some, None, is_some, IfSome, ◌++◌, ◌∷◌}
use Rattle.std.specs.FinMap.Entries.{find}
use Rattle.std.specs.List.{All, AllByRecursion, Contains, flat_map}
use Rattle.std.proofs.lemmas.List.Elements.{All-contains_itself, All-from_recursion, Contains-append_left, Contains-append_right, recursion_from_All}
use Rattle.std.specs.Option.{option_and_then, option_map, option_map_or}
use Rattle.std.specs.Ordering.{eq_by_cmp, nat_cmp}
use Rattle.std.proofs.Common.{refl, ap, sym, subst, ◌∙◌, ⊎_elim, inl, inr}
use Rattle.std.proofs.lemmas.Bool.{and_parts, cases_eq}
use Rattle.std.proofs.lemmas.Cmp.{nat_cmp_total}
use Rattle.std.proofs.lemmas.Map.Lookups.{exact_unsigned}
use Rattle.std.proofs.lemmas.Option.{same_Some}
use Rattle.sorted_rows.specs.ListLaws.{all-append, all-weaker}
use Rattle.sorted_rows.specs.RowsLaws.{all_found, find-put_apart, find-put_same, is_some-find_both, ties}
use Rattle.lsr_facts.specs.OrderLaws.{key_exact, key_total}
use Rattle.lsr_facts.specs.Orders.{item_cmp, key_cmp}
use Rattle.lsr_facts.specs.Errors.{locally_repaired}
use Rattle.lsr_facts.specs.SumLaws.{Contains-filter}
use Rattle.lsr_facts.specs.Upstreams.{upstream_cmp}
use Rattle.lsr_facts.specs.Routers.{HasLink, IsRouter, link_at}
use Rattle.lsr_facts.specs.declared.assignment.Assignment.{Assignment}
use Rattle.lsr_facts.specs.declared.facts.Facts.{Facts}
use Rattle.lsr_facts.specs.declared.key.Key.{Key}
use Rattle.lsr_facts.specs.declared.path_fact.PathFact.{PathFact}
use Rattle.lsr_facts.specs.declared.refusal.Refusal.TheVariants.{UnknownLink}
use Rattle.lsr_facts.specs.declared.repair.BypassTunnel.{BypassTunnel}
use Rattle.lsr_facts.specs.declared.repair.Over.{Over}
use Rattle.lsr_facts.specs.declared.repair.Repair.{Repair}
use Rattle.lsr_facts.specs.declared.repair.Selected.{Selected}
use Rattle.lsr_facts.specs.declared.reply.Reply.TheVariants as replies
use Rattle.lsr_facts.specs.declared.resv_fact.ResvFact.{ResvFact}
use Rattle.lsr_facts.specs.declared.router.Router.{Router}
use Rattle.forwarding_table.specs.declared.action.Action.TheVariants.{SwapPush}
use Rattle.abstract_paths.specs.declared.events.Event.TheVariants as events
use Rattle.abstract_paths.specs.declared.events.Made.{Made}
use Rattle.abstract_paths.specs.Changes.{with_link}
use Rattle.abstract_paths.specs.Links.{link_change}
use Rattle.abstract_paths.specs.Outcomes as paths
use Rattle.abstract_paths.specs.Outcomes.{found_here, told_upstream}
use Rattle.abstract_paths.specs.Outputs.{between, errors_out, send_for, tear_for}
use Rattle.abstract_paths.specs.declared.events.Output.{Output}
use Rattle.abstract_paths.specs.Places.{Place, is_up, place_of}
use Rattle.abstract_paths.specs.RowLaws.{find-holds}
use Rattle.abstract_paths.specs.Tears.{leaves_by}
use Rattle.abstract_paths.specs.TouchedLaws.{find-made, find-touched, is_sorted-made}
use Rattle.abstract_router.specs.Arrivals.{outcome}
use Rattle.abstract_router.specs.Assigning.{assigned_anew, assignments_left}
use Rattle.abstract_router.specs.BypassTunnels.{bypass_tunnels_of, over_at}
use Rattle.abstract_router.specs.Lsps.{around_of}
use Rattle.abstract_router.specs.Outcomes.{Outcome, of_paths, replied}
use Rattle.abstract_router.specs.Protecting.{candidates_of, may_serve, repair_with, selected}
use Rattle.abstract_router.specs.Repairing.{new_repairs, repair_of, repair_stands, repaired, repairs_left, told_of, told_repaired}
use Rattle.abstract_router.specs.Outputs.{outputs_of}
use Rattle.abstract_router.specs.Tables.{look}
use Rattle.abstract_router.specs.Upstreams.{upstream_of}
use Rattle.abstract_router.specs.Wanted.{items_of}
use Rattle.abstract_router.specs.Soundness.{IsSound}
use Rattle.abstract_router.specs.States.{State, is_held, with_facts}
use Rattle.abstract_router.specs.Steps.{AreSettled, Step, labelled, left_standing, resvs_left, stands, with_moments}
use Rattle.router_soundness.proofs.Assigning.{IsRepairedSo, IsReservedSo, MayPromise, holder, repairs_sorted}
use Rattle.router_soundness.proofs.AssigningRepairs.{IsNewRepair, found_filter, found_where, lost, made_of, new_repair, of_found, old_or_new, passes_filter, repaired_lost}
use Rattle.router_soundness.proofs.AssigningTaken.{may_promise}
use Rattle.router_soundness.proofs.AssigningWays.{IsWay, candidates-are, tunnels-left}
use Rattle.router_soundness.proofs.Drafting.{outcome-leaves}
use Rattle.router_soundness.proofs.Holding.{held_with_facts}
use Rattle.router_soundness.proofs.Repairing.{falls_down}
use Rattle.router_soundness.proofs.Running.{sound_step}
use Rattle.router_soundness.proofs.Settling.{Leaves}
use Rattle.router_soundness.proofs.Standing.{repair_on_bypass}
use Rattle.router_soundness.specs.Drafted.{IsDrafted}
use Rattle.router_laws.specs.Repairs.{TellsOfRepair, bypass_for}
use Rattle.router_laws.specs.Sending.{is_path_err, says}
use Rattle.router_laws.proofs.Exactly.{IsRowOfState, items-state, resvs-state}
use Rattle.router_laws.proofs.Holders.{label_of_path, label_stays}
use Rattle.router_laws.proofs.Led.{led, sends}
use Rattle.router_laws.proofs.Outgoing.{outputs-hold, state_no_err, tear_no_err}
use Rattle.router_laws.proofs.OwnEntries.{look_repaired}
use Rattle.router_laws.proofs.Settled.{taken_over-same}

-- what f gives of a row that is found is among what it gives of all
Contains-found : {V : Type 0} (f : Key × V → List Output) (key : Key) (value : V) (output : Output) (rows : List (Key × V)) → find key_cmp key rows ≡ Some value → Contains (f (key, value)) output → Contains (flat_map f rows) output
Contains-found f key value output [] found given = absurd (let e = found in cc)
Contains-found {V} f key value output (row ∷ rows) found given =
    elim (eq_by_cmp key_cmp key row.0) as (λ b. eq_by_cmp key_cmp key row.0 ≡ b → cond b (Some row.1) (find key_cmp key rows) ≡ Some value → Contains (f row ++ flat_map f rows) output) [
      | true ↦ λ tie own. Contains-append_left (f row) (flat_map f rows) output (subst (λ (r : Key × V). Contains (f r) output) (λ i. (key_exact key row.0 (ties _ tie) i, same_Some value row.1 (sym own) i)) given)
      | false ↦ λ apart other. Contains-append_right (f row) (flat_map f rows) output (Contains-found f key value output rows other given)
    ] refl found

-- A link that is up is one of the router's.
pub up_known : (r : Router) (s : State) (n : ℕ) → IsSound r s → is_up s.facts.up n ≡ true → HasLink r n
unfolding is_up link_at
up_known r s n is up = sym (is_some-find_both nat_cmp n s.facts.up r.links is.paths.links) ∙ by (find nat_cmp n s.facts.up) up
  where
    by : (o : Option Bool) → option_map_or (λ is. is) o false ≡ true → is_some o ≡ true
    by None up = absurd (let e = up in cc)
    by (Some b) up = refl

-- what holds of all that f gives of each holds of all that it gives
all-flat_map_within : {A B : Type 0} (P : B → Type 0) (f : A → List B) (xs : List A) → AllByRecursion (λ x. AllByRecursion P (f x)) xs → AllByRecursion P (flat_map f xs)
all-flat_map_within P f [] each = tt
all-flat_map_within P f (x ∷ xs) each = all-append P (f x) (flat_map f xs) each.0 (all-flat_map_within P f xs each.1)

module _ (r : Router) (before after : State) (made : Made) (n : ℕ) (router : IsRouter r) (is : IsSound r before) (rests : AreSettled r before) (there : HasLink r n)
    (x : Step r before made after) (event : made.event ≡ events.LinkDown n) where
  -- what the event does of itself
  abbrev facts : Facts
  facts = with_link n false before.facts

  abbrev s : State
  s = with_facts facts before

  abbrev o : Outcome
  o = replied replies.Done [] s

  does : outcome r before (events.LinkDown n) ≡ o
  unfolding link_change
  does = ap (λ b. of_paths before (cond (not b) (paths.refused before.facts UnknownLink) (paths.done [] facts))) there

  -- the bandwidth of bypasses is promised anew,
  abbrev p : State
  p = assigned_anew r s

  -- and what stands no more goes
  abbrev left : State
  left = left_standing r (repaired r p)

  came : after ≡ with_moments r before o (labelled r made.labels (assignments_left left))
  came = led r before after made (events.LinkDown n) o x event does ∙ ap (λ t. with_moments r before o (labelled r made.labels (assignments_left (left_standing r (repaired r (assigned_anew r t)))))) (taken_over-same r s rests)

  sent_then : made.outputs ≡ outputs_of r before (told_repaired r p) [] [] after
  sent_then = sends r before after made (events.LinkDown n) o x event does ∙ ap (λ t. outputs_of r before (told_repaired r (assigned_anew r t)) [] [] after) (taken_over-same r s rests)

  drafted : IsDrafted r before s
  drafted = subst (Leaves r before) (ap (outcome r before) event ∙ does) (outcome-leaves r before made.event router is x.possible x.awake)

  pub may : MayPromise s
  may = subst MayPromise (taken_over-same r s rests) (may_promise r before s is drafted)

  -- bypasses run over the same after the step
  same_tunnels : bypass_tunnels_of r after ≡ bypass_tunnels_of r p
  unfolding repaired repairs_left bypass_tunnels_of
  same_tunnels = ap (bypass_tunnels_of r) came ∙ tunnels-left r s may.resvs

  same_around : around_of r after ≡ around_of r p
  unfolding repaired repairs_left
  same_around = λ i. record { place = record { router = r; up = (came i).facts.up; routes = (came i).facts.routes }; bypass_tunnels = same_tunnels i }

  -- the link is down then
  down_then : is_up facts.up n ≡ false
  unfolding is_up
  down_then = ap (λ o. option_map_or (λ is. is) o false) (find-put_same nat_cmp nat_cmp_total n false before.facts.up)

  is_down_after : is_up after.facts.up n ≡ false
  unfolding repaired repairs_left
  is_down_after = ap (λ (t : State). is_up t.facts.up n) came ∙ down_then

  -- A repair is over a bypass that is up, over another link.
  pub over_another : (key : Key) (repair : Repair) → find key_cmp key after.repairs ≡ Some repair
      → (over : Over) × (over_at (bypass_tunnels_of r after) repair.bypass ≡ Some over) × (over.link ≢ n) × (is_up after.facts.up over.link ≡ true)
  over_another key repair found =
      let on = repair_on_bypass r after key repair (sound_step r before made after router is x) found in
      (on.1, on.4, (λ same. let e = sym is_down_after ∙ ap (is_up after.facts.up) (sym same) ∙ on.5 in cc), on.5)

  -- A reservation on another link stays.
  pub resv_stays : (key : Key) (resv : ResvFact) → find key_cmp key before.resvs ≡ Some resv → resv.link ≢ n → find key_cmp key after.resvs ≡ Some resv
  unfolding repaired repairs_left is_up
  resv_stays key resv found other =
      let stood : stands before.facts (key, resv) ≡ true = of_found (λ resv. stands before.facts resv ≡ true) key resv before.resvs is.standing found in
      let up = ap (λ o. option_map_or (λ is. is) o false) (find-put_apart nat_cmp nat_cmp_total exact_unsigned resv.link n false before.facts.up other) in
      ap (λ (t : State). find key_cmp key t.resvs) came
      ∙ passes_filter (stands facts) key resv before.resvs is.held.in_order found
      (ap (λ (b : Bool). b && option_map_or (leaves_by resv.link) (find key_cmp key before.facts.paths) false) up ∙ stood)

  -- An LSP that was reserved on the link.
  module _ (key : Key) (resv : ResvFact) (path : PathFact) (reserved : find key_cmp key before.resvs ≡ Some resv) (known : find key_cmp key before.facts.paths ≡ Some path) (on : resv.link ≡ n) where
    leaving_on : option_map_or (leaves_by resv.link) (find key_cmp key before.facts.paths) false ≡ true
    leaving_on = (and_parts (is_up before.facts.up resv.link) (option_map_or (leaves_by resv.link) (find key_cmp key before.facts.paths) false) (of_found (λ resv. stands before.facts resv ≡ true) key resv before.resvs is.standing reserved)).1

    leaving : leaves_by resv.link path ≡ true
    leaving = sym (ap (λ (o : Option PathFact). option_map_or (leaves_by resv.link) o false) known) ∙ leaving_on

    down : is_up facts.up resv.link ≡ false
    down = ap (is_up facts.up) on ∙ down_then

    pub falls : find key_cmp key (filter (stands facts) before.resvs) ≡ None
    falls = falls_down r s (held_with_facts r before facts is.held is.held.each) key resv reserved down

    -- It is reserved no more.
    pub resv_goes : find key_cmp key after.resvs ≡ None
    unfolding repaired repairs_left
    resv_goes = ap (λ (t : State). find key_cmp key t.resvs) came ∙ falls

    abbrev given : Option Assignment
    given = find key_cmp key p.assignments

    abbrev IsRepairedAsSelected : Type 0
    IsRepairedAsSelected = find key_cmp key after.repairs ≡ option_map (repair_with resv) (bypass_for r after key path resv)

    same_choice : (o : Option Selected) → selected (around_of r p) key path given resv ≡ o → find key_cmp key after.assignments ≡ given → bypass_for r after key path resv ≡ o
    same_choice o selects same = (λ i. selected (same_around i) key path (same i) resv) ∙ selects

    -- where a bypass is selected
    module _ (choice : Selected) (selects : selected (around_of r p) key path given resv ≡ Some choice) where
      way : IsWay r p choice
      unfolding selected
      way = subst (λ (o : Option Selected). IfSome o (IsWay r p)) selects (find-holds (IsWay r p) (may_serve given) (candidates_of (around_of r p) key path resv) (candidates-are r p may.bypasses key path resv))

      stood : repair_stands r (resvs_left (repaired r p)) (key, repair_with resv choice) ≡ true
      unfolding repaired bypass_tunnels_of
      stood =
          ap (λ (b : Bool). b && option_map_or (leaves_by resv.link) (find key_cmp key before.facts.paths) false)
          (ap (λ (tunnels : List (ℕ × BypassTunnel)). is_some (over_at tunnels choice.bypass)) (tunnels-left r s may.resvs) ∙ way.up)
          ∙ leaving_on

      left_repair : find key_cmp key left.repairs ≡ Some (repair_with resv choice)
      unfolding repairs_left
      left_repair =
          passes_filter (repair_stands r (resvs_left (repaired r p))) key (repair_with resv choice) (repaired r p).repairs (repairs_sorted r s may)
          (new_repair r p may.resvs key resv (repair_with resv choice) reserved (repaired_lost r p key resv path choice known leaving down selects)) stood

      held : is_held left key ≡ true
      unfolding repaired repairs_left
      held = ap (λ (o : Option ResvFact). is_some o || is_some (find key_cmp key left.repairs)) falls ∙ ap is_some left_repair

      same_given : find key_cmp key after.assignments ≡ given
      unfolding repaired repairs_left
      same_given = ap (λ (t : State). find key_cmp key t.assignments) came ∙ find-touched key_cmp key_total key_exact (is_held left) key p.assignments held

      -- It is repaired over that one, and is promised what it was promised anew.
      pub repaired_over : (find key_cmp key after.repairs ≡ Some (repair_with resv choice)) × (find key_cmp key after.assignments ≡ given)
      repaired_over = (ap (λ (t : State). find key_cmp key t.repairs) came ∙ left_repair, same_given)

      goes_on : IsRepairedAsSelected
      goes_on = ap (λ (t : State). find key_cmp key t.repairs) came ∙ left_repair ∙ sym (ap (option_map (repair_with resv)) (same_choice (Some choice) selects same_given))

    -- where none is
    module _ (selects : selected (around_of r p) key path given resv ≡ None) where
      never : (repair : Repair) → find key_cmp key (repaired r p).repairs ≡ Some repair → ⊥
      never repair found =
          ⊎_elim
          (λ (old : find key_cmp key before.repairs ≡ Some repair). let e = sym (of_found (λ (repair : Key × Repair). find key_cmp repair.0 before.resvs ≡ None) key repair before.repairs is.repaired.apart old) ∙ reserved in cc)
          new (old_or_new r p may.resvs key repair found)
        where
          new : IsNewRepair r p may.resvs key repair → ⊥
          new is_new =
              let was = lost r p key is_new.resv repair is_new.made in
              let same_resv = same_Some resv is_new.resv (sym reserved ∙ is_new.reserved) in
              let same_path = same_Some path was.path (sym known ∙ was.known) in
              let e = sym selects ∙ (λ i. selected (around_of r p) key (same_path i) given (same_resv i)) ∙ was.selects in cc

      none_left : find key_cmp key left.repairs ≡ None
      unfolding repairs_left
      none_left = by (find key_cmp key left.repairs) refl
        where
          by : (o : Option Repair) → find key_cmp key left.repairs ≡ o → o ≡ None
          by None at = refl
          by (Some repair) at = absurd (never repair (found_filter (repair_stands r (resvs_left (repaired r p))) key repair (repaired r p).repairs (repairs_sorted r s may) at).1)

      none_given : given ≡ None
      none_given = by given refl
        where
          by : (o : Option Assignment) → given ≡ o → o ≡ None
          by None at = refl
          by (Some promise) at =
              ⊎_elim (λ (is : IsRepairedSo r s may key promise). absurd (never is.repair is.found))
              (λ (is : IsReservedSo r s may key promise). absurd (let e = sym falls ∙ is.found in cc)) (holder r s may key promise at)

      same_none : find key_cmp key after.assignments ≡ given
      unfolding repaired repairs_left
      same_none = ap (λ (t : State). find key_cmp key t.assignments) came ∙ by (find key_cmp key (assignments_left left).assignments) refl ∙ sym none_given
        where
          by : (o : Option Assignment) → find key_cmp key (assignments_left left).assignments ≡ o → o ≡ None
          by None at = refl
          by (Some promise) at = absurd (let e = sym none_given ∙ (found_where (is_held left) key promise p.assignments at).1 in cc)

      goes : IsRepairedAsSelected
      goes = ap (λ (t : State). find key_cmp key t.repairs) came ∙ none_left ∙ sym (ap (option_map (repair_with resv)) (same_choice None selects same_none))

    -- It is repaired over the bypass that is selected, and not where none is.
    pub repair_as_selected : IsRepairedAsSelected
    repair_as_selected = by (selected (around_of r p) key path given resv) refl
      where
        by : (o : Option Selected) → selected (around_of r p) key path given resv ≡ o → IsRepairedAsSelected
        by None selects = goes selects
        by (Some choice) selects = goes_on choice selects

    -- The repair is new, and each origin is told, where the link to it is up.
    is_new : (repair : Repair) → find key_cmp key after.repairs ≡ Some repair → find key_cmp key (new_repairs r p) ≡ Some repair
    unfolding repairs_left new_repairs
    is_new repair found =
        let at = found_filter (repair_stands r (resvs_left (repaired r p))) key repair (repaired r p).repairs (repairs_sorted r s may) (ap (λ (t : State). find key_cmp key t.repairs) (sym came) ∙ found) in
        find-made key_cmp key_total key_exact (λ resv. repair_of r p resv) key before.resvs is.held.in_order
        ∙ ⊎_elim (λ (old : find key_cmp key before.repairs ≡ Some repair). absurd (let e = sym (of_found (λ (repair : Key × Repair). find key_cmp repair.0 before.resvs ≡ None) key repair before.repairs is.repaired.apart old) ∙ reserved in cc))
        (λ (new : IsNewRepair r p may.resvs key repair). ap (option_and_then (λ (resv : ResvFact). repair_of r p (key, resv))) new.reserved ∙ new.made) (old_or_new r p may.resvs key repair at.1)

    pub origin_told : (repair : Repair) (output : Output) → find key_cmp key after.repairs ≡ Some repair → Contains (told_upstream (place_of r after.facts) key path (Some path.tspec) (found_here r locally_repaired)) output → is_up after.facts.up output.link ≡ true → Contains made.outputs output
    unfolding outputs_of told_repaired repaired repairs_left
    origin_told repair output found told up =
        let same_place : place_of r after.facts ≡ place_of r s.facts = λ i. record { router = r; up = (came i).facts.up; routes = (came i).facts.routes } in
        let of_path = subst (λ (place : Place). Contains (told_upstream place key path (Some path.tspec) (found_here r locally_repaired)) output) same_place told in
        let among = Contains-found (told_of r p) key repair output (new_repairs r p) (is_new repair found)
        (subst (λ (o : Option PathFact). Contains (option_map_or (λ path. told_upstream (place_of r s.facts) key path (Some path.tspec) (found_here r locally_repaired)) o []) output) (sym known) of_path) in
        let errors = errors_out after.facts.up (told_repaired r p) in
        subst (λ outputs. Contains outputs output) (sym sent_then)
        (Contains-append_left (errors ++ between item_cmp (tear_for after.facts.up) (items_of r before) (items_of r after) ++ between upstream_cmp (tear_for after.facts.up) (upstream_of r before) (upstream_of r after) ++ between item_cmp (send_for item_cmp []) (items_of r after) (items_of r before)) _ output
        (Contains-append_left (errors ++ between item_cmp (tear_for after.facts.up) (items_of r before) (items_of r after) ++ between upstream_cmp (tear_for after.facts.up) (upstream_of r before) (upstream_of r after)) _ output
        (Contains-append_left (errors ++ between item_cmp (tear_for after.facts.up) (items_of r before) (items_of r after)) _ output
        (Contains-append_left errors _ output (Contains-filter (λ (output : Output). is_up after.facts.up output.link) (told_repaired r p) output up among)))))

  -- ---- who is told

  -- a link that was up, and is down now, is the one that went down
  on_lost : (link : ℕ) → is_up before.facts.up link ≡ true → is_up facts.up link ≡ false → link ≡ n
  unfolding is_up
  on_lost link was down = elim (cases_eq link n) as (λ c. link ≡ n) [
    | inl same ↦ same
    | inr other ↦ absurd (let e = sym was ∙ sym (ap (λ o. option_map_or (λ is. is) o false) (find-put_apart nat_cmp nat_cmp_total exact_unsigned link n false before.facts.up other)) ∙ down in cc)
  ]

  -- a PathErr tells of a repair
  abbrev pub Tells : Output → Type 0
  Tells output = says is_path_err output ≡ true → TellsOfRepair r before after n output

  new_tells : (new : Key × Repair) → find key_cmp new.0 (new_repairs r p) ≡ Some new.1 → AllByRecursion Tells (told_of r p new)
  unfolding new_repairs repaired repairs_left
  new_tells new found =
      let key = new.0 in
      let of = made_of (λ (resv : ResvFact). repair_of r p (key, resv)) (find key_cmp key before.resvs) new.1 (sym (find-made key_cmp key_total key_exact (λ resv. repair_of r p resv) key before.resvs is.held.in_order) ∙ found) in
      let resv : ResvFact = of.0 in
      let went = lost r p key resv new.1 of.2 in
      let stood : stands before.facts (key, resv) ≡ true = of_found (λ resv. stands before.facts resv ≡ true) key resv before.resvs is.standing of.1 in
      let on = on_lost resv.link (and_parts (is_up before.facts.up resv.link) (option_map_or (leaves_by resv.link) (find key_cmp key before.facts.paths) false) stood).0 went.down in
      let repairs : find key_cmp key after.repairs ≡ Some new.1 = ap (λ (t : State). find key_cmp key t.repairs) came ∙ left_repair key resv went.path of.1 went.known on went.choice went.selects ∙ sym (ap Some went.made_with) in
      let same_place : place_of r after.facts ≡ place_of r s.facts = λ i. record { router = r; up = (came i).facts.up; routes = (came i).facts.routes } in
      let told = λ (place : Place). told_upstream place key went.path (Some went.path.tspec) (found_here r locally_repaired) in
      subst (λ (o : Option PathFact). AllByRecursion Tells (option_map_or (λ path. told_upstream (place_of r s.facts) key path (Some path.tspec) (found_here r locally_repaired)) o [])) (sym went.known)
      (all-weaker (Contains (told (place_of r s.facts))) Tells
      (λ output there err. record { key = key; resv = resv; path = went.path; repair = new.1; reserved = of.1; on = on; known = went.known; repaired = repairs; told = subst (λ place. Contains (told place) output) (sym same_place) there })
      (told (place_of r s.facts)) (recursion_from_All (Contains (told (place_of r s.facts))) (told (place_of r s.facts)) (All-contains_itself (told (place_of r s.facts)))))

  all_new : AllByRecursion (λ (new : Key × Repair). find key_cmp new.0 (new_repairs r p) ≡ Some new.1) (new_repairs r p)
  unfolding new_repairs
  all_new = all_found key_cmp key_total (new_repairs r p) (is_sorted-made key_cmp key_total key_exact (repair_of r p) before.resvs is.held.in_order)

  repairs_tell : AllByRecursion Tells (told_repaired r p)
  unfolding told_repaired
  repairs_tell = all-flat_map_within Tells (told_of r p) (new_repairs r p) (all-weaker (λ (new : Key × Repair). find key_cmp new.0 (new_repairs r p) ≡ Some new.1) (λ new. AllByRecursion Tells (told_of r p new)) new_tells (new_repairs r p) all_new)

  -- A PathErr goes to nobody else.
  pub only_told : All Tells made.outputs
  only_told =
      All-from_recursion Tells made.outputs
      (subst (AllByRecursion Tells) (sym sent_then)
      (outputs-hold Tells r before (told_repaired r p) [] [] after repairs_tell (λ output tear err. absurd (let e = sym err ∙ tear_no_err output tear.1 in cc))
      (all-weaker IsRowOfState (λ row. Tells row.1) (λ row state err. absurd (let e = sym err ∙ state_no_err row.1 state.0 in cc)) (items_of r after) (items-state r after))
      (all-weaker IsRowOfState (λ row. Tells row.1) (λ row state err. absurd (let e = sym err ∙ state_no_err row.1 state.0 in cc)) (upstream_of r after) (resvs-state r after))))

  -- ---- labels

  -- The label of an LSP that is repaired is swapped and pushed.
  pub swaps_and_pushes : (key : Key) (repair : Repair) (label : ℕ) → find key_cmp key after.repairs ≡ Some repair → find key_cmp key before.labels ≡ Some label
      → (over : Over) × (over_at (bypass_tunnels_of r after) repair.bypass ≡ Some over) × (look r after label ≡ Some (SwapPush repair.resv.label over.label over.link))
  unfolding repaired repairs_left
  swaps_and_pushes key repair label found held =
      let path = label_of_path r before is key label held in
      let known : find key_cmp key after.facts.paths ≡ Some path.0 = ap (λ (t : State). find key_cmp key t.facts.paths) came ∙ path.1 in
      look_repaired r after (sound_step r before made after router is x) key label (label_stays r before after made key label router is x path.0 held known path.2) repair found

-- Of an LSP that was reserved on the link, which was up: so it is one of the router's.
pub lost_repaired : (r : Router) (before after : State) (made : Made) (n : ℕ) (key : Key) (resv : ResvFact) (path : PathFact) → IsRouter r → IsSound r before → AreSettled r before → Step r before made after → made.event ≡ events.LinkDown n
    → find key_cmp key before.resvs ≡ Some resv → resv.link ≡ n → find key_cmp key before.facts.paths ≡ Some path
    → (find key_cmp key after.resvs ≡ None) × (find key_cmp key after.repairs ≡ option_map (repair_with resv) (bypass_for r after key path resv))
lost_repaired r before after made n key resv path router is rests x event reserved on known =
    let stood : stands before.facts (key, resv) ≡ true = of_found (λ resv. stands before.facts resv ≡ true) key resv before.resvs is.standing reserved in
    let up = (and_parts (is_up before.facts.up resv.link) (option_map_or (leaves_by resv.link) (find key_cmp key before.facts.paths) false) stood).0 in
    let there = up_known r before n is (ap (is_up before.facts.up) (sym on) ∙ up) in
    (resv_goes r before after made n router is rests there x event key resv path reserved known on, repair_as_selected r before after made n router is rests there x event key resv path reserved known on)

-- Where no bypass is selected for it, it is neither reserved nor repaired.
pub lost_unrepaired : (r : Router) (before after : State) (made : Made) (n : ℕ) (key : Key) (resv : ResvFact) (path : PathFact) → IsRouter r → IsSound r before → AreSettled r before → Step r before made after → made.event ≡ events.LinkDown n
    → find key_cmp key before.resvs ≡ Some resv → resv.link ≡ n → find key_cmp key before.facts.paths ≡ Some path → bypass_for r after key path resv ≡ None
    → (find key_cmp key after.resvs ≡ None) × (find key_cmp key after.repairs ≡ None)
lost_unrepaired r before after made n key resv path router is rests x event reserved on known none =
    let goes = lost_repaired r before after made n key resv path router is rests x event reserved on known in
    (goes.0, goes.1 ∙ ap (option_map (repair_with resv)) none)
