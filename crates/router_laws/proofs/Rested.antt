-- A label that was freed isn't given again before its rest is over.
use Rattle.std.specs.Prelude.{◌≡◌, ◌≢◌, ◌⊎◌, ℕ, ◌+◌, ◌≤◌, ◌&&◌, nat_lt, Bool, true, false, cond, if◌then◌else◌, T, List, [], ◌∷◌, Some}
use Rattle.std.specs.Bool.{then_some}
use Rattle.std.specs.FinMap.Entries.{find, is_sorted}
use Rattle.std.specs.List.{AllByRecursion}
use Rattle.std.specs.Option.{option_and_then}
use Rattle.std.specs.Ordering.{nat_cmp}
use Rattle.std.proofs.Common.{refl, sym, ap, subst, ◌∙◌, inl, inr, arith}
use Rattle.std.proofs.lemmas.Bool.{both_ways, ltb-false}
use Rattle.lsr_facts.specs.Orders.{key_cmp}
use Rattle.lsr_facts.specs.Routers.{IsRouter}
use Rattle.lsr_facts.specs.declared.key.Key.{Key}
use Rattle.lsr_facts.specs.declared.path_fact.PathFact.{PathFact}
use Rattle.lsr_facts.specs.declared.router.Router.{Router}
use Rattle.label_space.specs.BindingLaws.{free-awake, held-found, held-key, unheld-not_found}
use Rattle.label_space.specs.FreeLabels.{is_held}
use Rattle.label_space.specs.RestLaws.{is_one_of}
use Rattle.label_space.specs.Rests.{rested, resting_past}
use Rattle.abstract_paths.specs.declared.events.Event.{Event}
use Rattle.abstract_paths.specs.declared.events.Event.TheVariants as events
use Rattle.abstract_paths.specs.declared.events.Made.{Made}
use Rattle.router_soundness.proofs.Drafting.{outcome-leaves}
use Rattle.router_soundness.proofs.Labelling.{is_sorted-labels_after}
use Rattle.router_soundness.proofs.Resting.{find-past, find-rested, freed_is, held_is, holds_on, is_freed, labels_in_order, rests_after, rests_unheld}
use Rattle.router_soundness.proofs.Running.{sound_run, sound_step}
use Rattle.router_soundness.proofs.Settling.{LeavesBy}
use Rattle.router_soundness.proofs.Silence.{silent_keeps}
use Rattle.router_soundness.proofs.TakingOver.{standing_taken}
use Rattle.router_soundness.specs.Drafted.{IsDrafted}
use Rattle.abstract_router.specs.Arrivals.{outcome}
use Rattle.abstract_router.specs.Labels.{IsLabelling, MayBeGiven, freed, is_labelled, labels_after}
use Rattle.abstract_router.specs.Outcomes.{Outcome}
use Rattle.abstract_router.specs.Repairing.{repaired, repairs_left}
use Rattle.abstract_router.specs.Soundness.{IsSound}
use Rattle.abstract_router.specs.States.{State}
use Rattle.abstract_router.specs.Steps.{MayChooseBy, Run, Step, known_after, settled, taken_over, with_moments}
use Rattle.router_laws.specs.Words.{IsNoRestart}

-- ---- what a step makes of labels

-- A silent one leaves them, and the moment.
pub record KeepsLabels (before after : State) : Type 0 where
  pub moment : after.facts.moment ≡ before.facts.moment
  pub labels : after.labels ≡ before.labels
  pub resting : after.resting ≡ before.resting

-- Another one gives labels to LSPs by their paths, and those that it frees rest from its moment on.
pub record GivesLabels (r : Router) (before after : State) : Type 0 where
  pub paths : List (Key × PathFact)
  pub chosen : List (Key × ℕ)
  pub in_order : T (is_sorted key_cmp paths)
  pub may : AllByRecursion (λ row. MayBeGiven r before.labels before.resting row.1) chosen
  pub later : before.facts.moment ≤ after.facts.moment
  pub labels : after.labels ≡ labels_after before.labels chosen paths
  pub resting : after.resting ≡ rests_after r.label_rest_ms after.facts.moment before paths
  pub known : after.facts.paths ≡ paths

-- A restart takes all.
abbrev pub MovesLabels : Router → State → State → Type 0
MovesLabels r before after = KeepsLabels before after ⊎ GivesLabels r before after

module _ (r : Router) (before : State) where
  -- what an event that isn't silent leads to
  given_by : (o : Outcome) (chosen : List (Key × ℕ)) → IsDrafted r before o.after → IsLabelling r before o.after.facts.paths chosen → GivesLabels r before (with_moments r before o (settled r chosen o.after))
  unfolding taken_over repaired repairs_left
  given_by o chosen drafted may =
      let paths = (taken_over r o.after).facts.paths in
      record {
        paths = paths;
        chosen = chosen;
        in_order = (standing_taken r o.after drafted.paths).paths.in_order;
        may = may.given;
        later = drafted.later;
        labels = ap (λ labels. labels_after labels chosen paths) drafted.labels;
        resting = λ i. rested o.after.facts.moment (o.after.facts.moment + r.label_rest_ms) (freed (drafted.labels i) paths) (drafted.resting i);
        known = refl;
      }

  -- what a silent one leaves, but for a restart
  kept_by : (event : Event) → event ≢ events.Restart → (before.facts.cold ≡ true → event ≡ events.Start) → (outcome r before event).is_silent ≡ true → KeepsLabels before (outcome r before event).after
  kept_by event other awake silent = by before.facts.cold refl
    where
      by : (cold : Bool) → before.facts.cold ≡ cold → KeepsLabels before (outcome r before event).after
      by true is = subst (λ e. KeepsLabels before (outcome r before e).after) (sym (awake is)) (record { moment = refl; labels = refl; resting = refl })
      by false runs = subst (KeepsLabels before) (sym (silent_keeps r before event runs other silent)) (record { moment = refl; labels = refl; resting = refl })

  -- A step that is no restart.
  pub moves_labels : (made : Made) (after : State) → IsRouter r → IsSound r before → Step r before made after → IsNoRestart made → MovesLabels r before after
  moves_labels made after router is x other =
      let o = outcome r before made.event in
      subst (MovesLabels r before) (sym x.changed) (by o o.is_silent (outcome-leaves r before made.event router is x.possible x.awake) x.chosen (kept_by made.event other x.awake))
    where
      by : (o : Outcome) (silent : Bool) → LeavesBy r before silent o.after → MayChooseBy silent r before o.after.facts.paths made.labels → (silent ≡ true → KeepsLabels before o.after)
          → MovesLabels r before (if silent then o.after else with_moments r before o (settled r made.labels o.after))
      by o true sound may keeps = inl (keeps refl)
      by o false drafted may keeps = inr (given_by o made.labels drafted may)

-- After a restart no LSP holds a label.
restart_takes : (r : Router) (before : State) (made : Made) (after : State) (label : ℕ) → Step r before made after → made.event ≡ events.Restart → is_held after.labels label ≡ false
restart_takes r before made after label x is =
    ap (λ (s : State). is_held s.labels label) (x.changed ∙ ap (λ event. known_after r before made.labels (outcome r before event)) is)

-- neither, where the second test fails
neither : {A : Type 0} (b : Bool) (x y : A) → cond (b && false) x y ≡ y
neither true x y = refl
neither false x y = refl

-- ---- a label that was freed

module _ (r : Router) (label at : ℕ) where
  -- Its rest is over, or no LSP holds it and it rests.
  abbrev pub IsAfter : State → Type 0
  IsAfter s = (at + r.label_rest_ms ≤ s.facts.moment) ⊎ ((is_held s.labels label ≡ false) × (find nat_cmp label s.resting ≡ Some (at + r.label_rest_ms)))

  module _ (before after : State) (is : IsSound r before) where
    -- Each step keeps it so,
    still_after : MovesLabels r before after → IsAfter before → IsAfter after
    still_after (inl keeps) (inl over) = inl (omega (arith, over, keeps.moment))
    still_after (inl keeps) (inr rests) = inr (ap (λ labels. is_held labels label) keeps.labels ∙ rests.0, ap (find nat_cmp label) keeps.resting ∙ rests.1)
    still_after (inr gives) (inl over) = inl (omega (arith, over, gives.later))
    still_after (inr gives) (inr rests) = by (nat_lt after.facts.moment until) refl
      where
        until : ℕ
        until = at + r.label_rest_ms

        none_freed : (b : Bool) → is_one_of (freed before.labels gives.paths) label ≡ b → b ≡ false
        none_freed true goes =
            let gone = freed_is before.labels gives.paths label (labels_in_order r before is.labels is.paths.paths.in_order) goes in
            absurd (unheld-not_found before.labels label rests.0 gone.key gone.held)
        none_freed false stays = refl

        by : (b : Bool) → nat_lt after.facts.moment until ≡ b → IsAfter after
        by true later =
            let past = resting_past after.facts.moment before.resting in
            inr (
              ap (λ labels. is_held labels label) gives.labels ∙ rests_unheld r before gives.chosen gives.paths gives.in_order gives.may label until rests.1 rests.0,
              ap (find nat_cmp label) gives.resting
                  ∙ find-rested r.label_rest_ms after.facts.moment before gives.paths label
                  ∙ ap (λ b. cond (nat_lt after.facts.moment (after.facts.moment + r.label_rest_ms) && b) (Some (after.facts.moment + r.label_rest_ms)) (find nat_cmp label past)) (none_freed (is_one_of (freed before.labels gives.paths) label) refl)
                  ∙ neither (nat_lt after.facts.moment (after.facts.moment + r.label_rest_ms)) (Some (after.facts.moment + r.label_rest_ms)) (find nat_cmp label past)
                  ∙ find-past r.label_rest_ms after.facts.moment before gives.paths is.resting.in_order label
                  ∙ ap (option_and_then (λ until. then_some (nat_lt after.facts.moment until) until)) rests.1
                  ∙ ap (λ b. then_some b until) later,
            )
        by false over = inl (ltb-false after.facts.moment until over)

    -- and once it is given, its rest is over.
    given_after : IsAfter before → MovesLabels r before after → is_held before.labels label ≡ false → is_held after.labels label ≡ true → at + r.label_rest_ms ≤ before.facts.moment
    given_after (inl over) moves unheld held = over
    given_after (inr rests) (inl keeps) unheld held = absurd (both_ways (is_held before.labels label) unheld (sym (ap (λ labels. is_held labels label) keeps.labels) ∙ held))
    given_after (inr rests) (inr gives) unheld held =
        let holder = held-key (labels_after before.labels gives.chosen gives.paths) label (is_sorted-labels_after before.labels gives.chosen gives.paths gives.in_order) (sym (ap (λ labels. is_held labels label) gives.labels) ∙ held) in
        absurd (by holder.0 (held_is r before gives.chosen gives.paths gives.in_order gives.may holder.0 label holder.1).is)
      where
        by : (key : Key) → (find key_cmp key before.labels ≡ Some label) ⊎ MayBeGiven r before.labels before.resting label → ⊥
        by key (inl was) = unheld-not_found before.labels label unheld key was
        by key (inr may) = absurd (let e = sym (free-awake before.labels before.resting label may.free) ∙ rests.1 in cc)

  -- Steps keep it so, one after the other.
  run_after : (run : List Made) (before after : State) → IsRouter r → IsSound r before → Run r before run after → AllByRecursion IsNoRestart run → IsAfter before → IsAfter after
  run_after [] before after router is ran other rests = subst IsAfter (sym ran) rests
  run_after (made ∷ run) before after router is ran other rests =
      run_after run ran.0 after router (sound_step r before made ran.0 router is ran.1) ran.2 other.1 (still_after before ran.0 is (moves_labels r before made ran.0 router is ran.1 other.0) rests)

-- A label that a step frees rests from its moment on.
module _ (r : Router) (before after : State) (label : ℕ) (is : IsSound r before) where
  freed_after : MovesLabels r before after → is_held before.labels label ≡ true → is_held after.labels label ≡ false → IsAfter r label after.facts.moment after
  freed_after (inl keeps) held lost = absurd (both_ways (is_held after.labels label) lost (ap (λ labels. is_held labels label) keeps.labels ∙ held))
  freed_after (inr gives) held lost =
      let holder = held-key before.labels label (labels_in_order r before is.labels is.paths.paths.in_order) held in
      by holder.0 holder.1 (is_labelled gives.paths holder.0) refl
    where
      rests : (key : Key) → find key_cmp key before.labels ≡ Some label → is_labelled gives.paths key ≡ false → (b : Bool) → nat_lt after.facts.moment (after.facts.moment + r.label_rest_ms) ≡ b → IsAfter r label after.facts.moment after
      rests key found goes true later =
          let past = find nat_cmp label (resting_past after.facts.moment before.resting) in
          let gone = is_freed before.labels gives.paths label (labels_in_order r before is.labels is.paths.paths.in_order) (record { key = key; held = found; goes = goes }) in
          inr (
            lost,
            ap (find nat_cmp label) gives.resting
                ∙ find-rested r.label_rest_ms after.facts.moment before gives.paths label
                ∙ ap (λ b. cond (b && is_one_of (freed before.labels gives.paths) label) (Some (after.facts.moment + r.label_rest_ms)) past) later
                ∙ ap (λ b. cond b (Some (after.facts.moment + r.label_rest_ms)) past) gone,
          )
      rests key found goes false none = inl (ltb-false after.facts.moment (after.facts.moment + r.label_rest_ms) none)

      by : (key : Key) → find key_cmp key before.labels ≡ Some label → (b : Bool) → is_labelled gives.paths key ≡ b → IsAfter r label after.facts.moment after
      by key found true stays =
          absurd (both_ways (is_held after.labels label) lost (ap (λ labels. is_held labels label) gives.labels ∙ held-found (labels_after before.labels gives.chosen gives.paths) label key (holds_on r before gives.chosen gives.paths gives.in_order gives.may key label found stays)))
      by key found false goes = rests key found goes (nat_lt after.facts.moment (after.facts.moment + r.label_rest_ms)) refl

-- what happened is a restart, or it isn't
pub cases_restart : (event : Event) → (event ≡ events.Restart) ⊎ (event ≢ events.Restart)
cases_restart events.Restart = inl refl
cases_restart (events.Arrive a) = inr (λ e. cc)
cases_restart (events.Relay m) = inr (λ e. cc)
cases_restart (events.Tick n) = inr (λ e. cc)
cases_restart (events.LinkUp number) = inr (λ e. cc)
cases_restart (events.LinkDown number) = inr (λ e. cc)
cases_restart (events.Command c) = inr (λ e. cc)
cases_restart events.Start = inr (λ e. cc)

-- A label that is freed at one step and given at a later one was free for the rest.
pub labels_rest : (r : Router) (before lost last after : State) (freeing giving : Made) (run : List Made) (label : ℕ) → IsRouter r → IsSound r before → Step r before freeing lost → Run r lost run last → Step r last giving after
    → AllByRecursion IsNoRestart (freeing ∷ run) → is_held before.labels label ≡ true → is_held lost.labels label ≡ false → is_held last.labels label ≡ false → is_held after.labels label ≡ true
    → lost.facts.moment + r.label_rest_ms ≤ last.facts.moment
labels_rest r before lost last after freeing giving run label router is first ran second other held gone unheld given = by (cases_restart giving.event)
  where
    sound_lost : IsSound r lost
    sound_lost = sound_step r before freeing lost router is first

    sound_last : IsSound r last
    sound_last = sound_run r lost run last router sound_lost ran

    rests : IsAfter r label lost.facts.moment last
    rests = run_after r label lost.facts.moment run lost last router sound_lost ran other.1 (freed_after r before lost label is (moves_labels r before freeing lost router is first other.0) held gone)

    by : (giving.event ≡ events.Restart) ⊎ (giving.event ≢ events.Restart) → lost.facts.moment + r.label_rest_ms ≤ last.facts.moment
    by (inl restarts) = absurd (both_ways (is_held after.labels label) (restart_takes r last giving after label second restarts) given)
    by (inr runs) = given_after r label lost.facts.moment last after sound_last rests (moves_labels r last giving after router sound_last second runs) unheld given
