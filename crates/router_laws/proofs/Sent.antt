-- What is new, changed or wanted no more is told.
use Rattle.std.specs.Prelude.{◌≡◌, ◌≢◌, ◌&&◌, ◌++◌, ◌⊎◌, ℕ, not, Bool, true, false, if◌then◌else◌, List, [], Some, None}
use Rattle.std.specs.FinMap.Entries.{find}
use Rattle.std.specs.List.{Contains}
use Rattle.std.specs.Option.{option_map, option_map_or, unwrap_or}
use Rattle.std.specs.declared.cmp.Ordering.{Ordering}
use Rattle.std.specs.declared.cmp.Ordering.TheVariants.{Equal}
use Rattle.std.proofs.Common.{refl, ap, sym, subst, inl, inr, ◌∙◌}
use Rattle.std.proofs.lemmas.Cmp.{nat_list_eq_equiv}
use Rattle.std.proofs.lemmas.List.Elements.{Contains-append_left, Contains-append_right}
use Rattle.lsr_facts.specs.OrderLaws.{item_exact}
use Rattle.lsr_facts.specs.Orders.{item_cmp}
use Rattle.lsr_facts.specs.UpstreamOrder.{upstream_exact}
use Rattle.lsr_facts.specs.Upstreams.{upstream_cmp}
use Rattle.lsr_facts.specs.declared.key.Item.{Item}
use Rattle.lsr_facts.specs.declared.router.Router.{Router}
use Rattle.lsr_facts.specs.declared.upstream.Upstream.{Upstream}
use Rattle.abstract_paths.specs.declared.events.Event.{Event}
use Rattle.abstract_paths.specs.declared.events.Event.TheVariants as events
use Rattle.abstract_paths.specs.declared.events.Made.{Made}
use Rattle.abstract_paths.specs.declared.events.Output.{Output}
use Rattle.abstract_paths.specs.Frames.{frame_bytes}
use Rattle.abstract_paths.specs.Outputs.{between, errors_out, is_due, is_same_frame, rests, send_for, tear_by, tear_for}
use Rattle.abstract_paths.specs.Places.{is_up}
use Rattle.abstract_paths.specs.StampLaws.{find-stamps}
use Rattle.abstract_paths.specs.Stamps.{stamp, stamps}
use Rattle.abstract_router.specs.Arrivals.{outcome}
use Rattle.abstract_router.specs.BypassTunnels.{bypass_tunnels_of}
use Rattle.abstract_router.specs.Lsps.{lsps_of}
use Rattle.abstract_router.specs.Outcomes.{Outcome}
use Rattle.abstract_router.specs.Outputs.{item_stamps, outputs_of, upstream_stamps}
use Rattle.abstract_router.specs.Repairing.{told_repaired}
use Rattle.abstract_router.specs.States.{State}
use Rattle.abstract_router.specs.Steps.{Step, promised, settled, with_moments}
use Rattle.abstract_router.specs.Upstreams.{upstream_of}
use Rattle.abstract_router.specs.Wanted.{items_of}
use Rattle.router_soundness.proofs.Drafting.{runs_for}
use Rattle.router_soundness.proofs.Silence.{silent_keeps}
use Rattle.router_laws.specs.Sending.{is_news}
use Rattle.router_laws.proofs.Ticks.{found_among}

-- what is news doesn't rest, due or not
news_moves : (due same : Bool) → not same ≡ true → (not due && same) ≡ false
news_moves due true news = absurd (let e = news in cc)
news_moves true false news = refl
news_moves false false news = refl

-- Items of any kind.
module _ {I : Type 0} (cmp : I → I → Ordering) (exact : (a b : I) → cmp a b ≡ Equal → a ≡ b) where
  -- what others lack has its tear
  tear-among : (up : List (ℕ × Bool)) (was is : List (I × Output)) (item : I) (output tear : Output) → find cmp item was ≡ Some output → find cmp item is ≡ None → is_up up output.link ≡ true → tear_by output.link output.frame ≡ Some tear → Contains (between cmp (tear_for up) was is) tear
  tear-among up was is item output tear wanted gone goes torn =
      found_among cmp exact (λ row. tear_for up (find cmp row.0 is) row) item output tear was wanted
      (ap (λ o. tear_for up o (item, output)) gone ∙ ap (λ b. if b then tear_by output.link output.frame else None) goes ∙ torn)

  module _ (due : List I) (was is : List (I × Output)) (item : I) (output : Output) (wanted : find cmp item is ≡ Some output) (news : is_news (find cmp item was) output ≡ true) where
    moves : rests cmp due (find cmp item was) (item, output) ≡ false
    moves = news_moves (is_due cmp due item) (option_map_or (λ o. is_same_frame output.frame o.frame) (find cmp item was) false) news

    -- what is news is sent
    news-among : Contains (between cmp (send_for cmp due) is was) output
    news-among = found_among cmp exact (λ row. send_for cmp due (find cmp row.0 was) row) item output output is wanted (ap (λ b. if b then None else Some output) moves)

    -- and that is its moment
    news-moment : (sent : List (I × ℕ)) (now : ℕ) → find cmp item (stamps cmp due was sent now is) ≡ Some now
    news-moment sent now =
        find-stamps cmp exact due was sent now is item
        ∙ ap (option_map (λ o. stamp cmp due was sent now (item, o))) wanted
        ∙ ap (λ b. Some (if b then unwrap_or (find cmp item sent) now else now)) moves

  -- what is wanted as before is no news
  no_news : (rows : List (I × Output)) (item : I) (output : Output) → find cmp item rows ≡ Some output → is_news (find cmp item rows) output ≡ true → ⊥
  no_news rows item output wanted news = let e = sym news ∙ ap (λ o. is_news o output) wanted ∙ ap not (nat_list_eq_equiv.refl (frame_bytes output.frame)) in cc

-- ---- what a silent event leaves

-- what is wanted is the same
abbrev pub IsSame : Router → State → State → Type 0
IsSame r before after = (items_of r after ≡ items_of r before) × (upstream_of r after ≡ upstream_of r before)

-- nothing is wanted
abbrev pub WantsNothing : Router → State → Type 0
WantsNothing r s = (items_of r s ≡ []) × (upstream_of r s ≡ [])

module _ (r : Router) (s : State) where
  kept : (event : Event) → event ≢ events.Start → event ≢ events.Restart → (s.facts.cold ≡ true → event ≡ events.Start) → (outcome r s event).is_silent ≡ true → IsSame r s (outcome r s event).after ⊎ ((event ≡ events.Restart) × WantsNothing r (outcome r s event).after)
  kept event other stays awake silent =
      let same = silent_keeps r s event (runs_for s.facts.cold event other awake) stays silent in
      inl (ap (items_of r) same, ap (upstream_of r) same)

  silent_leaves : (event : Event) → (s.facts.cold ≡ true → event ≡ events.Start) → (outcome r s event).is_silent ≡ true → IsSame r s (outcome r s event).after ⊎ ((event ≡ events.Restart) × WantsNothing r (outcome r s event).after)
  unfolding items_of upstream_of lsps_of bypass_tunnels_of
  silent_leaves (events.Arrive a) = kept (events.Arrive a) (λ e. cc) (λ e. cc)
  silent_leaves (events.Relay m) = kept (events.Relay m) (λ e. cc) (λ e. cc)
  silent_leaves (events.Tick n) = kept (events.Tick n) (λ e. cc) (λ e. cc)
  silent_leaves (events.LinkUp number) = kept (events.LinkUp number) (λ e. cc) (λ e. cc)
  silent_leaves (events.LinkDown number) = kept (events.LinkDown number) (λ e. cc) (λ e. cc)
  silent_leaves (events.Command c) = kept (events.Command c) (λ e. cc) (λ e. cc)
  silent_leaves events.Restart = λ awake silent. inr (refl, (refl, refl))
  silent_leaves events.Start = λ awake silent. inl (refl, refl)

-- ---- a step

module _ (r : Router) (before after : State) (made : Made) (step : Step r before made after) where
  abbrev pub o : Outcome
  o = outcome r before made.event

  abbrev pub told : List Output
  told = o.errors ++ told_repaired r (promised r o.after)

  -- what is known after what follows from the event, but for when messages were sent
  unstamped : State
  unstamped = settled r made.labels o.after

  pub loud_sends : o.is_silent ≡ false → made.outputs ≡ outputs_of r before told o.due o.upstream_due after
  loud_sends loud = step.sent ∙ ap (λ b. if b then [] else outputs_of r before told o.due o.upstream_due after) loud

  loud_leaves : o.is_silent ≡ false → after ≡ with_moments r before o unstamped
  unfolding unstamped
  loud_leaves loud = step.changed ∙ ap (λ b. if b then o.after else with_moments r before o unstamped) loud

  silent_left : o.is_silent ≡ true → after ≡ o.after
  unfolding unstamped
  silent_left silent = step.changed ∙ ap (λ b. if b then o.after else with_moments r before o unstamped) silent

  abbrev pub tears : List Output
  tears = between item_cmp (tear_for after.facts.up) (items_of r before) (items_of r after)

  abbrev pub resv_tears : List Output
  resv_tears = between upstream_cmp (tear_for after.facts.up) (upstream_of r before) (upstream_of r after)

  abbrev pub sends : List Output
  sends = between item_cmp (send_for item_cmp o.due) (items_of r after) (items_of r before)

  abbrev pub resv_sends : List Output
  resv_sends = between upstream_cmp (send_for upstream_cmp o.upstream_due) (upstream_of r after) (upstream_of r before)

  abbrev pub front : List Output
  front = errors_out after.facts.up told

  -- what is among them is sent
  tears_sent : o.is_silent ≡ false → (output : Output) → Contains tears output → Contains made.outputs output
  unfolding outputs_of
  tears_sent loud output there =
      subst (λ outputs. Contains outputs output) (sym (loud_sends loud))
      (Contains-append_left (front ++ tears ++ resv_tears ++ sends) resv_sends output (Contains-append_left (front ++ tears ++ resv_tears) sends output (Contains-append_left (front ++ tears) resv_tears output (Contains-append_right front tears output there))))

  resv_tears_sent : o.is_silent ≡ false → (output : Output) → Contains resv_tears output → Contains made.outputs output
  unfolding outputs_of
  resv_tears_sent loud output there =
      subst (λ outputs. Contains outputs output) (sym (loud_sends loud))
      (Contains-append_left (front ++ tears ++ resv_tears ++ sends) resv_sends output (Contains-append_left (front ++ tears ++ resv_tears) sends output (Contains-append_right (front ++ tears) resv_tears output there)))

  sends_sent : o.is_silent ≡ false → (output : Output) → Contains sends output → Contains made.outputs output
  unfolding outputs_of
  sends_sent loud output there =
      subst (λ outputs. Contains outputs output) (sym (loud_sends loud)) (Contains-append_left (front ++ tears ++ resv_tears ++ sends) resv_sends output (Contains-append_right (front ++ tears ++ resv_tears) sends output there))

  resv_sends_sent : o.is_silent ≡ false → (output : Output) → Contains resv_sends output → Contains made.outputs output
  unfolding outputs_of
  resv_sends_sent loud output there = subst (λ outputs. Contains outputs output) (sym (loud_sends loud)) (Contains-append_right (front ++ tears ++ resv_tears ++ sends) resv_sends output there)

  -- An event that is silent leaves what is wanted, or nothing: then it is a restart.
  pub silent_wants : o.is_silent ≡ true → IsSame r before after ⊎ ((made.event ≡ events.Restart) × WantsNothing r after)
  silent_wants silent = subst (λ s. IsSame r before s ⊎ ((made.event ≡ events.Restart) × WantsNothing r s)) (sym (silent_left silent)) (silent_leaves r before made.event step.awake silent)

  -- either an event is silent, or it isn't
  pub by_silence : (P : Type 0) → (o.is_silent ≡ true → P) → (o.is_silent ≡ false → P) → P
  by_silence P silent loud = elim o.is_silent as (λ b. o.is_silent ≡ b → P) [ true ↦ silent | false ↦ loud ] refl

  -- A Path that is wanted no more is torn down.
  path_torn : (item : Item) (was tear : Output) → made.event ≢ events.Restart → find item_cmp item (items_of r before) ≡ Some was → find item_cmp item (items_of r after) ≡ None → is_up after.facts.up was.link ≡ true → tear_by was.link was.frame ≡ Some tear → Contains made.outputs tear
  path_torn item was tear runs wanted gone up torn =
      by_silence (Contains made.outputs tear)
      (λ silent. elim (silent_wants silent) [
        | inl same ↦ absurd (let e = sym wanted ∙ ap (find item_cmp item) (sym same.0) ∙ gone in cc)
        | inr restart ↦ absurd (runs restart.0)
      ])
      (λ loud. tears_sent loud tear (tear-among item_cmp item_exact after.facts.up (items_of r before) (items_of r after) item was tear wanted gone up torn))

  resv_torn : (upstream : Upstream) (was tear : Output) → made.event ≢ events.Restart → find upstream_cmp upstream (upstream_of r before) ≡ Some was → find upstream_cmp upstream (upstream_of r after) ≡ None → is_up after.facts.up was.link ≡ true → tear_by was.link was.frame ≡ Some tear → Contains made.outputs tear
  resv_torn upstream was tear runs wanted gone up torn =
      by_silence (Contains made.outputs tear)
      (λ silent. elim (silent_wants silent) [
        | inl same ↦ absurd (let e = sym wanted ∙ ap (find upstream_cmp upstream) (sym same.1) ∙ gone in cc)
        | inr restart ↦ absurd (runs restart.0)
      ])
      (λ loud. resv_tears_sent loud tear (tear-among upstream_cmp upstream_exact after.facts.up (upstream_of r before) (upstream_of r after) upstream was tear wanted gone up torn))

  -- A Path that is new or changed is sent.
  path_sent : (item : Item) (output : Output) → find item_cmp item (items_of r after) ≡ Some output → is_news (find item_cmp item (items_of r before)) output ≡ true → Contains made.outputs output × (find item_cmp item after.facts.sent ≡ Some after.facts.moment)
  unfolding item_stamps items_of lsps_of bypass_tunnels_of
  path_sent item output wanted news =
      by_silence (Contains made.outputs output × (find item_cmp item after.facts.sent ≡ Some after.facts.moment))
      (λ silent. elim (silent_wants silent) [
        | inl same ↦ absurd (no_news item_cmp item_exact (items_of r after) item output wanted (subst (λ rows. is_news (find item_cmp item rows) output ≡ true) (sym same.0) news))
        | inr restart ↦ absurd (let e = sym wanted ∙ ap (find item_cmp item) restart.1.0 in cc)
      ])
      (λ loud.
      let came = loud_leaves loud in (
        sends_sent loud output (news-among item_cmp item_exact o.due (items_of r before) (items_of r after) item output wanted news),
        ap (λ (s : State). find item_cmp item s.facts.sent) came
            ∙ news-moment item_cmp item_exact o.due (items_of r before) (items_of r unstamped) item output (subst (λ (s : State). find item_cmp item (items_of r s) ≡ Some output) came wanted) news before.facts.sent unstamped.facts.moment
            ∙ ap (λ (s : State). Some s.facts.moment) (sym came),
      ))

  resv_sent : (upstream : Upstream) (output : Output) → find upstream_cmp upstream (upstream_of r after) ≡ Some output → is_news (find upstream_cmp upstream (upstream_of r before)) output ≡ true → Contains made.outputs output × (find upstream_cmp upstream after.sent_upstream ≡ Some after.facts.moment)
  unfolding upstream_stamps upstream_of lsps_of bypass_tunnels_of
  resv_sent upstream output wanted news =
      by_silence (Contains made.outputs output × (find upstream_cmp upstream after.sent_upstream ≡ Some after.facts.moment))
      (λ silent. elim (silent_wants silent) [
        | inl same ↦ absurd (no_news upstream_cmp upstream_exact (upstream_of r after) upstream output wanted (subst (λ rows. is_news (find upstream_cmp upstream rows) output ≡ true) (sym same.1) news))
        | inr restart ↦ absurd (let e = sym wanted ∙ ap (find upstream_cmp upstream) restart.1.1 in cc)
      ])
      (λ loud.
      let came = loud_leaves loud in (
        resv_sends_sent loud output (news-among upstream_cmp upstream_exact o.upstream_due (upstream_of r before) (upstream_of r after) upstream output wanted news),
        ap (λ (s : State). find upstream_cmp upstream s.sent_upstream) came
            ∙ news-moment upstream_cmp upstream_exact o.upstream_due (upstream_of r before) (upstream_of r unstamped) upstream output (subst (λ (s : State). find upstream_cmp upstream (upstream_of r s) ≡ Some output) came wanted) news before.sent_upstream unstamped.facts.moment
            ∙ ap (λ (s : State). Some s.facts.moment) (sym came),
      ))

pub new_path : (r : Router) (before after : State) (made : Made) (item : Item) (output : Output) → Step r before made after → find item_cmp item (items_of r after) ≡ Some output → is_news (find item_cmp item (items_of r before)) output ≡ true → Contains made.outputs output × (find item_cmp item after.facts.sent ≡ Some after.facts.moment)
new_path r before after made item output step = path_sent r before after made step item output

pub new_resv : (r : Router) (before after : State) (made : Made) (upstream : Upstream) (output : Output) → Step r before made after → find upstream_cmp upstream (upstream_of r after) ≡ Some output → is_news (find upstream_cmp upstream (upstream_of r before)) output ≡ true → Contains made.outputs output × (find upstream_cmp upstream after.sent_upstream ≡ Some after.facts.moment)
new_resv r before after made upstream output step = resv_sent r before after made step upstream output

pub gone_path : (r : Router) (before after : State) (made : Made) (item : Item) (was tear : Output) → Step r before made after → made.event ≢ events.Restart → find item_cmp item (items_of r before) ≡ Some was → find item_cmp item (items_of r after) ≡ None → is_up after.facts.up was.link ≡ true → tear_by was.link was.frame ≡ Some tear → Contains made.outputs tear
gone_path r before after made item was tear step = path_torn r before after made step item was tear

pub gone_resv : (r : Router) (before after : State) (made : Made) (upstream : Upstream) (was tear : Output) → Step r before made after → made.event ≢ events.Restart → find upstream_cmp upstream (upstream_of r before) ≡ Some was → find upstream_cmp upstream (upstream_of r after) ≡ None → is_up after.facts.up was.link ≡ true → tear_by was.link was.frame ≡ Some tear → Contains made.outputs tear
gone_resv r before after made upstream was tear step = resv_torn r before after made step upstream was tear
