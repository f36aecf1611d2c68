-- Who loses a reservation to a Resv, and keeps its path, is told.
use Rattle.std.specs.Prelude.{◌≡◌, ◌⊎◌, ℕ, not, Bool, true, false, if◌then◌else◌, [], Option, Some, None, is_none}
use Rattle.std.specs.FinMap.Entries.{find}
use Rattle.std.specs.List.{Contains}
use Rattle.std.specs.Option.{option_map_or}
use Rattle.std.proofs.Common.{refl, sym, ap, ◌∙◌, inl, inr}
use Rattle.std.proofs.lemmas.Bool.{cond_both, not-false}
use Rattle.std.proofs.lemmas.List.Elements.{All-contains_itself, recursion_from_All}
use Rattle.rsvp_contents.specs.declared.messages.Content.TheVariants as contents
use Rattle.rsvp_contents.specs.declared.messages.Resv.{Resv}
use Rattle.lsr_facts.specs.Errors.{unknown_style}
use Rattle.lsr_facts.specs.Orders.{key_cmp}
use Rattle.lsr_facts.specs.Reservations.{style_of}
use Rattle.lsr_facts.specs.Routers.{link_at}
use Rattle.lsr_facts.specs.declared.errors.RsvpError.{RsvpError}
use Rattle.lsr_facts.specs.declared.key.Key.{Key}
use Rattle.lsr_facts.specs.declared.refusal.Refusal.TheVariants.{LinkDown, NoMatch, UnknownLink}
use Rattle.lsr_facts.specs.declared.resv_fact.ResvFact.{ResvFact}
use Rattle.lsr_facts.specs.declared.resv_fact.ResvStyle.{ResvStyle}
use Rattle.lsr_facts.specs.declared.router.Router.{Router}
use Rattle.abstract_paths.specs.declared.events.Made.{Made}
use Rattle.abstract_paths.specs.declared.events.Output.{Output}
use Rattle.abstract_paths.specs.Arrivals.{comes, hop_arrive}
use Rattle.abstract_paths.specs.Places.{is_up}
use Rattle.abstract_router.specs.Arrivals.{arrival}
use Rattle.abstract_router.specs.Outcomes.{Outcome, refused}
use Rattle.abstract_router.specs.Preempting.{told_preempted}
use Rattle.abstract_router.specs.Reserving.{Progress, all_descriptors, resv_arrival, resv_failed, resv_replied}
use Rattle.abstract_router.specs.Soundness.{IsSound}
use Rattle.abstract_router.specs.States.{State}
use Rattle.abstract_router.specs.Steps.{Step, settled, stands, with_moments}
use Rattle.router_soundness.proofs.AssigningRepairs.{of_found}
use Rattle.router_soundness.proofs.Silence.{silent_keeps}
use Rattle.router_laws.specs.Errors.{IsAskedBy}
use Rattle.router_laws.proofs.HeldOrTold.{IsHeld, IsHeldOrTold, descriptors-carry, standing, stays, told}
use Rattle.router_laws.proofs.Led.{led}
use Rattle.router_laws.proofs.Settled.{runs_for}

module _ (r : Router) (s : State) (is : IsSound r s) (link : ℕ) (v : Resv) (key : Key) (old : ResvFact) where
  -- the reservation of before, or one that the Resv asks for
  abbrev WasOwn : ResvFact → Type 0
  WasOwn own = (own ≡ old) ⊎ IsAskedBy s link v key own

  abbrev asks : (own : ResvFact) → IsAskedBy s link v key own → WasOwn own
  asks own asked = inr asked

  abbrev Tells : Outcome → Type 0
  Tells o = IsHeldOrTold r s is link v key WasOwn asks o.after o.errors

  module _ (reserved : find key_cmp key s.resvs ≡ Some old) where
    start : IsHeld r s is link v key WasOwn asks s
    start = (old, inl refl, standing r s is key old (of_found (λ resv. stands s.facts resv ≡ true) key old s.resvs is.standing reserved), reserved)

    resv-tells : is_up s.facts.up link ≡ true → Tells (resv_arrival r s link v)
    unfolding resv_arrival
    resv-tells up = by_style (style_of v.style) refl
      where
        by_first : (progress : Progress) → IsHeldOrTold r s is link v key WasOwn asks progress.state progress.errors → (first : Option RsvpError) → Tells (resv_replied s progress first)
        by_first progress tells (Some e) = tells
        by_first progress tells None = cond_both progress.has_granted _ (refused s NoMatch) Tells (λ some. tells) (λ none. inl start)

        by_style : (style : Option ResvStyle) → style_of v.style ≡ style → Tells (option_map_or (λ style. let progress = all_descriptors r s link style v in resv_replied s progress progress.first) style (resv_failed r s link v false [] unknown_style))
        by_style None unknown = inl start
        by_style (Some style) of_style =
            let progress = all_descriptors r s link style v in
            let begins : Progress = record { state = s; errors = []; first = None; has_granted = false } in
            let carried = descriptors-carry r s is link v key WasOwn asks up style of_style v.descriptors (recursion_from_All (Contains v.descriptors) v.descriptors (All-contains_itself v.descriptors)) begins (refl, inl start) in
            by_first progress carried.1 progress.first

    arrival-tells : Tells (arrival r s (hop_arrive link (contents.Resv v)))
    unfolding arrival
    arrival-tells =
        cond_both (is_none (link_at r link)) (refused s UnknownLink) _ Tells (λ none. inl start)
        (λ there. cond_both (not (is_up s.facts.up link)) (refused s LinkDown) _ Tells (λ down. inl start) (λ up. resv-tells (not-false (is_up s.facts.up link) up)))

-- An LSP that loses its reservation is told, for what it lost.
pub loss_told : (r : Router) (before after : State) (made : Made) (link : ℕ) (v : Resv) (key : Key) (resv : ResvFact) → IsSound r before → Step r before made after → made.event ≡ comes link (contents.Resv v)
    → find key_cmp key before.resvs ≡ Some resv → find key_cmp key after.resvs ≡ None → find key_cmp key after.facts.paths ≡ find key_cmp key before.facts.paths
    → (lost : ResvFact) × (output : Output) × ((lost ≡ resv) ⊎ IsAskedBy before link v key lost) × (told_preempted r key lost ≡ Some output) × Contains made.outputs output
loss_told r before after made link v key resv is x event reserved gone same_path = by o.is_silent refl
  where
    o : Outcome
    o = arrival r before (hop_arrive link (contents.Resv v))

    Loses : Type 0
    Loses = (lost : ResvFact) × (output : Output) × ((lost ≡ resv) ⊎ IsAskedBy before link v key lost) × (told_preempted r key lost ≡ Some output) × Contains made.outputs output

    by_outcome : o.is_silent ≡ false → IsHeldOrTold r before is link v key (WasOwn r before is link v key resv) (asks r before is link v key resv) o.after o.errors → Loses
    by_outcome heard (inl held) =
        absurd (let e = sym gone ∙ stays r before after made link v key is x event heard held.0 held.2.stood same_path held.3 in cc)
    by_outcome heard (inr said) = (said.0, said.2.output, said.1, said.2.tells, told r before after made link v key is x event heard said.0 said.2 said.3)

    by : (silent : Bool) → o.is_silent ≡ silent → Loses
    by true silent =
        let same = silent_keeps r before (comes link (contents.Resv v)) (runs_for before.facts.cold (comes link (contents.Resv v)) (λ e. cc) (λ cold. sym event ∙ x.awake cold)) (λ e. cc) silent in
        let left = led r before after made (comes link (contents.Resv v)) o x event refl ∙ ap (λ b. if b then o.after else with_moments r before o (settled r made.labels o.after)) silent ∙ same in
        absurd (let e = sym gone ∙ ap (λ (t : State). find key_cmp key t.resvs) left ∙ reserved in cc)
    by false heard = by_outcome heard (arrival-tells r before is link v key resv reserved)
