-- Errors, tears and what is wanted say what this router says itself; so nothing else goes on but the message that is passed on.
use Rattle.std.specs.Prelude.{◌≡◌, ◌++◌, Bool, true, false, All, List, [], Option, None, if◌then◌else◌}
use Rattle.std.specs.List.{AllByRecursion}
use Rattle.std.specs.Option.{option_map_or}
use Rattle.std.proofs.Common.{refl, sym, ap, subst, ◌∙◌}
use Rattle.std.proofs.lemmas.List.Elements.{All-from_recursion}
use Rattle.rsvp_contents.specs.declared.messages.Content.{Content}
use Rattle.sorted_rows.specs.ListLaws.{all-append, all-weaker}
use Rattle.lsr_facts.specs.declared.router.Router.{Router}
use Rattle.abstract_paths.specs.declared.events.Event.{Event}
use Rattle.abstract_paths.specs.declared.events.Made.{Made}
use Rattle.abstract_paths.specs.declared.events.Output.{Output}
use Rattle.abstract_router.specs.Arrivals.{outcome}
use Rattle.abstract_router.specs.Outcomes.{Outcome}
use Rattle.abstract_router.specs.Outputs.{outputs_of}
use Rattle.abstract_router.specs.Repairing.{told_repaired}
use Rattle.abstract_router.specs.States.{State}
use Rattle.abstract_router.specs.Steps.{Step, promised}
use Rattle.abstract_router.specs.Upstreams.{upstream_of}
use Rattle.abstract_router.specs.Wanted.{items_of}
use Rattle.router_laws.specs.Sending.{content_of, is_state, is_tear}
use Rattle.router_laws.proofs.Exactly.{IsRowOfState, items-state, resvs-state}
use Rattle.router_laws.proofs.Outgoing.{outputs-hold}
use Rattle.router_laws.proofs.Reports.{HoldOfErrors, errors_are, repairs_are}
use Rattle.router_laws.proofs.Sent.{loud_sends}
use Rattle.label_laws.specs.Said.{IsPassedOn}

-- what says something of a type is this router's own
own : (test : Content → Bool) (o : Option Content) → option_map_or test o false ≡ true → o ≡ None → ⊥
own test o says none = let e = sym says ∙ ap (λ o. option_map_or test o false) none in cc

module _ (event : Event) where
  -- what isn't this router's own is passed on
  abbrev Passes : Output → Type 0
  Passes output = content_of output.frame ≡ None → IsPassedOn event output

  errors-own : HoldOfErrors Passes
  errors-own = record {
    path_err = λ link e none. absurd (let f = none in cc);
    routed_err = λ link to e none. absurd (let f = none in cc);
    resv_err = λ link e none. absurd (let f = none in cc);
    through_err = λ over e none. absurd (let f = none in cc);
  }

module _ (r : Router) (before after : State) (made : Made) (x : Step r before made after) where
  abbrev o : Outcome
  o = outcome r before made.event

  abbrev told : List Output
  told = o.errors ++ told_repaired r (promised r o.after)

  abbrev P : Output → Type 0
  P = Passes made.event

  loud_passes : o.is_silent ≡ false → AllByRecursion P made.outputs
  loud_passes loud =
      subst (AllByRecursion P) (sym (loud_sends r before after made x loud))
      (outputs-hold P r before told o.due o.upstream_due after
      (all-append P o.errors (told_repaired r (promised r o.after)) (errors_are P (errors-own made.event) r before made.event (λ m link came none. (m, came, refl))) (repairs_are P (errors-own made.event) r (promised r o.after)))
      (λ output tear none. absurd (own is_tear (content_of output.frame) tear.1 none))
      (all-weaker IsRowOfState (λ row. P row.1) (λ row state none. absurd (own is_state (content_of row.1.frame) state.0 none)) (items_of r after) (items-state r after))
      (all-weaker IsRowOfState (λ row. P row.1) (λ row state none. absurd (own is_state (content_of row.1.frame) state.0 none)) (upstream_of r after) (resvs-state r after)))

  silent_passes : o.is_silent ≡ true → AllByRecursion P made.outputs
  silent_passes silent = subst (AllByRecursion P) (sym (x.sent ∙ ap (λ b. if b then [] else outputs_of r before told o.due o.upstream_due after) silent)) tt

  passes : AllByRecursion P made.outputs
  passes = elim o.is_silent as (λ b. o.is_silent ≡ b → AllByRecursion P made.outputs) [ true ↦ silent_passes | false ↦ loud_passes ] refl

-- What a step sends that isn't this router's own is passed on.
pub all_passed : (r : Router) (before after : State) (made : Made) → Step r before made after → All (λ output. content_of output.frame ≡ None → IsPassedOn made.event output) made.outputs
all_passed r before after made x = All-from_recursion (λ output. content_of output.frame ≡ None → IsPassedOn made.event output) made.outputs (passes r before after made x)
