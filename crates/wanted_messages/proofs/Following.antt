-- One step more of a route is passed.
use Rattle.std.specs.Prelude.{◌≡◌, ◌+◌, ◌<◌, ℕ, Bool, true, false, if◌then◌else◌, List, drop, length, Option, Some, None}
use Rattle.std.specs.Option.{option_map_or, option_or}
use Rattle.std.specs.declared.net.ipv4_addr.Ipv4Addr.{Ipv4Addr}
use Rattle.std.proofs.Common.{ap, get_or, refl, sym, ◌∙◌}
use Rattle.rsvp_contents.proofs.Sizes.{drop_one}
use Rattle.rsvp_bodies.specs.declared.step.Step.{Step}
use Rattle.abstract_paths.specs.BackupRoutes.{steps_after}
use Rattle.abstract_paths.specs.Places.{contains}
use Rattle.abstract_paths.specs.Routing.{nodes_of}

-- the step leads to the address
abbrev pub leads_to : Ipv4Addr → Step → Bool
leads_to a step = option_map_or (λ nodes. contains nodes a) (nodes_of step) false

-- before the first step nothing is found
pub none_yet : {A : Type 0} (o : Option A) → option_or o None ≡ o
none_yet None = refl
none_yet (Some x) = refl

-- What follows the next step is found where that leads to the address; else what was found stands.
pub next_step : (a : Ipv4Addr) (steps : List Step) (place : ℕ) (step : Step) (found after : Option (List Step)) → place < length steps → step ≡ get_or steps place step
    → after ≡ (if leads_to a step then Some (drop (place + 1) steps) else found)
    → option_or (steps_after a (drop place steps)) found ≡ steps_after a steps → option_or (steps_after a (drop (place + 1) steps)) after ≡ steps_after a steps
unfolding steps_after
next_step a steps place step found after within is next known =
    ap (option_or (steps_after a others)) next
    ∙ by (leads_to a step) (steps_after a others)
    ∙ sym (ap (λ (xs : List Step). option_or (steps_after a xs) found) (drop_one steps place step within is))
    ∙ known
  where
    others : List Step
    others = drop (place + 1) steps

    by : (leads : Bool) (later : Option (List Step)) → option_or later (if leads then Some others else found) ≡ option_or (option_or later (if leads then Some others else None)) found
    by true None = refl
    by false None = refl
    by leads (Some after) = refl
