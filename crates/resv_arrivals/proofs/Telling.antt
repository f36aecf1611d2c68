-- The errors of those who lose their reservations, told one by one.
use Rattle.std.specs.Prelude.{◌≡◌, ◌++◌, fold, List, [], ◌∷◌, Option, Some, None}
use Rattle.std.specs.FinMap.Entries.{find}
use Rattle.std.specs.List.{cons_option}
use Rattle.std.specs.Option.{option_and_then, option_to_list}
use Rattle.std.proofs.Common.{refl, sym, ap, ◌∙◌, append_assoc, append-nil}
use Rattle.lsr_facts.specs.Orders.{key_cmp}
use Rattle.lsr_facts.specs.declared.key.Key.{Key}
use Rattle.lsr_facts.specs.declared.router.Router.{Router}
use Rattle.abstract_paths.specs.declared.events.Output.{Output}
use Rattle.abstract_router.specs.Preempting.{all_told_preempted, told_preempted}
use Rattle.abstract_router.specs.States.{State}
use Rattle.resv_arrivals.specs.Progresses.{told_of}

-- what may be told stands before the rest
before_rest : (o : Option Output) (rest : List Output) → option_to_list o ++ rest ≡ cons_option o rest
before_rest None rest = refl
before_rest (Some told) rest = refl

-- Errors with those of some LSPs, one by one, are those errors and all of these.
pub told_in_turn : (r : Router) (s : State) (errors : List Output) (gone : List Key) → fold (told_of r s.resvs) errors gone ≡ errors ++ all_told_preempted r s gone
unfolding told_of
told_in_turn r s errors [] = sym (append-nil errors)
told_in_turn r s errors (key ∷ gone) =
    let told = option_and_then (told_preempted r key) (find key_cmp key s.resvs) in
    told_in_turn r s (errors ++ option_to_list told) gone ∙ append_assoc errors (option_to_list told) (all_told_preempted r s gone) ∙ ap (λ rest. errors ++ rest) (before_rest told (all_told_preempted r s gone))
