-- What becomes of a ResvErr that came over a link, or through a stack of labels (RFC 2205, 3.1.8; RFC 4090, 7.1).
use Rattle.std.specs.Prelude.{ℕ, List, [], ◌∷◌, filter_map, Option, Some, None}
use Rattle.rsvp_contents.specs.declared.messages.ResvErr.{ResvErr}
use Rattle.rsvp_contents.specs.declared.descriptors.ErrorDescriptor.{ErrorDescriptor}
use Rattle.lsr_facts.specs.declared.router.Router.{Router}
use Rattle.abstract_paths.specs.declared.events.Output.{Output}
use Rattle.abstract_router.specs.Outcomes.{Outcome}
use Rattle.abstract_router.specs.States.{State}
use Rattle.abstract_router.specs.Tearing.{err_onward, resv_err_passed_on, stack_err_onward}
use Rattle.router_steps.specs.declared.resv_err.Onward.{Onward}
use Rattle.router_steps.specs.declared.resv_err.Onward.TheVariants.{NoMatch, Ends, GoesOn}

-- the messages that go on of a descriptor, by what becomes of it. None: it matches nothing here.
abbrev pub told_of : Onward → Option (List Output)
told_of NoMatch = None
told_of Ends = Some []
told_of (GoesOn output) = Some (output ∷ [])

-- what comes of a descriptor: of one that came over a link, and of one that came through a stack
abbrev pub err_by : Router → State → Option ℕ → ResvErr → ErrorDescriptor → Option (List Output)
err_by r s (Some link) e d = err_onward r s link e d
err_by r s None e d = stack_err_onward r s e d

-- and of all of them
unfoldable pub passed_on : Router → State → Option ℕ → ResvErr → Outcome
passed_on r s over e = resv_err_passed_on s (filter_map (err_by r s over e) e.descriptors)
