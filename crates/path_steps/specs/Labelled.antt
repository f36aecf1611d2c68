-- What a Path does where it needs a label (RFC 3209, 4.2.4 and 7.3).
use Rattle.std.specs.Prelude.{ℕ, ◌&&◌, not, if◌then◌else◌, Option, is_none}
use Rattle.rsvp_contents.specs.declared.messages.Path.{Path}
use Rattle.lsr_facts.specs.Errors.{no_label}
use Rattle.lsr_facts.specs.declared.path_fact.PathFact.{PathFact}
use Rattle.lsr_facts.specs.declared.router.Router.{Router}
use Rattle.abstract_paths.specs.Outcomes.{PathOutcome}
use Rattle.abstract_paths.specs.Paths.{failed}
use Rattle.abstract_router.specs.Arrivals.{is_done}
use Rattle.abstract_router.specs.Labels.{has_free_label}
use Rattle.abstract_router.specs.Outcomes.{Outcome, of_paths}
use Rattle.abstract_router.specs.States.{State}

-- a Path does what it does of itself; but where it would be taken, its path is new, and no label is free, it is in error
abbrev pub labelled : Router → State → Option PathFact → ℕ → Path → PathOutcome → Outcome
labelled r s known link p o =
    if is_done o.reply && is_none known && not (has_free_label r s.labels s.resting)
    then of_paths s (failed r s.facts link p no_label)
    else of_paths s o
