-- What becomes of a router whose link comes up or goes down. No other way is looked for then: a path keeps its
-- link until a Path with another route comes (RFC 2205, 3.6 would have it ask its routing again).
use Rattle.std.specs.Prelude.{ℕ, Bool, if◌then◌else◌, [], is_none}
use Rattle.lsr_facts.specs.Routers.{link_at}
use Rattle.lsr_facts.specs.declared.facts.Facts.{Facts}
use Rattle.lsr_facts.specs.declared.refusal.Refusal.TheVariants.{UnknownLink}
use Rattle.lsr_facts.specs.declared.router.Router.{Router}
use Rattle.abstract_paths.specs.Changes.{with_link}
use Rattle.abstract_paths.specs.Outcomes.{PathOutcome, done, refused}

-- A link comes up or goes down: that is refused where the router has no such link. Paths, routes and the moment
-- stay; what is wanted over the link follows from it.
unfoldable pub link_change : Router → Facts → ℕ → Bool → PathOutcome
link_change r s number is_up =
    if is_none (link_at r number) then refused s UnknownLink
    else done [] (with_link number is_up s)
