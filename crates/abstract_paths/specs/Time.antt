-- What becomes of a router when a moment comes (RFC 2205, 2.3 and 3.7).
use Rattle.std.specs.Prelude.{ℕ, ◌^◌, nat_lt, if◌then◌else◌, []}
use Rattle.lsr_facts.specs.Lifetimes.{due_items, expire}
use Rattle.lsr_facts.specs.declared.facts.Facts.{Facts}
use Rattle.lsr_facts.specs.declared.refusal.Refusal.TheVariants.{BadMoment, Late}
use Rattle.lsr_facts.specs.declared.router.Router.{Router}
use Rattle.abstract_paths.specs.Heads.{signalled}
use Rattle.abstract_paths.specs.Outcomes.{PathOutcome, done, refused}

-- A moment comes. Above 2^62 it is none, and below the last one it is late; either is refused. Else what has
-- expired goes, tunnels that have no path are tried, and what is due is sent again. Links and static routes stay.
unfoldable pub tick : Router → Facts → ℕ → PathOutcome
tick r s n =
    if nat_lt (2 ^ 62) n then refused s BadMoment
    else if nat_lt n s.moment then refused s Late
    else record (done [] (signalled r (record s { moment = n; paths = expire n s.paths }))) { due = due_items r.refresh_ms s.sent n }
