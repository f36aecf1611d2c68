-- How the Paths of an origin come: over a link, or through a bypass tunnel (RFC 4090, 6.4.3).
use Rattle.std.specs.Prelude.{ℕ, Option, Some, None}
use Rattle.std.specs.Option.{unwrap_or}
use Rattle.lsr_facts.specs.declared.path_fact.Via.{Via}
use Rattle.lsr_facts.specs.declared.path_fact.Via.TheVariants as vias

-- the link to the neighbour that sends them; none, where they come through a stack of labels
abbrev pub via_link : Via → Option ℕ
via_link (vias.Link number) = Some number
via_link vias.Stack = None

-- its number, 0 where there is none: no link has this number
abbrev pub number_of : Via → ℕ
number_of via = unwrap_or (via_link via) 0
