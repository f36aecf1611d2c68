-- How long what a router knows lives, and when a message is due again.
use Rattle.std.specs.Prelude.{ℕ, ◌+◌, ◌||◌, nat_le, nat_lt, not, Bool, true, false, List, map, filter}
use Rattle.std.specs.List.{list_any}
use Rattle.std.specs.declared.net.ipv4_addr.Ipv4Addr.{Ipv4Addr}
use Rattle.sorted_rows.specs.Rows.{keys_of}
use Rattle.lsr_facts.specs.declared.key.Key.{Key}
use Rattle.lsr_facts.specs.declared.path_fact.Origin.{Origin}
use Rattle.lsr_facts.specs.declared.path_fact.PathFact.{PathFact}
use Rattle.lsr_facts.specs.declared.path_fact.Role.{Role}
use Rattle.lsr_facts.specs.declared.path_fact.Role.TheVariants as roles

-- the origin's expiry is yet to come: one whose expiry is this moment has expired (RFC 2205, 2.3)
abbrev pub lives_past : ℕ → Ipv4Addr × Origin → Bool
lives_past moment origin = nat_lt moment origin.1.expiry

-- a path that begins at this router has no need of an origin
abbrev pub begins_here : Role → Bool
begins_here roles.Tail = false
begins_here roles.Transit = false
begins_here roles.Head = true

-- a path lives on where one of its origins does, or where it begins here
abbrev pub lives_on : ℕ → Key × PathFact → Bool
lives_on moment path = begins_here path.1.role || list_any (lives_past moment) path.1.origins

-- the moment takes something away from the path: it goes, or one of its origins does
abbrev pub expires : ℕ → Key × PathFact → Bool
expires moment path = not (lives_on moment path) || list_any (λ origin. not (lives_past moment origin)) path.1.origins

-- what is known of a path, with those of its origins that live past the moment
abbrev pub living : ℕ → PathFact → PathFact
living moment fact = record fact { origins = filter (lives_past moment) fact.origins }

abbrev pub with_living : ℕ → Key × PathFact → Key × PathFact
with_living moment path = (path.0, living moment path.1)

-- Each origin goes that has expired, and with its last origin the path (RFC 2205, 2.3).
unfoldable pub expire : ℕ → List (Key × PathFact) → List (Key × PathFact)
expire moment paths = map (with_living moment) (filter (lives_on moment) paths)

-- a message that was sent last a refresh period ago or longer, in milliseconds, is due (RFC 2205, 3.7)
abbrev pub has_waited : ℕ → ℕ → ℕ → Bool
has_waited refresh_ms at moment = nat_le (at + refresh_ms) moment

-- The messages that are due at a moment, in the order of their items.
abbrev pub due_items : {I : Type 0} → ℕ → List (I × ℕ) → ℕ → List I
due_items refresh_ms sent moment = keys_of (filter (λ row. has_waited refresh_ms row.1 moment) sent)
