-- The explicit route: which bytes spell which steps (RFC 3209, 4.3).
use Rattle.std.specs.Prelude.{◌≡◌, ◌%◌, ◌++◌, ◌==◌, ℕ, List, [], ◌∷◌, Option, Some, None, length, drop, slice_index, nat_le, if◌then◌else◌}
use Rattle.std.specs.List.{flat_map}
use Rattle.std.specs.Net.Addr.{ipv4_octets}
use Rattle.rsvp_bodies.specs.Reading.{SpellsEach}
use Rattle.rsvp_bodies.specs.Subobjects.{IsSubobject}
use Rattle.rsvp_bodies.specs.Prefixes.{prefix_at}
use Rattle.rsvp_bodies.specs.declared.step.Step.{Step}
use Rattle.rsvp_bodies.specs.declared.step.Step.TheVariants.{Ipv4, Other}

-- The step that a subobject is. In the first byte the top bit says that the step is loose, and the rest is
-- the type (RFC 3209, 4.3.3). Type 1, IPv4, has 8 bytes: the prefix stands behind type and length, and the
-- last byte isn't read (RFC 3209, 4.3.3.2). Any other type is kept as its bytes.
abbrev pub step_of : List ℕ → Option Step
step_of bytes =
    if slice_index bytes 0 % 128 == 1
    then (if length bytes == 8 then Some (Ipv4 (nat_le 128 (slice_index bytes 0)) (prefix_at (drop 2 bytes))) else None)
    else Some (Other bytes)

-- The bytes spell the step.
pub record SpellsStep (bytes : List ℕ) (step : Step) : Type 0 where
  pub subobject : IsSubobject bytes
  pub value : step_of bytes ≡ Some step

-- The bytes spell the route: they spell its steps, one behind the other (RFC 3209, 4.3.3).
abbrev pub SpellsRoute : List ℕ → List Step → Type 0
SpellsRoute = SpellsEach SpellsStep

-- What a step is written as: the reserved byte is 0.
abbrev pub step_bytes : Step → List ℕ
step_bytes (Ipv4 loose prefix) =
    (if loose then 129 else 1) ∷ 8 ∷ (ipv4_octets prefix.address ++ (prefix.length ∷ 0 ∷ []))
step_bytes (Other bytes) = bytes

-- What a route is written as.
abbrev pub route_bytes : List Step → List ℕ
route_bytes steps = flat_map step_bytes steps
