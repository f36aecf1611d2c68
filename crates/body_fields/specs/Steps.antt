-- The parts of a step.
use Rattle.std.specs.Prelude.{◌≡◌, ℕ, Bool, List, refl}
use Rattle.field_bytes.specs.Making.{IsToldApart, told_by}
use Rattle.field_bytes.specs.declared.cases.OneOf.{OneOf}
use Rattle.field_bytes.specs.declared.cases.OneOf.TheVariants.{This, Other}
use Rattle.rsvp_bodies.specs.Subobjects.{IsOtherStep}
use Rattle.rsvp_bodies.specs.declared.prefix.Prefix.{Prefix}
use Rattle.rsvp_bodies.specs.declared.step.Step.{Step}
use Rattle.rsvp_bodies.specs.declared.step.Step.TheVariants as steps

-- what is kept byte for byte is a step of another type than IPv4
abbrev pub IsKeptStep : Step → Type 0
IsKeptStep (steps.Ipv4 loose prefix) = Unit {0}
IsKeptStep (steps.Other bytes) = IsOtherStep bytes

-- whether it is loose and its prefix, or its bytes
abbrev pub step_parts : Step → OneOf (Bool × Prefix) (List ℕ)
step_parts (steps.Ipv4 loose prefix) = This (loose, prefix)
step_parts (steps.Other bytes) = Other bytes

-- the step of these
abbrev pub step_of : OneOf (Bool × Prefix) (List ℕ) → Step
step_of (This parts) = steps.Ipv4 parts.0 parts.1
step_of (Other bytes) = steps.Other bytes

step_again : (step : Step) → step_of (step_parts step) ≡ step
step_again (steps.Ipv4 loose prefix) = refl
step_again (steps.Other bytes) = refl

pub step_told : IsToldApart IsKeptStep step_parts
step_told = told_by IsKeptStep step_parts step_of step_again
