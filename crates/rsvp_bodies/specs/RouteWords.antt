-- How an operator writes prefixes and the steps of routes.
use Rattle.std.specs.Prelude.{◌≡◌, ◌≤◌, ◌==◌, ℕ, Bool, List, ◌∷◌, if◌then◌else◌}
use Rattle.std.specs.List.{before_first, after_first}
use Rattle.std.specs.Net.Grammar.{IsIpv4Text}
use Rattle.std.specs.Str.Parse.{IsNumeral, digits_value}
use Rattle.rsvp_bodies.specs.declared.prefix.Prefix.{Prefix}
use Rattle.rsvp_bodies.specs.declared.step.Step.{Step}
use Rattle.rsvp_bodies.specs.declared.step.Step.TheVariants.{Ipv4, Other}

-- a slash
abbrev pub is_slash : ℕ → Bool
is_slash byte = byte == 47

-- The text writes a length in bits: decimal digits, leading zeros taken, at most 255.
abbrev pub IsLengthText : List ℕ → ℕ → Type 0
IsLengthText text bits = IsNumeral 10 text × (digits_value 10 text ≡ bits) × (bits ≤ 255)

-- The text writes a prefix: its address stands before the first slash, and its length behind it.
abbrev pub IsPrefixText : List ℕ → Prefix → Type 0
IsPrefixText text prefix =
    IsIpv4Text (before_first is_slash text) prefix.address × IsLengthText (after_first is_slash text) prefix.length

-- The text writes a step: the prefix of a strict step, or a tilde and the prefix of a loose one. No step of another type
-- is written.
abbrev pub IsStepText : List ℕ → Step → Type 0
IsStepText text (Ipv4 loose prefix) = (written : List ℕ) × (text ≡ if loose then 126 ∷ written else written) × IsPrefixText written prefix
IsStepText text (Other bytes) = ⊥
