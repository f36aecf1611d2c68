-- What is known of an output to which others write.
use Rattle.std.specs.Prelude.{◌≡◌, ℕ, List, Option, Some, None, length, take}

-- as much of what is held now as was held, where both are known
abbrev pub front_of : Option (List ℕ) → Option (List ℕ) → Option (List ℕ)
front_of None now = None
front_of (Some held) None = None
front_of (Some held) (Some now) = Some (take (length held) now)

-- What was held, where that was known, is still known, and stands before what is held now.
abbrev pub StaysBefore : Option (List ℕ) → Option (List ℕ) → Type 0
StaysBefore held now = front_of held now ≡ held
