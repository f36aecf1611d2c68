-- What a reader of a text finds in it.
use Rattle.std.specs.Prelude.{Option, MatchOption}

-- a value of which the fact holds, or `None` where there is none
abbrev pub Finds : {A : Type 0} → (A → Type 0) → Option A → Type 0
Finds {A} P found = MatchOption found ((a : A) → ¬ P a) P
