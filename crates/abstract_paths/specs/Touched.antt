-- The rows under some keys, and what becomes of the moments at which items were sent.
use Rattle.std.specs.Prelude.{◌++◌, ℕ, Bool, if◌then◌else◌, List, filter_map, Option, Some, None, is_none, is_some}
use Rattle.std.specs.FinMap.Entries.{find}
use Rattle.std.specs.Option.{option_map}
use Rattle.std.specs.declared.cmp.Ordering.{Ordering}
pub use Rattle.lsr_facts.specs.Orders.{key_of_item}
use Rattle.abstract_paths.specs.declared.events.Output.{Output}
use Rattle.abstract_paths.specs.Outputs.{between, rests}

-- the key is one of these rows'
abbrev pub is_among : {K E : Type 0} → (K → K → Ordering) → List (K × E) → K → Bool
is_among cmp es key = is_some (find cmp key es)

-- what rows have under the keys of others, one look-up after the other
abbrev pub found_rows : {K E X : Type 0} → (K → K → Ordering) → List (K × E) → List (K × X) → List (K × X)
found_rows cmp es rows = filter_map (λ e. option_map (λ x. (e.0, x)) (find cmp e.0 rows)) es

-- the moment goes of an item that was wanted and is no more
abbrev pub forgotten : {I : Type 0} → Option Output → I × Output → Option (I × Option ℕ)
forgotten now was = if is_none now then Some (was.0, None) else None

-- an item that is sent has this moment from then on
abbrev pub renewed_moment : {I : Type 0} → (I → I → Ordering) → List I → ℕ → Option Output → I × Output → Option (I × Option ℕ)
renewed_moment cmp due moment was wants = if rests cmp due was wants then None else Some (wants.0, Some moment)

-- what becomes of the moments between what was wanted and what is: no other moment changes
abbrev pub moments_between : {I : Type 0} → (I → I → Ordering) → List I → ℕ → List (I × Output) → List (I × Output) → List (I × Option ℕ)
moments_between cmp due moment was is = between cmp (renewed_moment cmp due moment) is was ++ between cmp forgotten was is
