-- What edits make of rows in order: each gives a key another value, or takes it away.
use Rattle.std.specs.Prelude.{List, [], ◌∷◌, not, Option, Some, None}
use Rattle.std.specs.FinMap.Entries.{put, where_key}
use Rattle.std.specs.Ordering.{is_eq}
use Rattle.std.specs.declared.cmp.Ordering.{Ordering}

-- what there is after an edit, if one is made, of what was there
abbrev pub over : {X : Type 0} → Option (Option X) → Option X → Option X
over None was = was
over (Some now) was = now

-- rows with this at a key from now on, or with nothing at it
abbrev pub at_key : {K X : Type 0} → (K → K → Ordering) → K → Option X → List (K × X) → List (K × X)
at_key cmp key None rows = where_key cmp (λ q. not (is_eq (cmp key q))) rows
at_key cmp key (Some value) rows = put cmp key value rows

-- Rows after edits. Of two edits of one key the first counts.
abbrev pub edited : {K X : Type 0} → (K → K → Ordering) → List (K × Option X) → List (K × X) → List (K × X)
edited cmp [] rows = rows
edited cmp (e ∷ es) rows = at_key cmp e.0 e.1 (edited cmp es rows)
