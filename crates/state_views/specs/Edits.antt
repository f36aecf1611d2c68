-- Edits of what a router knows.
use Rattle.std.specs.Prelude.{ℕ, ◌||◌, Bool, List, [], ◌∷◌, Option, None}
use Rattle.std.specs.FinMap.Entries.{put}
use Rattle.std.specs.Option.{option_map_or, unwrap_or}
use Rattle.std.specs.Ordering.{nat_cmp}
use Rattle.sorted_rows.specs.Edits as rows
use Rattle.lsr_facts.specs.Orders.{key_cmp}
use Rattle.lsr_facts.specs.declared.key.Key.{Key}
use Rattle.label_space.specs.Rests.{freed_by, rested, resting_past}
use Rattle.abstract_paths.specs.Touched.{is_among}
use Rattle.abstract_router.specs.States.{State}
use Rattle.state_views.specs.declared.edits.EditParts.{EditParts}
use Rattle.state_views.specs.declared.edits.Edits.{Edits}

-- nothing changes
abbrev pub unedited : Edits
unedited = record { moment = None; up = None; routes = None; tunnels = []; bypasses = None; paths = []; resvs = []; repairs = []; labels = []; assignments = []; rest_until = None }

-- the labels that still rest once the moment of edits has come, if one comes
abbrev pub resting_still : Edits → State → List (ℕ × ℕ)
resting_still e s = option_map_or (λ moment. resting_past moment s.resting) e.moment s.resting

-- and beside them, where labels are to rest that are freed, those that edits free
abbrev pub resting_after : Edits → State → List (ℕ × ℕ)
resting_after e s =
    option_map_or (λ until. rested (unwrap_or e.moment s.facts.moment) until (freed_by e.labels s.labels) (resting_still e s)) e.rest_until (resting_still e s)

-- what is known after edits; the moments at which messages were sent are no part of them
abbrev pub edited : Edits → State → State
edited e s = record s {
  facts = record s.facts {
    moment = unwrap_or e.moment s.facts.moment;
    up = unwrap_or e.up s.facts.up;
    routes = unwrap_or e.routes s.facts.routes;
    tunnels = rows.edited nat_cmp e.tunnels s.facts.tunnels;
    bypasses = unwrap_or e.bypasses s.facts.bypasses;
    paths = rows.edited key_cmp e.paths s.facts.paths;
  };
  resvs = rows.edited key_cmp e.resvs s.resvs;
  repairs = rows.edited key_cmp e.repairs s.repairs;
  labels = rows.edited key_cmp e.labels s.labels;
  assignments = rows.edited key_cmp e.assignments s.assignments;
  resting = resting_after e s;
}

-- edits taken apart
abbrev pub parts_of : Edits → EditParts
parts_of e = record {
  moment = e.moment;
  up = e.up;
  routes = e.routes;
  tunnels = e.tunnels;
  bypasses = e.bypasses;
  paths = e.paths;
  resvs = e.resvs;
  repairs = e.repairs;
  labels = e.labels;
  assignments = e.assignments;
  rest_until = e.rest_until;
}

-- edits of what LSPs have, and then these LSPs have none
abbrev pub without_rows : {X : Type 0} → List (Key × Option X) → List Key → List (Key × Option X)
without_rows edits [] = edits
without_rows edits (key ∷ gone) = without_rows (put key_cmp key None edits) gone

-- what the LSP is promised of a bypass, its label, its repair, its reservation or its path is edited
abbrev pub is_edited : Edits → Key → Bool
is_edited e key =
    is_among key_cmp e.assignments key
    || (is_among key_cmp e.labels key || (is_among key_cmp e.repairs key || (is_among key_cmp e.resvs key || is_among key_cmp e.paths key)))
