-- What an event does of itself: an answer, errors, and edits of what is known.
use Rattle.std.specs.Prelude.{◌≡◌, ℕ, List, [], Option, Some, None}
use Rattle.lsr_facts.specs.Lifetimes.{due_items}
use Rattle.lsr_facts.specs.declared.key.Item.{Item}
use Rattle.lsr_facts.specs.declared.router.Router.{Router}
use Rattle.lsr_facts.specs.declared.upstream.Upstream.{Upstream}
use Rattle.abstract_router.specs.Outcomes.{Outcome}
use Rattle.abstract_router.specs.States.{State}
use Rattle.state_views.specs.Edits.{edited}
use Rattle.state_views.specs.declared.draft.Draft.{Draft}

-- the Paths that are due at a moment, if one came
abbrev pub due_by : Option ℕ → Router → State → List Item
due_by None r s = []
due_by (Some moment) r s = due_items r.refresh_ms s.facts.sent moment

-- and the Resvs
abbrev pub upstream_due_by : Option ℕ → Router → State → List Upstream
upstream_due_by None r s = []
upstream_due_by (Some moment) r s = due_items r.refresh_ms s.sent_upstream moment

-- The draft is that of this outcome: its answer, its errors, what is due, whether it is silent, and the edits that
-- lead to what is known after it.
pub record IsDraft (draft : Draft) (outcome : Outcome) (r : Router) (before : State) : Type 0 where
  pub reply : draft.reply ≡ outcome.reply
  pub errors : draft.errors ≡ outcome.errors
  pub due : due_by draft.due r before ≡ outcome.due
  pub upstream_due : upstream_due_by draft.due r before ≡ outcome.upstream_due
  pub is_silent : draft.is_silent ≡ outcome.is_silent
  pub after : edited draft.edits before ≡ outcome.after
