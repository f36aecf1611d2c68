-- The rows of all tables once a change is made are those of a sound router.
use Rattle.std.specs.Prelude.{◌≡◌, ◌≤◌, ◌<◌, ℕ, max, nat_lt, true, List, Option, None, Some}
use Rattle.std.specs.List.{AllByRecursion}
use Rattle.std.specs.Option.{option_map_or, unwrap_or}
use Rattle.std.specs.Ordering.{nat_cmp}
use Rattle.std.proofs.Common.{ap, arith, refl, subst, sym, ◌∙◌}
use Rattle.std.proofs.lemmas.Bool.{le-ltb, lt-ltb}
use Rattle.sorted_rows.specs.ListLaws.{all-weaker, filter-all_pass}
use Rattle.sorted_rows.specs.Edits as rows
use Rattle.abstract_router.specs.Preempting.{claims_of}
use Rattle.abstract_router.specs.Soundness.{IsSound}
use Rattle.abstract_router.specs.States.{State}
use Rattle.abstract_router.specs.Tables.{tunnel_table_of}
use Rattle.admission.specs.Bandwidths.{claim_edits}
use Rattle.label_table.specs.Rows.{IsTableOf}
use Rattle.lsr_facts.specs.Orders.{key_cmp}
use Rattle.lsr_facts.specs.Routers.{IsRouter}
use Rattle.lsr_facts.specs.declared.router.Router.{Router}
use Rattle.label_space.specs.Rests.{freed_by, rested, resting_past}
use Rattle.router_soundness.specs.Assigned.{AreStanding}
use Rattle.state_views.specs.Edits.{parts_of, resting_after, resting_still}
use Rattle.state_views.specs.declared.edits.EditParts.{EditParts}
use Rattle.state_views.specs.declared.edits.Edits.{Edits}
use Rattle.router_tables.specs.Changes.{IsChange, changed, rests_with_edits}
use Rattle.router_tables.specs.States.{AreTables, state_of}
use Rattle.router_tables.specs.declared.change.Change.{Change}
use Rattle.router_tables.specs.declared.rows.Rows.{Rows}

-- Rows say what is known after a change, of the same router, and their claims and actions are edited.
pub record AreEdited (c : Change) (was is : Rows) : Type 0 where
  pub router : is.router ≡ was.router
  pub state : state_of is ≡ changed c (state_of was)
  pub period : is.timers.refresh_ms ≡ was.timers.refresh_ms
  pub upstream_period : is.upstream.refresh_ms ≡ was.upstream.refresh_ms
  pub claims : is.bandwidth.claims ≡ rows.edited key_cmp (claim_edits c.bandwidth) was.bandwidth.claims
  pub range : is.labels.range ≡ was.labels.range
  pub moment : is.labels.moment ≡ max was.labels.moment is.moment
  pub table : is.table.labels ≡ rows.edited nat_cmp c.table was.table.labels
  pub tunnel_table : is.table.tunnels ≡ rows.edited nat_cmp c.tunnel_table was.table.tunnels

-- So they are those of a sound router.
pub edited_are : (c : Change) (was is : Rows) → AreTables was → IsChange was.router (state_of was) c → AreEdited c was is → AreTables is
edited_are c was is are change edit =
    let router = sym edit.router in
    let after = changed c (state_of was) in
    record {
      router = subst IsRouter router are.router;
      sound = subst (λ (r : Router). IsSound r (state_of is)) router (subst (IsSound was.router) (sym edit.state) change.sound);
      standing = subst (λ (r : Router). AreStanding r (state_of is)) router (subst (AreStanding was.router) (sym edit.state) change.standing);
      period = edit.period ∙ are.period ∙ ap (λ (r : Router). r.refresh_ms) router;
      upstream_period = edit.upstream_period ∙ are.upstream_period ∙ ap (λ (r : Router). r.refresh_ms) router;
      claims = edit.claims ∙ ap (rows.edited key_cmp (claim_edits c.bandwidth)) are.claims ∙ change.claims ∙ ap (λ (s : State). claims_of s.facts.paths s.resvs) (sym edit.state);
      range = edit.range ∙ are.range ∙ ap (λ (r : Router). r.labels) router;
      moment = let told : is.moment ≡ after.facts.moment = ap (λ (s : State). s.facts.moment) edit.state in omega (arith, edit.moment, are.moment, change.later, told);
      table =
          subst (λ (r : Router). IsTableOf r (state_of is) is.table.labels) router
          (subst (λ (s : State). IsTableOf was.router s is.table.labels) (sym edit.state) (subst (IsTableOf was.router after) (sym edit.table) (change.table.table was.table.labels are.table)));
      tunnel_table =
          edit.tunnel_table ∙ ap (rows.edited nat_cmp c.tunnel_table) are.tunnel_table ∙ change.tunnel_table.table
          ∙ ap (tunnel_table_of was.router) (sym edit.state) ∙ ap (λ (r : Router). tunnel_table_of r (state_of is)) router;
    }

-- labels that rest at a moment rest still when it comes
rests_still : (moment : ℕ) (resting : List (ℕ × ℕ)) → AllByRecursion (λ row. moment < row.1) resting → resting_past moment resting ≡ resting
rests_still moment resting later =
    filter-all_pass (λ row. nat_lt moment row.1) resting (all-weaker (λ (row : ℕ × ℕ). moment < row.1) (λ row. nat_lt moment row.1 ≡ true) (λ row more. lt-ltb moment row.1 more) resting later)

-- The labels that rest after edits are those that rest once their moment has come and their edits of labels are made.
pub rests_made : (e : Edits) (s : State) → AllByRecursion (λ row. s.facts.moment < row.1) s.resting → s.facts.moment ≤ unwrap_or e.moment s.facts.moment → rested (max s.facts.moment (unwrap_or e.moment s.facts.moment)) (unwrap_or e.rest_until 0) (freed_by e.labels s.labels) (resting_past (unwrap_or e.moment s.facts.moment) s.resting) ≡ resting_after e s
rests_made e s later goes_on =
    let now = unwrap_or e.moment s.facts.moment in
    let latest : max s.facts.moment now ≡ now = omega (arith, goes_on) in
    (λ i. rested (latest i) (unwrap_or e.rest_until 0) (freed_by e.labels s.labels) (woken e.moment i)) ∙ by now e.rest_until (resting_still e s)
  where
    woken : (o : Option ℕ) → resting_past (unwrap_or o s.facts.moment) s.resting ≡ option_map_or (λ moment. resting_past moment s.resting) o s.resting
    woken None = rests_still s.facts.moment s.resting later
    woken (Some moment) = refl

    by : (now : ℕ) (o : Option ℕ) (resting : List (ℕ × ℕ)) → rested now (unwrap_or o 0) (freed_by e.labels s.labels) resting ≡ option_map_or (λ until. rested now until (freed_by e.labels s.labels) resting) o resting
    by now None resting = rw (le-ltb now 0 (omega arith)) refl
    by now (Some until) resting = refl

-- where labels rest by the state
pub all_later : (r : Router) (s : State) → IsSound r s → AllByRecursion (λ row. s.facts.moment < row.1) s.resting
all_later r s is =
    all-weaker (λ (row : ℕ × ℕ). (r.labels.first ≤ row.0) × (row.0 ≤ r.labels.last) × (s.facts.moment < row.1)) (λ (row : ℕ × ℕ). s.facts.moment < row.1) (λ row each. each.2) s.resting is.resting.each

-- So they are what the rows of a change make of them.
pub rests_are : (c : Change) (t : Rows) → AreTables t → IsChange t.router (state_of t) c → (moment : ℕ) (parts : EditParts) → parts ≡ parts_of c.edits → moment ≡ unwrap_or parts.moment t.moment → rests_with_edits moment parts.labels parts.rest_until t.labels ≡ (changed c (state_of t)).resting
rests_are c t are change moment parts is now =
    let at : moment ≡ unwrap_or c.edits.moment t.moment = now ∙ ap (λ (p : EditParts). unwrap_or p.moment t.moment) is in
    (λ i. rested (max (are.moment i) (at i)) (unwrap_or (is i).rest_until 0) (freed_by (is i).labels t.labels.labels) (resting_past (at i) t.labels.resting))
    ∙ rests_made c.edits (state_of t) (all_later t.router (state_of t) are.sound) change.later
