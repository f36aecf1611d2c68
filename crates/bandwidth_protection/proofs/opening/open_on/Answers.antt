-- The bypasses of which so much is left are those that are found, or there is none.
use Rattle.std.proofs.Common.{◌==◌, ◌&&◌, ℕ, true, false, List, ap, filter, length, map, subst, sym, ◌∙◌}
use Rattle.lsr_facts.specs.declared.repair.BypassTunnel.{BypassTunnel}
use Rattle.lsr_facts.specs.declared.repair.Selected.{Selected}
use Rattle.abstract_paths.specs.Tears.{leaves_by}
use Rattle.abstract_router.specs.Assigning.{has_capacity, rate_in, wants_bandwidth}
use Rattle.abstract_router.specs.Lsps.{around_of}
use Rattle.abstract_router.specs.Protecting.{candidates_of}
use Rattle.bandwidth_protection.proofs.Rounds.{left_open, open_as}
use Rattle.bandwidth_protection.specs.Candidates.{AreOpen}
use Rattle.bandwidth_protection.specs.Narrowing.{has_left}
use Rattle.bandwidth_protection.proofs.opening.open_on.Goals as goal

pub returns-then-is_empty : goal.returns-then-is_empty
returns-then-is_empty g c =
    let r = g.A.StateView.router c.args.after.now in
    let s = g.A.StateView.state c.args.after.now in
    let path = c.args.path.now in
    let resv = c.args.resv.now in
    let left = c.args.opening.now.left in
    let rate = c.in_ok-rate.rate in
    let full = map (λ (choice : Selected). choice.bypass) (filter has_capacity (candidates_of (around_of r s) c.args.key.now path resv)) in
    let are_open = subst (λ (rooms : List ((ℕ × BypassTunnel) × ℕ)). AreOpen r s rate rooms (has_left left rate)) (sym (c.as_slice.ensures.value ∙ c.requires.rooms)) (left_open r s left rate) in
    open_as r s (wants_bandwidth path && leaves_by resv.link path) (rate_in resv) full left rate c.candidates-bypasses.result true
    (sym c.in_ok-rate.was ∙ c.asked_rate.ensures)
    (c.candidates-bypasses.ensures (has_left left rate) are_open)
    (ap (λ (numbers : List ℕ). length numbers == 0) (sym c.as_slice-2.ensures) ∙ sym c.is_empty.ensures ∙ c.if-is_empty.true)

pub returns : goal.returns
returns g c =
    let r = g.A.StateView.router c.args.after.now in
    let s = g.A.StateView.state c.args.after.now in
    let path = c.args.path.now in
    let resv = c.args.resv.now in
    let left = c.args.opening.now.left in
    let rate = c.in_ok-rate.rate in
    let full = map (λ (choice : Selected). choice.bypass) (filter has_capacity (candidates_of (around_of r s) c.args.key.now path resv)) in
    let are_open = subst (λ (rooms : List ((ℕ × BypassTunnel) × ℕ)). AreOpen r s rate rooms (has_left left rate)) (sym (c.as_slice.ensures.value ∙ c.requires.rooms)) (left_open r s left rate) in
    open_as r s (wants_bandwidth path && leaves_by resv.link path) (rate_in resv) full left rate c.candidates-bypasses.result false
    (sym c.in_ok-rate.was ∙ c.asked_rate.ensures)
    (c.candidates-bypasses.ensures (has_left left rate) are_open)
    (ap (λ (numbers : List ℕ). length numbers == 0) (sym c.as_slice-2.ensures) ∙ sym c.is_empty.ensures ∙ c.if-is_empty.false)
