-- The round is that of all wishes, of which only those are made that may come to something.
use Rattle.std.proofs.Common.{ℕ, List, ap, subst, sym, ◌∙◌}
use Rattle.lsr_facts.specs.OrderLaws.{key_total}
use Rattle.lsr_facts.specs.Orders.{key_cmp}
use Rattle.lsr_facts.specs.declared.bypass.Bypass.{Bypass}
use Rattle.bypass_shares.specs.Left.{AreLeft}
use Rattle.bypass_shares.specs.Shares.{capacity_in, each_in_turn, kept_for}
use Rattle.abstract_router.specs.Assigning.{wishes_of}
use Rattle.bandwidth_protection.proofs.Rounds.{kept_rows}
use Rattle.bandwidth_protection.proofs.Turns.{kept_turns}
use Rattle.bandwidth_protection.specs.Keeping.{known_wishes}
use Rattle.bandwidth_protection.proofs.keeping.keep.Goals as goal

pub returns-clause-kept : goal.returns-clause-kept
returns-clause-kept g c =
    let r = g.A.StateView.router c.args.after.now in
    let s = g.A.StateView.state c.args.after.now in
    let capacity = capacity_in s.facts.bypasses in
    let before = subst (λ (bypasses : List (ℕ × Bypass)). AreLeft (capacity_in bypasses) c.in_ok-left.left c.args.used) c.bypasses.ensures.bypasses c.in_ok-left.ensures in
    let turns = c.in_ok-staying.ensures capacity before in
    let known = c.as_slice-2.ensures.rows in
    c.in_ok-kept.ensures ∙ turns.1
    ∙ (λ i. each_in_turn key_cmp capacity (kept_for key_cmp capacity (known i)) c.args.used (known_wishes r s (known i)))
    ∙ ap (λ wishes. each_in_turn key_cmp capacity (kept_for key_cmp capacity c.args.known.now) c.args.used wishes) (kept_rows r s c.requires.resvs c.args.known.now c.as_slice-2.ensures.sorted)
    ∙ kept_turns key_cmp capacity key_total c.args.known.now c.args.used (wishes_of r s) c.as_slice.ensures.sorted

pub returns-clause-left : goal.returns-clause-left
returns-clause-left g c =
    let s = g.A.StateView.state c.args.after.now in
    let capacity = capacity_in s.facts.bypasses in
    let before = subst (λ (bypasses : List (ℕ × Bypass)). AreLeft (capacity_in bypasses) c.in_ok-left.left c.args.used) c.bypasses.ensures.bypasses c.in_ok-left.ensures in
    subst (AreLeft capacity c.keep_each.new.left) (sym c.in_ok-kept.ensures) (c.in_ok-staying.ensures capacity before).0
