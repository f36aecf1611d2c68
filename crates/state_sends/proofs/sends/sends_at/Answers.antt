-- What comes of the touched LSPs is all that is sent.
use Rattle.std.proofs.Common.{◌≡◌, IfOk, List, Option, T, ℕ, ap, length, subst, sym, ◌∙◌}
use Rattle.std.proofs.lemmas.Bool.{eqb-true}
use Rattle.std.proofs.lemmas.List.{nil_from_length}
use Rattle.std.specs.FinMap.Entries.{find, is_sorted, where_key}
use Rattle.std.specs.declared.cmp.Ordering.{Ordering}
use Rattle.sorted_rows.specs.Edits as edits
use Rattle.sorted_rows.specs.Rows.{keys_of}
use Rattle.lsr_facts.specs.Orders.{key_cmp}
use Rattle.abstract_paths.specs.declared.events.Output.{Output}
use Rattle.abstract_paths.specs.Outputs.{between, send_for, tear_for}
use Rattle.abstract_paths.specs.Stamps.{stamps}
use Rattle.abstract_paths.specs.Touched.{is_among, moments_between}
use Rattle.abstract_router.specs.Lsps.{around_of, lsps_of}
use Rattle.state_views.specs.Edits.{edited}
use Rattle.state_sends.proofs.Lifting.{ok_weaker}
use Rattle.state_sends.proofs.Sending.{none_some, same_some, sorted_some, step_moments, step_sends, step_tears}
use Rattle.state_sends.proofs.sends.sends_at.Goals as goal

pub sends_between-requires-clause-was : goal.sends_between-requires-clause-was
sends_between-requires-clause-was g c =
    let r = g.V.StateView.router c.args.view.now in
    let s = g.V.StateView.state c.args.view.now in
    let laws = g.met.I.KeptAlive in
    let kind = g.I.KeptAlive in
    subst (λ (cmp : _ → _ → Ordering). T (is_sorted cmp c.as_slice-2.result.now)) (sym c.are_in_order.ensures)
    (subst (λ (rows : List (_ × Output)). T (is_sorted kind.order rows)) (sym (c.as_slice-2.ensures.value ∙ c.in_ok-was.ensures.rows))
    (sorted_some kind.order laws.total laws.exact kind.of kind.said kind.rows laws.from_said laws.none laws.parts laws.in_order r s c.args.edits.now c.in_ok-touched.touched s c.requires.before.paths.paths))

pub sends_between-requires-clause-is : goal.sends_between-requires-clause-is
sends_between-requires-clause-is g c =
    let r = g.V.StateView.router c.args.view.now in
    let s = g.V.StateView.state c.args.view.now in
    let laws = g.met.I.KeptAlive in
    let kind = g.I.KeptAlive in
    subst (λ (cmp : _ → _ → Ordering). T (is_sorted cmp c.in_ok-is.is'.items)) (sym c.are_in_order.ensures)
    (subst (λ (rows : List (_ × Output)). T (is_sorted kind.order rows)) (sym c.in_ok-is.ensures.rows)
    (sorted_some kind.order laws.total laws.exact kind.of kind.said kind.rows laws.from_said laws.none laws.parts laws.in_order r s c.args.edits.now c.in_ok-touched.touched (edited c.args.edits.now s) c.requires.after.paths))

pub returns-clause-tears : goal.returns-clause-tears
returns-clause-tears g c =
    let r = g.V.StateView.router c.args.view.now in
    let s = g.V.StateView.state c.args.view.now in
    let e = c.args.edits.now in
    let laws = g.met.I.KeptAlive in
    let kind = g.I.KeptAlive in
    let was = c.as_slice-2.ensures.value ∙ c.in_ok-was.ensures.rows in
    let is = c.in_ok-is.ensures.rows in
    subst (λ (tears : List Output). IfOk c.sends_between.result (λ sends. sends.tears ≡ tears))
    ((λ i. between (c.are_in_order.ensures i) (tear_for (c.up_after-up.ensures i)) (was i) (is i))
    ∙ step_tears kind.order laws.total laws.exact kind.of kind.said kind.rows laws.from_said laws.none laws.parts laws.in_order r s e c.in_ok-touched.touched c.in_ok-touched.ensures.all c.requires.before.paths.paths c.requires.after.paths c.args.due.now c.in_ok-touched.ensures.due (edited e s).facts.up)
    c.sends_between.ensures.tears

pub returns-clause-sends : goal.returns-clause-sends
returns-clause-sends g c =
    let r = g.V.StateView.router c.args.view.now in
    let s = g.V.StateView.state c.args.view.now in
    let e = c.args.edits.now in
    let laws = g.met.I.KeptAlive in
    let kind = g.I.KeptAlive in
    let was = c.as_slice-2.ensures.value ∙ c.in_ok-was.ensures.rows in
    let is = c.in_ok-is.ensures.rows in
    subst (λ (out : List Output). IfOk c.sends_between.result (λ sends. sends.sends ≡ out))
    ((λ i. between (c.are_in_order.ensures i) (send_for (c.are_in_order.ensures i) c.args.due.now) (is i) (was i))
    ∙ step_sends kind.order laws.total laws.exact kind.of kind.said kind.rows laws.from_said laws.none laws.parts laws.in_order r s e c.in_ok-touched.touched c.in_ok-touched.ensures.all c.requires.before.paths.paths c.requires.after.paths c.args.due.now c.in_ok-touched.ensures.due)
    c.sends_between.ensures.sends

pub returns-clause-moments : goal.returns-clause-moments
returns-clause-moments g c =
    let r = g.V.StateView.router c.args.view.now in
    let s = g.V.StateView.state c.args.view.now in
    let e = c.args.edits.now in
    let laws = g.met.I.KeptAlive in
    let kind = g.I.KeptAlive in
    let all = c.in_ok-touched.touched in
    let due = c.args.due.now in
    let was = c.as_slice-2.ensures.value ∙ c.in_ok-was.ensures.rows in
    let is = c.in_ok-is.ensures.rows in
    ok_weaker c.sends_between.result
    (λ sends. (item : _) → find kind.order item sends.moments ≡ find kind.order item (moments_between kind.order due (edited e s).facts.moment (kind.rows (around_of r s) (where_key key_cmp (is_among key_cmp all) (lsps_of s))) (kind.rows (around_of r (edited e s)) (where_key key_cmp (is_among key_cmp all) (lsps_of (edited e s))))))
    (λ sends. (sent : List (_ × ℕ)) → keys_of sent ≡ keys_of (kind.rows (around_of r s) (lsps_of s)) → edits.edited kind.order sends.moments sent ≡ stamps kind.order due (kind.rows (around_of r s) (lsps_of s)) sent (edited e s).facts.moment (kind.rows (around_of r (edited e s)) (lsps_of (edited e s))))
    (λ sends become. step_moments kind.order laws.total laws.exact kind.of kind.said kind.rows laws.from_said laws.none laws.parts laws.in_order r s e all c.in_ok-touched.ensures.all c.requires.before.paths.paths c.requires.after.paths due c.in_ok-touched.ensures.due (edited e s).facts.moment sends.moments become)
    (subst (λ (moments : List (_ × Option ℕ)). IfOk c.sends_between.result (λ sends. (item : _) → find kind.order item sends.moments ≡ find kind.order item moments))
    (λ i. moments_between kind.order due (c.moment-2.ensures.moment i) (was i) (is i))
    (subst (λ (cmp : _ → _ → Ordering). IfOk c.sends_between.result (λ sends. (item : _) → find cmp item sends.moments ≡ find cmp item (moments_between cmp due c.moment-2.result c.as_slice-2.result.now c.in_ok-is.is'.items))) c.are_in_order.ensures
    c.sends_between.ensures.moments))

-- Where the same is wanted before and after, what is built is both.
pub sends_again-requires-clause-is : goal.sends_again-requires-clause-is
sends_again-requires-clause-is g c =
    let r = g.V.StateView.router c.args.view.now in
    let s = g.V.StateView.state c.args.view.now in
    let laws = g.met.I.KeptAlive in
    let kind = g.I.KeptAlive in
    subst (λ (cmp : _ → _ → Ordering). T (is_sorted cmp c.in_ok-is.is'.items)) (sym c.are_in_order.ensures)
    (subst (λ (rows : List (_ × Output)). T (is_sorted kind.order rows)) (sym c.in_ok-is.ensures.rows)
    (sorted_some kind.order laws.total laws.exact kind.of kind.said kind.rows laws.from_said laws.none laws.parts laws.in_order r s c.args.edits.now c.in_ok-touched.touched (edited c.args.edits.now s) c.requires.after.paths))

pub returns-then-is_same_everywhere-clause-tears : goal.returns-then-is_same_everywhere-clause-tears
returns-then-is_same_everywhere-clause-tears g c =
    let r = g.V.StateView.router c.args.view.now in
    let s = g.V.StateView.state c.args.view.now in
    let e = c.args.edits.now in
    let laws = g.met.I.KeptAlive in
    let kind = g.I.KeptAlive in
    let up = (edited e s).facts.up in
    let is = c.in_ok-is.ensures.rows in
    let was = is ∙ same_some kind.said kind.rows laws.from_said r s e (is_among key_cmp c.in_ok-touched.touched) c.requires.before.paths.paths.in_order c.requires.after.paths.in_order (c.is_same_everywhere.ensures c.if-is_same_everywhere.true) in
    ok_weaker c.sends_again.result _ (λ sends. sends.tears ≡ between kind.order (tear_for up) (kind.rows (around_of r s) (lsps_of s)) (kind.rows (around_of r (edited e s)) (lsps_of (edited e s))))
    (λ sends told.
    told up
    ∙ (λ i. between (c.are_in_order.ensures i) (tear_for up) (was i) (is i))
    ∙ step_tears kind.order laws.total laws.exact kind.of kind.said kind.rows laws.from_said laws.none laws.parts laws.in_order r s e c.in_ok-touched.touched c.in_ok-touched.ensures.all c.requires.before.paths.paths c.requires.after.paths c.args.due.now c.in_ok-touched.ensures.due up)
    c.sends_again.ensures.tears

pub returns-then-is_same_everywhere-clause-sends : goal.returns-then-is_same_everywhere-clause-sends
returns-then-is_same_everywhere-clause-sends g c =
    let r = g.V.StateView.router c.args.view.now in
    let s = g.V.StateView.state c.args.view.now in
    let e = c.args.edits.now in
    let laws = g.met.I.KeptAlive in
    let kind = g.I.KeptAlive in
    let is = c.in_ok-is.ensures.rows in
    let was = is ∙ same_some kind.said kind.rows laws.from_said r s e (is_among key_cmp c.in_ok-touched.touched) c.requires.before.paths.paths.in_order c.requires.after.paths.in_order (c.is_same_everywhere.ensures c.if-is_same_everywhere.true) in
    subst (λ (out : List Output). IfOk c.sends_again.result (λ sends. sends.sends ≡ out))
    ((λ i. between (c.are_in_order.ensures i) (send_for (c.are_in_order.ensures i) c.args.due.now) (is i) (was i))
    ∙ step_sends kind.order laws.total laws.exact kind.of kind.said kind.rows laws.from_said laws.none laws.parts laws.in_order r s e c.in_ok-touched.touched c.in_ok-touched.ensures.all c.requires.before.paths.paths c.requires.after.paths c.args.due.now c.in_ok-touched.ensures.due)
    c.sends_again.ensures.sends

pub returns-then-is_same_everywhere-clause-moments : goal.returns-then-is_same_everywhere-clause-moments
returns-then-is_same_everywhere-clause-moments g c =
    let r = g.V.StateView.router c.args.view.now in
    let s = g.V.StateView.state c.args.view.now in
    let e = c.args.edits.now in
    let laws = g.met.I.KeptAlive in
    let kind = g.I.KeptAlive in
    let all = c.in_ok-touched.touched in
    let due = c.args.due.now in
    let is = c.in_ok-is.ensures.rows in
    let was = is ∙ same_some kind.said kind.rows laws.from_said r s e (is_among key_cmp all) c.requires.before.paths.paths.in_order c.requires.after.paths.in_order (c.is_same_everywhere.ensures c.if-is_same_everywhere.true) in
    ok_weaker c.sends_again.result
    (λ sends. (item : _) → find kind.order item sends.moments ≡ find kind.order item (moments_between kind.order due (edited e s).facts.moment (kind.rows (around_of r s) (where_key key_cmp (is_among key_cmp all) (lsps_of s))) (kind.rows (around_of r (edited e s)) (where_key key_cmp (is_among key_cmp all) (lsps_of (edited e s))))))
    (λ sends. (sent : List (_ × ℕ)) → keys_of sent ≡ keys_of (kind.rows (around_of r s) (lsps_of s)) → edits.edited kind.order sends.moments sent ≡ stamps kind.order due (kind.rows (around_of r s) (lsps_of s)) sent (edited e s).facts.moment (kind.rows (around_of r (edited e s)) (lsps_of (edited e s))))
    (λ sends become. step_moments kind.order laws.total laws.exact kind.of kind.said kind.rows laws.from_said laws.none laws.parts laws.in_order r s e all c.in_ok-touched.ensures.all c.requires.before.paths.paths c.requires.after.paths due c.in_ok-touched.ensures.due (edited e s).facts.moment sends.moments become)
    (subst (λ (moments : List (_ × Option ℕ)). IfOk c.sends_again.result (λ sends. (item : _) → find kind.order item sends.moments ≡ find kind.order item moments))
    (λ i. moments_between kind.order due (c.moment.ensures.moment i) (was i) (is i))
    (subst (λ (cmp : _ → _ → Ordering). IfOk c.sends_again.result (λ sends. (item : _) → find cmp item sends.moments ≡ find cmp item (moments_between cmp due c.moment.result c.in_ok-is.is'.items c.in_ok-is.is'.items))) c.are_in_order.ensures
    c.sends_again.ensures.moments))

-- Of no LSPs nothing is wanted: so nothing is sent.
pub returns-then-is_empty-clause-tears : goal.returns-then-is_empty-clause-tears
returns-then-is_empty-clause-tears g c =
    let r = g.V.StateView.router c.args.view.now in
    let s = g.V.StateView.state c.args.view.now in
    let e = c.args.edits.now in
    let laws = g.met.I.KeptAlive in
    let kind = g.I.KeptAlive in
    let all = c.in_ok-touched.touched in
    let up = (edited e s).facts.up in
    let empty = none_some kind.order laws.total laws.exact kind.of kind.said kind.rows laws.from_said laws.none laws.parts laws.in_order r s e all (sym c.as_slice.ensures.rows ∙ nil_from_length c.as_slice.result.now (eqb-true (length c.as_slice.result.now) 0 (sym c.is_empty.ensures ∙ c.if-is_empty.true))) in
    c.nothing_sent.ensures.tears
    ∙ (λ i. between kind.order (tear_for up) (sym (empty s) i) (sym (empty (edited e s)) i))
    ∙ step_tears kind.order laws.total laws.exact kind.of kind.said kind.rows laws.from_said laws.none laws.parts laws.in_order r s e all c.in_ok-touched.ensures.all c.requires.before.paths.paths c.requires.after.paths c.args.due.now c.in_ok-touched.ensures.due up

pub returns-then-is_empty-clause-sends : goal.returns-then-is_empty-clause-sends
returns-then-is_empty-clause-sends g c =
    let r = g.V.StateView.router c.args.view.now in
    let s = g.V.StateView.state c.args.view.now in
    let e = c.args.edits.now in
    let laws = g.met.I.KeptAlive in
    let kind = g.I.KeptAlive in
    let all = c.in_ok-touched.touched in
    let due = c.args.due.now in
    let empty = none_some kind.order laws.total laws.exact kind.of kind.said kind.rows laws.from_said laws.none laws.parts laws.in_order r s e all (sym c.as_slice.ensures.rows ∙ nil_from_length c.as_slice.result.now (eqb-true (length c.as_slice.result.now) 0 (sym c.is_empty.ensures ∙ c.if-is_empty.true))) in
    c.nothing_sent.ensures.sends
    ∙ (λ i. between kind.order (send_for kind.order due) (sym (empty (edited e s)) i) (sym (empty s) i))
    ∙ step_sends kind.order laws.total laws.exact kind.of kind.said kind.rows laws.from_said laws.none laws.parts laws.in_order r s e all c.in_ok-touched.ensures.all c.requires.before.paths.paths c.requires.after.paths due c.in_ok-touched.ensures.due

pub returns-then-is_empty-clause-moments : goal.returns-then-is_empty-clause-moments
returns-then-is_empty-clause-moments g c =
    let r = g.V.StateView.router c.args.view.now in
    let s = g.V.StateView.state c.args.view.now in
    let e = c.args.edits.now in
    let laws = g.met.I.KeptAlive in
    let kind = g.I.KeptAlive in
    let all = c.in_ok-touched.touched in
    let due = c.args.due.now in
    let now = (edited e s).facts.moment in
    let empty = none_some kind.order laws.total laws.exact kind.of kind.said kind.rows laws.from_said laws.none laws.parts laws.in_order r s e all (sym c.as_slice.ensures.rows ∙ nil_from_length c.as_slice.result.now (eqb-true (length c.as_slice.result.now) 0 (sym c.is_empty.ensures ∙ c.if-is_empty.true))) in
    step_moments kind.order laws.total laws.exact kind.of kind.said kind.rows laws.from_said laws.none laws.parts laws.in_order r s e all c.in_ok-touched.ensures.all c.requires.before.paths.paths c.requires.after.paths due c.in_ok-touched.ensures.due now c.nothing_sent.result.moments
    (λ item. ap (find kind.order item) (c.nothing_sent.ensures.moments ∙ (λ i. moments_between kind.order due now (sym (empty s) i) (sym (empty (edited e s)) i))))
