-- The LSPs that are looked at are all for which what they have can stand no more.
use Rattle.std.proofs.Common.{◌≡◌, ◌++◌, filter_map, ◌∙◌}
use Rattle.std.proofs.lemmas.Result.{IfOk-weaker}
use Rattle.lsr_facts.specs.declared.key.Key.{Key}
use Rattle.abstract_router.specs.States.{is_one_of}
use Rattle.state_views.specs.Edits.{edited}
use Rattle.state_settling.specs.Falling.{failing_key, fails_at}
use Rattle.state_settling.specs.FallingLaws.{failing_of_all, failing_of_edits}
use Rattle.state_settling.proofs.standing.fallen.Goals as goal

pub returns-then-stand_still : goal.returns-then-stand_still
returns-then-stand_still g c =
    let r = g.V.StateView.router c.args.view.now in
    let s = g.V.StateView.state c.args.view.now in
    let e = c.args.edits.now in
    let was = g.S.Falling.row_stands r s in
    let test = g.S.Falling.row_stands r (edited e s) in
    let es = g.S.Standing.row_edits e in
    let after = g.S.Falling.rows (edited e s) in
    let keys = c.in_ok-keys.keys in
    let among_edits : keys.items ≡ filter_map (λ row. failing_key test after row.0) es =
    c.in_ok-keys.ensures ∙ (λ i. c.new.ensures.items i ++ filter_map (λ row. failing_key test after row.0) (c.edited_rows.ensures i)) in
    IfOk-weaker c.with_fallen-then-stand_still.result
    (λ all. all.items ≡ keys.items ++ filter_map (λ path. failing_key test after path.0) c.as_slice.result.now)
    (λ all. (key : Key) → is_one_of all.items key ≡ fails_at test after key)
    (λ all is. failing_of_edits test es (g.S.Falling.rows s) after (g.met.S.Standing.rows_edited s e) was e.paths all.items c.requires (c.stand_still.ensures c.if-stand_still.true)
    (is ∙ (λ i. among_edits i ++ filter_map (λ path. failing_key test after path.0) (c.as_slice.ensures.rows i))))
    c.with_fallen-then-stand_still.ensures

pub returns-else-stand_still : goal.returns-else-stand_still
returns-else-stand_still g c =
    let r = g.V.StateView.router c.args.view.now in
    let s = g.V.StateView.state c.args.view.now in
    let e = c.args.edits.now in
    let test = g.S.Falling.row_stands r (edited e s) in
    let es = g.S.Standing.row_edits e in
    let after = g.S.Falling.rows (edited e s) in
    let keys = c.in_ok-keys.keys in
    let among_edits : keys.items ≡ filter_map (λ row. failing_key test after row.0) es =
    c.in_ok-keys.ensures ∙ (λ i. c.new.ensures.items i ++ filter_map (λ row. failing_key test after row.0) (c.edited_rows.ensures i)) in
    IfOk-weaker c.with_all_fallen.result
    (λ all. all.items ≡ keys.items ++ filter_map (λ row. failing_key test after row.0) (g.S.Falling.rows s))
    (λ all. (key : Key) → is_one_of all.items key ≡ fails_at test after key)
    (λ all is. failing_of_all test es (g.S.Falling.rows s) after (g.met.S.Standing.rows_edited s e) all.items (is ∙ (λ i. among_edits i ++ filter_map (λ row. failing_key test after row.0) (g.S.Falling.rows s))))
    c.with_all_fallen.ensures
