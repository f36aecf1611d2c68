-- Of an LSP that has no edit the same is known.
use Rattle.std.proofs.Common.{◌≡◌, List, ap, false, true, ◌∙◌}
use Rattle.lsr_facts.specs.Orders.{key_cmp}
use Rattle.lsr_facts.specs.declared.key.Key.{Key}
use Rattle.abstract_paths.specs.Touched.{is_among}
use Rattle.abstract_router.specs.Lsps.{lsp_at}
use Rattle.state_views.specs.Edits.{edited}
use Rattle.state_sends.specs.Touching.{IsSaidAgain, said_by_resvs}
use Rattle.state_sends.proofs.Lifting.{ok_weaker}
use Rattle.state_sends.proofs.Touching.{same_apart}
use Rattle.state_sends.proofs.touched.changed_lsps.Goals as goal

pub returns : goal.returns
returns g c =
    let s = g.V.StateView.state c.args.view.now in
    let e = c.args.edits.now in
    let lsps = c.as_slice.result.now in
    ok_weaker c.changed_among.result
    (λ all. (key : Key) → is_among key_cmp lsps key ≡ true → is_among key_cmp all key ≡ false → IsSaidAgain said_by_resvs s (edited e s) key)
    (λ all. (key : Key) → is_among key_cmp all key ≡ false → lsp_at s key ≡ lsp_at (edited e s) key)
    (λ all same. same_apart s e lsps all (λ key. ap (λ (rows : List (Key × Unit {0})). is_among key_cmp rows key) c.as_slice.ensures.rows ∙ c.in_ok-edited.ensures key) same)
    c.changed_among.ensures
