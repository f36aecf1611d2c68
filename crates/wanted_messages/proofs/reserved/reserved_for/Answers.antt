-- Of an LSP that goes on it is said what is held of it, if anything is.
use Rattle.std.proofs.Common.{◌≡◌, Bool, Some, ap, sym, true, ◌∙◌}
use Rattle.std.specs.Prelude.{if◌then◌else◌}
use Rattle.std.specs.Option.{option_map}
use Rattle.lsr_facts.specs.declared.key.Key.{Key}
use Rattle.abstract_paths.specs.Paths.{goes_on}
use Rattle.abstract_router.specs.Lsps.{Around, Lsp, around_of, held_of, lsp_of}
use Rattle.abstract_router.specs.Upstreams.{own_flags, reserved_by_end, reserved_by_next, reserved_for}
use Rattle.wanted_messages.proofs.reserved.reserved_for.Goals as goal

-- an LSP that goes on
said_on : (a : Around) (lsp : Key × Lsp) → goes_on lsp.1.path.role ≡ true → option_map (reserved_by_next (own_flags a lsp)) (held_of lsp.1) ≡ reserved_for a lsp
said_on a lsp goes =
    ap (λ (b : Bool). if b then option_map (reserved_by_next (own_flags a lsp)) (held_of lsp.1) else Some (reserved_by_end lsp.1.path)) (sym goes)

pub returns-in_ok-reserved_by_next-in-Some : goal.returns-in_ok-reserved_by_next-in-Some
returns-in_ok-reserved_by_next-in-Some g c =
    let s = g.V.StateView.state c.args.view.now in
    let a = around_of (g.V.StateView.router c.args.view.now) s in
    let lsp : Key × Lsp = (c.args.key.now, lsp_of s c.args.key.now c.args.path.now) in
    ap Some c.in_ok-reserved_by_next-in-Some.ensures
    ∙ (λ i. option_map (reserved_by_next (c.own_flags-flags.ensures i)) (c.in-Some.ensures c.args.path.now i))
    ∙ said_on a lsp (sym c.goes_on.ensures ∙ c.if-not-goes_on.false)

pub returns-in-None : goal.returns-in-None
returns-in-None g c =
    let s = g.V.StateView.state c.args.view.now in
    let a = around_of (g.V.StateView.router c.args.view.now) s in
    let lsp : Key × Lsp = (c.args.key.now, lsp_of s c.args.key.now c.args.path.now) in
    ap (option_map (reserved_by_next (own_flags a lsp))) (c.in-None.ensures c.args.path.now) ∙ said_on a lsp (sym c.goes_on.ensures ∙ c.if-not-goes_on.false)
