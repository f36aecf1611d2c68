-- One LSP more is looked at: the edit of its promise is put, if there is to be one.
use Rattle.std.proofs.Common.{◌≡◌, ◌<◌, [], List, get_or, ap, length, subst, sym, ◌∙◌}
use Rattle.std.proofs.lemmas.List.{get_or_default}
use Rattle.std.specs.FinMap.Entries.{put}
use Rattle.std.specs.Option.{option_map_or}
use Rattle.lsr_facts.specs.OrderLaws.{key_exact, key_total}
use Rattle.lsr_facts.specs.Orders.{key_cmp}
use Rattle.lsr_facts.specs.declared.assignment.Assignment.{Assignment}
use Rattle.lsr_facts.specs.declared.key.Key.{Key}
use Rattle.state_settling.specs.Promises.{promise_edit}
use Rattle.make_before_break.proofs.Asking.{one_asked}
use Rattle.state_settling.proofs.promises.with_edits_of_new.Goals as goal
use Rattle.state_settling.proofs.promises.with_edits_of_new.Goals.{in-Some+in_ok-set, in_default}

pub loop-row-preserved : goal.loop-row-preserved
loop-row-preserved g c =
    let ask = promise_edit (g.V.StateView.state c.args.view.now).assignments c.args.now.now in
    let before = c.loop-row.all in
    let rows = c.as_slice-rows.result.now in
    let at = c.loop-row.row-index in
    let none : Key × Assignment =
    (record { session = record { endpoint = record { octets = [] }; tunnel = 0; extended = record { octets = [] } }; sender = record { sender = record { octets = [] }; lsp = 0 } }, record { bypass = 0; rate = 0 }) in
    let now = c.args.now.now in
    let same = c.as_slice-rows.ensures.rows in
    let row = get_or rows at none in
    let within : at < length now = subst (λ (all : List (Key × Assignment)). at < length all) same c.loop-row-test.true in
    let is : row ≡ get_or now at row = ap (λ (all : List (Key × Assignment)). get_or all at none) same ∙ get_or_default now at none row within in
    let with = λ (edit : _). option_map_or (λ now. put key_cmp row.0 now before) edit before in
    let asked = one_asked key_cmp key_total key_exact now at ask c.args.edits before c.match-promise_edit.all row within is in
    elim c.match-promise_edit.branch [
      | in-Some+in_ok-set w ↦ asked (w.all-is ∙ w.in_ok-set.ensures.ok ∙ ap with (sym w.in-Some.is ∙ c.promise_edit.ensures)) c.loop-row.invariant
      | in_default w ↦ asked (w.all-is ∙ ap with (sym w.in_default.is ∙ c.promise_edit.ensures)) c.loop-row.invariant
    ]
