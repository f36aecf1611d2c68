-- The edits of all that were promised anything before or are from now on lead to what is promised from now on.
use Rattle.std.proofs.Common.{◌≡◌}
use Rattle.std.proofs.lemmas.Result.{IfOk-weaker}
use Rattle.std.specs.FinMap.Entries.{find}
use Rattle.std.specs.Option.{option_and_then, option_or}
use Rattle.sorted_rows.specs.Edits as rows
use Rattle.lsr_facts.specs.Orders.{key_cmp}
use Rattle.lsr_facts.specs.declared.key.Key.{Key}
use Rattle.state_settling.specs.Promises.{promise_edit}
use Rattle.state_settling.specs.PromisesLaws.{promised_by}
use Rattle.state_settling.proofs.promises.promise_edits.Goals as goal

pub returns : goal.returns
returns g c =
    let before = (g.V.StateView.state c.args.view.now).assignments in
    let now = c.args.now.now in
    let known = c.in_ok-known.known in
    IfOk-weaker c.with_edits_of_new.result
    (λ edits. (key : Key) → find key_cmp key edits ≡ option_or (option_and_then (λ row. promise_edit before now key) (find key_cmp key now)) (find key_cmp key known))
    (λ edits. rows.edited key_cmp edits before ≡ now)
    (λ edits all. promised_by before now known edits c.requires c.as_slice.ensures.sorted c.in_ok-known.ensures all)
    c.with_edits_of_new.ensures
