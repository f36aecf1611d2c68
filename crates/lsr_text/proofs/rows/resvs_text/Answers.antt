-- One more reservation has its line.
use Rattle.std.proofs.Common.{◌≡◌, ◌+◌, ◌++◌, ◌∷◌, [], ap, sym, ◌∙◌, take, string_bytes}
use Rattle.std.proofs.lemmas.List.{take_more}
use Rattle.lsr_facts.specs.declared.key.Key.{Key}
use Rattle.lsr_facts.specs.declared.resv_fact.ResvFact.{ResvFact}
use Rattle.lsr_text.specs.Rows.{resv_line}
use Rattle.object_text.proofs.Growing.{rows_push_after}
use Rattle.lsr_text.proofs.rows.resvs_text.Goals as goal

pub loop-resv-preserved : goal.loop-resv-preserved
loop-resv-preserved c =
    let resvs = c.args.resvs.now in
    let i = c.loop-resv.resv-index in
    let resv = c.resv-item.result in
    let more : take (i + 1) resvs ≡ take i resvs ++ resv ∷ [] = take_more resvs i resv c.loop-resv-test.true ∙ ap (λ (p : Key × ResvFact). take i resvs ++ p ∷ []) (sym c.resv-item.is) in
    rows_push_after resv_line [] (string_bytes c.loop-resv.text) (string_bytes c.push_resv.new.text) (take i resvs) (take (i + 1) resvs) resv c.loop-resv.invariant c.in_ok-push_resv.ensures more
