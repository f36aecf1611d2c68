-- One more record stands there.
use Rattle.std.proofs.Common.{◌+◌, ◌++◌, ◌∙◌, ap, take}
use Rattle.std.proofs.lemmas.List.{take_more}
use Rattle.config_text.specs.Printing.{bypass_record}
use Rattle.object_text.proofs.Growing.{rows_push_after}
use Rattle.config_text.proofs.printing.push_bypasses.Goals as goal

pub loop-bypass-preserved : goal.loop-bypass-preserved
loop-bypass-preserved c =
    let bypasses = c.args.bypasses.now in
    let i = c.loop-bypass.bypass-index in
    let grown = c.in_ok-extend_from_slice.ensures.items ∙ ap (λ bytes. c.loop-bypass.text.items ++ bytes) (c.as_bytes.ensures.value ∙ c.in_ok-record.ensures) in
    rows_push_after bypass_record c.args.text.now.items c.loop-bypass.text.items c.extend_from_slice.new.self.items (take i bypasses) (take (i + 1) bypasses) _ c.loop-bypass.invariant grown (take_more bypasses i _ c.loop-bypass-test.true)
