-- The number of entries, each entry, and where the bytes break.
use Rattle.std.proofs.Common.{rules, ◌+◌, [], inr, refl, arith}
use Rattle.std.proofs.KnownBytes.{Appends-nil}
use Rattle.event_fields.specs.Fitting.{IsWord}
use Rattle.event_fields.specs.Laws.{word_bytes}
use Rattle.journal_lines.proofs.Showing.{counted, found_at, none_at, showing_all, showing_break, showing_more, showing_none}
use Rattle.journal_lines.proofs.journals.show_entries.Goals as goal

pub returns-in_default : goal.returns-in_default
returns-in_default g c =
    ([], inr (none_at IsWord word_bytes c.args.bytes.now c.read.result _ c.read.ensures c.in_ok-count.ensures c.in_default.not-Some, refl, c.breaks.ensures), Appends-nil _)

pub returns-in-None : goal.returns-in-None
returns-in-None g c =
    counted c.args.router.now c.args.format c.args.bytes.now c.in-Some.count c.in-Some.first.now _ _ _ _
    (found_at IsWord word_bytes c.args.bytes.now c.read.result _ c.in-Some.count c.in-Some.first c.read.ensures c.in_ok-count.ensures c.in-Some.is) c.in_ok-write.ensures.bytes
    (showing_break c.args.router.now c.args.format c.in-Some.count c.in-Some.first.now _ _ _ c.loop-passed.passed _ c.loop-passed.rest.now _ _ (omega (arith, c.loop-passed-test.true))
    c.loop-passed.invariant c.in_ok-after.ensures c.in-None.is c.breaks-in-None.ensures)

pub loop-passed-preserved : goal.loop-passed-preserved
loop-passed-preserved g c =
    showing_more c.args.router.now c.args.format c.in-Some.count c.in-Some.first.now _ _ _ c.loop-passed.passed (c.loop-passed.passed + 1) c.loop-passed.rest.now _ _ (omega (arith, c.loop-passed-test.true)) refl
    c.loop-passed.invariant c.in_ok-after.ensures c.in-Some-2.is

pub returns-in-empty : goal.returns-in-empty
returns-in-empty g c =
    counted c.args.router.now c.args.format c.args.bytes.now c.in-Some.count c.in-Some.first.now _ _ _ _
    (found_at IsWord word_bytes c.args.bytes.now c.read.result _ c.in-Some.count c.in-Some.first c.read.ensures c.in_ok-count.ensures c.in-Some.is) c.in_ok-write.ensures.bytes
    (showing_all c.args.router.now c.args.format c.in-Some.count c.in-Some.first.now _ _ c.loop-passed.passed c.loop-passed.rest.now _ (omega (arith, c.loop-passed-test.false)) c.loop-passed.invariant (search rules))

pub returns-in_default-rest : goal.returns-in_default-rest
returns-in_default-rest g c =
    counted c.args.router.now c.args.format c.args.bytes.now c.in-Some.count c.in-Some.first.now _ _ _ _
    (found_at IsWord word_bytes c.args.bytes.now c.read.result _ c.in-Some.count c.in-Some.first c.read.ensures c.in_ok-count.ensures c.in-Some.is) c.in_ok-write.ensures.bytes
    (showing_all c.args.router.now c.args.format c.in-Some.count c.in-Some.first.now _ _ c.loop-passed.passed c.loop-passed.rest.now _ (omega (arith, c.loop-passed-test.false)) c.loop-passed.invariant (search rules))

pub loop-passed-init : goal.loop-passed-init
loop-passed-init g c = showing_none c.args.router.now c.args.format c.in-Some.count c.in-Some.first.now _
