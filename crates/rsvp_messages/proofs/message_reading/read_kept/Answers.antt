use Rattle.std.proofs.Common.{sym, ◌∙◌}
use Rattle.rsvp_messages.specs.Answering.{reading_with}
use Rattle.rsvp_messages.proofs.MessageAnswered.{content_said, integrity_said, reading_said, too_long_said}
use Rattle.rsvp_messages.proofs.message_reading.read_kept.Goals as goal

pub returns-then-has_class : goal.returns-then-has_class
returns-then-has_class c =
    let found = rw c.as_slice.ensures.value at c.has_class.ensures in
    integrity_said c.args.kind c.args.objects.items (sym found ∙ c.if-has_class.true)

pub returns-then-not-is_short : goal.returns-then-not-is_short
returns-then-not-is_short c =
    let plain = sym (rw c.as_slice.ensures.value at c.has_class.ensures) ∙ c.if-has_class.false in
    let short = rw c.as_slice-4.ensures.value at c.is_short.ensures in
    too_long_said c.args.kind c.args.objects.items c.in-Ok.flows.items c.in-Ok.parts c.in-Ok.passing plain c.in-Ok.ensures.parts c.in-Ok.ensures.passing c.in-Ok.ensures.flows (sym short ∙ c.if-not-is_short.true)

pub reading_of-requires : goal.reading_of-requires
reading_of-requires c =
    let plain = sym (rw c.as_slice.ensures.value at c.has_class.ensures) ∙ c.if-has_class.false in
    let refused = rw c.as_slice-2.ensures.value at c.refused_in-refused.ensures in
    let misplaced = rw c.as_slice-3.ensures.value at c.is_misplaced-misplaced.ensures in
    let short = sym (rw c.as_slice-4.ensures.value at c.is_short.ensures) ∙ c.if-not-is_short.false in
    let content = sym c.in-Some.is ∙ rw c.as_slice-5.ensures.value at c.in-Ok-content_of.ensures in
    content_said c.in-Some.content c.refused_in-refused.result
    (c.requires (reading_with c.in-Some.content c.refused_in-refused.result)
    (sym (reading_said c.args.kind c.args.objects.items c.in-Ok.flows.items c.in-Ok.parts c.in-Ok.passing c.is_misplaced-misplaced.result c.in-Some.content c.refused_in-refused.result plain c.in-Ok.ensures.parts c.in-Ok.ensures.passing c.in-Ok.ensures.flows misplaced short content refused)))

pub returns-in-Ok-reading_of : goal.returns-in-Ok-reading_of
returns-in-Ok-reading_of c =
    let plain = sym (rw c.as_slice.ensures.value at c.has_class.ensures) ∙ c.if-has_class.false in
    let refused = rw c.as_slice-2.ensures.value at c.refused_in-refused.ensures in
    let misplaced = rw c.as_slice-3.ensures.value at c.is_misplaced-misplaced.ensures in
    let short = sym (rw c.as_slice-4.ensures.value at c.is_short.ensures) ∙ c.if-not-is_short.false in
    let content = sym c.in-Some.is ∙ rw c.as_slice-5.ensures.value at c.in-Ok-content_of.ensures in
    rw c.in-Ok-reading_of.ensures
    (reading_said c.args.kind c.args.objects.items c.in-Ok.flows.items c.in-Ok.parts c.in-Ok.passing c.is_misplaced-misplaced.result c.in-Some.content c.refused_in-refused.result plain c.in-Ok.ensures.parts c.in-Ok.ensures.passing c.in-Ok.ensures.flows misplaced short content refused)
