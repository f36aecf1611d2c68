-- The answer by the kind.
use Rattle.std.proofs.Common.{rules, sym, ◌∙◌}
use Rattle.rsvp_messages.proofs.Answered.{hop_answered, no_byte, no_kind}
use Rattle.rsvp_messages.proofs.Heads.{hop_head}
use Rattle.rsvp_messages.proofs.frame_reading.read_frame.Goals as goal

pub returns-then-is_empty-clause-reads : goal.returns-then-is_empty-clause-reads
returns-then-is_empty-clause-reads c = no_byte c.args.bytes.now (sym c.is_empty.ensures ∙ c.if-is_empty.true)

pub returns-in-1-clause-reads : goal.returns-in-1-clause-reads
returns-in-1-clause-reads c =
    hop_answered c.args.bytes.now c.split_at.result.1.now c.read_message.result c.map.result (sym c.is_empty.ensures ∙ c.if-is_empty.false) (search rules)
    c.split_at.ensures.back c.map.ensures.cases c.read_message.ensures.reads

pub returns-in-1-clause-memory : goal.returns-in-1-clause-memory
returns-in-1-clause-memory c =
    hop_head c.args.bytes.now c.split_at.result.1.now c.read_message.result c.map.result (sym c.is_empty.ensures ∙ c.if-is_empty.false) (search rules)
    c.split_at.ensures.back c.map.ensures.cases c.read_message.ensures.header

pub returns-in_default-clause-reads : goal.returns-in_default-clause-reads
returns-in_default-clause-reads c = no_kind c.args.bytes.now (sym c.is_empty.ensures ∙ c.if-is_empty.false) (search rules) (search rules) (search rules)
