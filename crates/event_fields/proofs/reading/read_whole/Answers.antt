-- Bytes that were dropped, or read with an object that their type doesn't know, spell no message whole.
use Rattle.event_fields.proofs.Told.{dropped_whole, unknown_whole}
use Rattle.event_fields.proofs.reading.read_whole.Goals as goal

pub returns-in-Ok-Unknown : goal.returns-in-Ok-Unknown
returns-in-Ok-Unknown c = unknown_whole c.args.bytes.now c.in-Ok-Unknown.field-0-0 c.in-Ok-Unknown.field-0-1 c.in-Ok-Unknown.field-0-2 (rw c.in-Ok-Unknown.field-0-is at c.in-Ok-Unknown.ensures.reads)

pub returns : goal.returns
returns c = rw c.fault_of.ensures (dropped_whole c.args.bytes.now c.in-Err.dropped c.in-Err.ensures.reads)
