-- The text is that of the stream, or the stream has none.
use Rattle.std.proofs.Common.{string_bytes}
use Rattle.lsr_runs.proofs.Sessions.{config_fault, config_text}
use Rattle.lsr_runs.proofs.session.read_config_text.Goals as goal

pub returns-in-Ok-clause-text : goal.returns-in-Ok-clause-text
returns-in-Ok-clause-text g c = config_text g.C.ByteStream.stream c.args.config c.in-Some.stream (string_bytes c.in-Ok.text) c.in-Some.is c.in-Ok.ensures.text

pub returns-clause-fault : goal.returns-clause-fault
returns-clause-fault g c = config_fault g.C.ByteStream.stream c.args.config c.in-Some.stream c.in-Err.fault c.in-Some.is c.in-Err.ensures.fault
