-- The answer of a reader of datagrams to a frame that goes on.
use Rattle.std.specs.Prelude.{ℕ, Result, Ok}
use Rattle.link_frames.specs.declared.frame.Frame.{Frame}
use Rattle.lsr_facts.specs.declared.refusal.Refusal.{Refusal}
use Rattle.datagrams.specs.declared.datagram.Datagram.{Datagram}
use Rattle.datagrams.specs.declared.datagram.Datagram.TheVariants as kinds
use Rattle.datagrams.specs.declared.datagram.Passed.TheVariants as passes

-- the frame is sent over the link
abbrev pub passed_over : ℕ → Frame → Result Datagram Refusal
passed_over out frame = Ok (kinds.Passed (passes.Sent out frame))
