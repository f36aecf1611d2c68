-- What a turn serves, and what it took for it.
use Rattle.std.specs.Prelude.{◌≡◌, Ok}
use Rattle.link_frames.specs.Frames.{frame_bytes}
use Rattle.link_frames.specs.declared.frame.Frame.{Frame}
use Rattle.datagrams.specs.declared.datagram.Datagram.TheVariants as datagrams
use Rattle.datagrams.specs.declared.datagram.Passed.TheVariants as passes
use Rattle.interface_workers.specs.declared.next.Next.{Next}
use Rattle.interface_workers.specs.declared.next.Next.TheVariants as nexts
use Rattle.interface_workers.specs.declared.worker.Taken.{Taken}
use Rattle.interface_workers.specs.declared.worker.Taken.TheVariants as takes

-- What is served stands for what was taken: an event that was read before its turn for a datagram that says it, and the bytes of a labelled
-- frame that goes on for that frame.
abbrev pub StandsFor : Next → Taken → Type 0
StandsFor (nexts.Taken own) taken = taken ≡ own
StandsFor (nexts.Early event) taken = taken ≡ takes.Came (Ok (datagrams.Event event))
StandsFor (nexts.Rewritten link bytes) taken = (frame : Frame) × (taken ≡ takes.Came (Ok (datagrams.Passed (passes.Sent link frame)))) × (bytes.now ≡ frame_bytes frame)
