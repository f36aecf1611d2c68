-- When a labelled frame goes on, and what it is as it leaves.
use Rattle.std.specs.Prelude.{◌≡◌, ◌≤◌, ℕ, List, ◌∷◌, ◌++◌, length, drop, None}
use Rattle.label_stacks.specs.declared.entry.StackEntry.{StackEntry}
use Rattle.label_stacks.specs.Stacks.{stack_bytes, stack_of}
use Rattle.link_frames.specs.Frames.{frame_fault, kind_of, payload_in, payload_part, words_of}
use Rattle.link_frames.specs.declared.frame.Frame.{Frame}
use Rattle.link_frames.specs.declared.frame.Frame.TheVariants as frames
use Rattle.link_frames.specs.declared.payload.Payload.TheVariants as payloads
use Rattle.forwarding_table.specs.declared.forwarding.Forwarding.{Forwarding}
use Rattle.forwarding_table.specs.declared.forwarding.Forwarding.TheVariants.{Send}
use Rattle.frame_rewriting.specs.declared.rewriting.Rewritten.{Rewritten}

-- a Labelled frame that has no fault (RFC 3032, 2.1)
pub record IsLabelled (bytes : List ℕ) : Type 0 where
  pub kind : kind_of bytes ≡ 2
  pub sound : frame_fault bytes ≡ None

-- It goes on: what becomes of its stack is that it is sent over a link, with these entries (RFC 3031, 3.10).
pub record GoesOn (forward : List StackEntry → Forwarding) (bytes : List ℕ) (link : ℕ) (stack : List StackEntry) : Type 0 where
  pub labelled : IsLabelled bytes
  pub sent : forward (stack_of (words_of bytes)) ≡ Send link stack

-- the frame as it leaves: the entries that it is sent with, over the payload as it came (RFC 3031, 3.10)
abbrev pub sent_frame : List StackEntry → List ℕ → Frame
sent_frame stack bytes = frames.Labelled stack (payloads.Received (payload_in bytes))

-- Its bytes then: the kind, the count of the entries, the entries, and the payload's kind and the payload as they came
-- (RFC 3032, 2.1).
abbrev pub sent_bytes : List StackEntry → List ℕ → List ℕ
sent_bytes stack bytes = 2 ∷ length stack ∷ (stack_bytes stack ++ payload_part bytes)

-- The frame goes on over the link, and stands in the buffer as it leaves, from its start to the buffer's end.
pub record IsRewritten (forward : List StackEntry → Forwarding) (bytes buffer : List ℕ) (rewritten : Rewritten) : Type 0 where
  pub stack : List StackEntry
  pub goes_on : GoesOn forward bytes rewritten.link stack
  pub inside : rewritten.start ≤ length buffer
  pub leaves : drop rewritten.start buffer ≡ sent_bytes stack bytes
