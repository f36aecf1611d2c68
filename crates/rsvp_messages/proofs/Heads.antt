-- Out of memory comes only where the head of a datagram has no fault.
use Rattle.std.proofs.Common.{◌≡◌, ◌≢◌, ◌==◌, ℕ, Bool, true, false, if◌then◌else◌, List, length, drop, Option, Some, None, IfSome, Result, Ok, Err, IsOkAnd, MatchResult, sym, ap, ◌∙◌, refl}
use Rattle.std.proofs.lemmas.Bool.{eq-eqb}
use Rattle.rsvp_contents.specs.declared.dropped.Dropped.{Dropped}
use Rattle.rsvp_contents.specs.declared.dropped.Dropped.TheVariants as dropped
use Rattle.rsvp_contents.specs.declared.message.Reading.{Reading}
use Rattle.rsvp_contents.specs.Spelling.{header_fault}
use Rattle.link_frames.specs.declared.frame.ReceivedFrame.{ReceivedFrame}
use Rattle.link_frames.specs.declared.frame.ReceivedFrame.TheVariants as received_frames
use Rattle.link_frames.specs.Frames.{head_fault, kind_of}
use Rattle.rsvp_messages.proofs.Answered.{no_fault}

-- another fault than that memory ran out leaves the next ones
past_other : (test : Bool) (f : Dropped) (rest : Option Dropped) → f ≢ dropped.NoMemory → (if test then Some f else rest) ≡ Some dropped.NoMemory → rest ≡ Some dropped.NoMemory
past_other true f rest other e = absurd (let same : f ≡ dropped.NoMemory = cc in other same)
past_other false f rest other e = e

none_other : None ≡ Some dropped.NoMemory → ⊥
none_other e = absurd cc

-- so no fault of a common header is that
header_memory : (bytes : List ℕ) → header_fault bytes ≡ Some dropped.NoMemory → ⊥
unfolding header_fault
header_memory bytes e =
    none_other (past_other _ dropped.KindUnsupported _ (λ x. cc)
    (past_other _ dropped.Checksum _ (λ x. cc)
    (past_other _ dropped.LengthField _ (λ x. cc)
    (past_other _ dropped.TooLong _ (λ x. cc)
    (past_other _ dropped.Version _ (λ x. cc)
    (past_other _ dropped.Short _ (λ x. cc) e))))))

-- a message for which memory ran out has no fault at its header
no_header : (o : Option Dropped) (read : Result Reading Dropped) → (o ≡ Some dropped.NoMemory → ⊥) → IfSome o (λ f. read ≡ Err f) → read ≡ Err dropped.NoMemory → o ≡ None
no_header None read other told out = refl
no_header (Some f) read other told out = absurd (let same : f ≡ dropped.NoMemory = cc in other (ap Some same))

-- for the frame of a message memory ran out where it did for the message
out_of_read : (read : Result Reading Dropped) (made : Result ReceivedFrame Dropped) → MatchResult read (λ r. IsOkAnd made (λ f. f ≡ received_frames.Hop r)) (λ e. made ≡ Err e) → made ≡ Err dropped.NoMemory → read ≡ Err dropped.NoMemory
out_of_read (Ok reading) (Ok frame) m out = absurd cc
out_of_read (Ok reading) (Err e) m out = absurd m
out_of_read (Err fault) made m out = let same : fault ≡ dropped.NoMemory = cc in ap Err same

-- the head of a Hop frame
pub hop_head : (bytes message : List ℕ) (read : Result Reading Dropped) (made : Result ReceivedFrame Dropped) → (length bytes == 0) ≡ false → kind_of bytes ≡ 1 → message ≡ drop 1 bytes →
    MatchResult read (λ r. IsOkAnd made (λ f. f ≡ received_frames.Hop r)) (λ e. made ≡ Err e) → IfSome (header_fault message) (λ f. read ≡ Err f) → made ≡ Err dropped.NoMemory → head_fault bytes ≡ None
hop_head bytes message read made some kind after m told out =
    let none : header_fault (drop 1 bytes) ≡ None = ap header_fault (sym after) ∙ no_header (header_fault message) read (header_memory message) told (out_of_read read made m out) in
    rw (no_fault bytes some kind, eq-eqb _ _ kind) none
