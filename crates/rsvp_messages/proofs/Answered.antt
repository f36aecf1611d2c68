-- What a frame is answered, by its kind.
use Rattle.std.proofs.Common.{◌≡◌, ◌≢◌, ◌==◌, ℕ, true, false, List, length, drop, Some, None, Result, Ok, Err, IsOkAnd, MatchResult, sym, ap, ◌∙◌, refl, inl, inr, arith, subst}
use Rattle.std.proofs.lemmas.Bool.{ne_eqb, eq-eqb}
use Rattle.rsvp_contents.specs.declared.dropped.Dropped.{Dropped}
use Rattle.rsvp_contents.specs.declared.dropped.Dropped.TheVariants as dropped
use Rattle.rsvp_contents.specs.declared.message.Reading.{Reading}
use Rattle.rsvp_contents.specs.Spelling.{SpellsReading, IsFirstFault, ReadsMessage}
use Rattle.rsvp_contents.specs.Answers.{Tells, IsTold}
use Rattle.link_frames.specs.declared.frame.ReceivedFrame.{ReceivedFrame}
use Rattle.link_frames.specs.declared.frame.ReceivedFrame.TheVariants as received_frames
use Rattle.rsvp_messages.specs.Frames.{IsDropFor}
use Rattle.link_frames.specs.Frames.{frame_fault, kind_of, SpellsFrame, IsFirstFrameFault, ReadsFrame}

-- a frame is dropped for its first fault, which isn't that there was no memory
pub drop_for : (bytes : List ℕ) (fault : Dropped) → fault ≢ dropped.NoMemory → frame_fault bytes ≡ Some fault → IsDropFor bytes fault
drop_for bytes dropped.NoMemory other first = absurd (other refl)
drop_for bytes _ other first = first

-- no byte
pub no_byte : (bytes : List ℕ) → (length bytes == 0) ≡ true → ReadsFrame bytes (Err dropped.Short)
unfolding frame_fault
no_byte bytes none =
    let fault : frame_fault bytes ≡ Some dropped.Short = rw none refl in
    record { told = inl fault; only = λ frame s. absurd (let e : Some dropped.Short ≡ None = sym fault ∙ s.0 in cc) }

-- a kind that isn't known
pub no_kind : (bytes : List ℕ) → (length bytes == 0) ≡ false → kind_of bytes ≢ 1 → kind_of bytes ≢ 2 → kind_of bytes ≢ 3 → ReadsFrame bytes (Err dropped.KindUnsupported)
unfolding frame_fault
no_kind bytes some hop labelled routed =
    let fault : frame_fault bytes ≡ Some dropped.KindUnsupported =
    rw (some, ne_eqb _ _ hop, ne_eqb _ _ labelled, ne_eqb _ _ routed) refl in
    record { told = inl fault; only = λ frame s. absurd (let e : Some dropped.KindUnsupported ≡ None = sym fault ∙ s.0 in cc) }

-- a Hop frame has no fault but its message's
pub no_fault : (bytes : List ℕ) → (length bytes == 0) ≡ false → kind_of bytes ≡ 1 → frame_fault bytes ≡ None
unfolding frame_fault
no_fault bytes some kind = rw (some, eq-eqb _ _ kind) refl

told_fault : (bytes : List ℕ) (fault : Dropped) → frame_fault bytes ≡ None → kind_of bytes ≡ 1 → IsTold SpellsReading IsFirstFault (drop 1 bytes) (Err fault) → IsTold SpellsFrame IsFirstFrameFault bytes (Err fault)
told_fault bytes dropped.Short none kind h = inr (none, kind, h)
told_fault bytes dropped.Version none kind h = inr (none, kind, h)
told_fault bytes dropped.LengthField none kind h = inr (none, kind, h)
told_fault bytes dropped.Checksum none kind h = inr (none, kind, h)
told_fault bytes dropped.ObjectLength none kind h = inr (none, kind, h)
told_fault bytes dropped.MissingObject none kind h = inr (none, kind, h)
told_fault bytes dropped.KindUnsupported none kind h = inr (none, kind, h)
told_fault bytes dropped.Integrity none kind h = inr (none, kind, h)
told_fault bytes dropped.TooLong none kind h = inr (none, kind, h)
told_fault bytes dropped.NoMemory none kind h = tt

-- a fault tells of no value, so of none
told_none : {X Y : Type 0} (fault : Dropped) (x : X) (y : Y) → Tells (Err fault) x → Tells (Err fault) y
told_none dropped.NoMemory x y h = tt
told_none _ x y h = absurd h

-- one kind isn't another
other_kind : {A : Type 0} (n kind other : ℕ) → n ≡ kind → n ≡ other → (kind ≡ other → ⊥) → A
other_kind n kind other first second apart = absurd (apart (sym first ∙ second))

hop_ok : (bytes : List ℕ) (reading : Reading) → frame_fault bytes ≡ None → kind_of bytes ≡ 1 → ReadsMessage (drop 1 bytes) (Ok reading) → ReadsFrame bytes (Ok (received_frames.Hop reading))
hop_ok bytes reading none kind h = record { told = (none, (kind, h.told)); only = only }
  where
    only : (frame : ReceivedFrame) → SpellsFrame bytes frame → received_frames.Hop reading ≡ frame
    only (received_frames.Hop other) s = ap (λ (r : Reading). received_frames.Hop r) (h.only other s.1.1)
    only (received_frames.Labelled stack payload) s = other_kind (kind_of bytes) 1 2 kind s.1.0 (λ e. omega (arith, e))
    only (received_frames.Routed to limit message) s = other_kind (kind_of bytes) 1 3 kind s.1.0 (λ e. omega (arith, e))

hop_err : (bytes : List ℕ) (fault : Dropped) → frame_fault bytes ≡ None → kind_of bytes ≡ 1 → ReadsMessage (drop 1 bytes) (Err fault) → ReadsFrame bytes (Err fault)
hop_err bytes fault none kind h = record { told = told_fault bytes fault none kind h.told; only = only }
  where
    only : (frame : ReceivedFrame) → SpellsFrame bytes frame → Tells (Err fault) frame
    only (received_frames.Hop other) s = told_none fault other (received_frames.Hop other) (h.only other s.1.1)
    only (received_frames.Labelled stack payload) s = other_kind (kind_of bytes) 1 2 kind s.1.0 (λ e. omega (arith, e))
    only (received_frames.Routed to limit message) s = other_kind (kind_of bytes) 1 3 kind s.1.0 (λ e. omega (arith, e))

-- the answer of a Hop frame, by that of its message
hop_made : (bytes : List ℕ) (read : Result Reading Dropped) (made : Result ReceivedFrame Dropped) → frame_fault bytes ≡ None → kind_of bytes ≡ 1 → MatchResult read (λ r. IsOkAnd made (λ f. f ≡ received_frames.Hop r)) (λ e. made ≡ Err e) → ReadsMessage (drop 1 bytes) read → ReadsFrame bytes made
hop_made bytes (Ok reading) (Ok frame) none kind m h = subst (λ (f : ReceivedFrame). ReadsFrame bytes (Ok f)) (sym m) (hop_ok bytes reading none kind h)
hop_made bytes (Ok reading) (Err e) none kind m h = absurd m
hop_made bytes (Err fault) made none kind m h = subst (λ (a : Result ReceivedFrame Dropped). ReadsFrame bytes a) (sym m) (hop_err bytes fault none kind h)

pub hop_answered : (bytes message : List ℕ) (read : Result Reading Dropped) (made : Result ReceivedFrame Dropped) → (length bytes == 0) ≡ false → kind_of bytes ≡ 1 → message ≡ drop 1 bytes → MatchResult read (λ r. IsOkAnd made (λ f. f ≡ received_frames.Hop r)) (λ e. made ≡ Err e) → ReadsMessage message read → ReadsFrame bytes made
hop_answered bytes message read made some kind after m h =
    hop_made bytes read made (no_fault bytes some kind) kind m (subst (λ (b : List ℕ). ReadsMessage b read) after h)
