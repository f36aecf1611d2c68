-- What becomes of a frame that goes on by its labels.
use Rattle.std.proofs.Common.{◌≡◌, ◌-◌, ◌^◌, ◌∷◌, ℕ, List, [], Result, Ok, Err, ap, refl, sym}
use Rattle.link_frames.specs.Frames.{frame_bytes}
use Rattle.link_frames.specs.declared.frame.Frame.{Frame}
use Rattle.datagrams.specs.declared.datagram.Passed.TheVariants as passes
use Rattle.interface_workers.specs.Turns.{HasSent, IsPassedOn}
use Rattle.interface_workers.specs.Wires.{WireHistory, after, lost_in, sending_of}
use Rattle.worker_tallies.specs.declared.handled.Handled.TheVariants as handles
use Rattle.interface_workers.proofs.Sendings.{framed, sent_not, sent_one}

-- the wire has failed as often as can be counted
pub not_given : (link : ℕ) (frame : Frame) (h : WireHistory) → h.failed ≡ 2 ^ 64 - 1 → HasSent (IsPassedOn (passes.Sent link frame) handles.NotCarried) h h
not_given link frame h most = record {
  frames = framed link (frame_bytes frame) ∷ [];
  sendings = [];
  is = (refl, refl);
  sent = sent_not (framed link (frame_bytes frame) ∷ []) h h refl most;
}

-- the wire carried it
pub carried : {X E : Type 0} (link : ℕ) (frame : Frame) (written : List ℕ) (answer : Result X E) (x : X) (h now : WireHistory) → written ≡ frame_bytes frame → answer ≡ Ok x
    → now ≡ after h [] (sending_of link written answer ∷ []) → HasSent (IsPassedOn (passes.Sent link frame) handles.Forwarded) h now
carried link frame written answer x h now same is history = record {
  frames = framed link (frame_bytes frame) ∷ [];
  sendings = sending_of link written answer ∷ [];
  is = (refl, refl, ap (λ a. lost_in (sending_of link written a ∷ [])) is);
  sent = sent_one link (frame_bytes frame) written answer h now same history;
}

-- the wire didn't carry it
pub not_carried : {X E : Type 0} (link : ℕ) (frame : Frame) (written : List ℕ) (answer : Result X E) (e : E) (h now : WireHistory) → written ≡ frame_bytes frame → answer ≡ Err e
    → now ≡ after h [] (sending_of link written answer ∷ []) → HasSent (IsPassedOn (passes.Sent link frame) handles.NotCarried) h now
not_carried link frame written answer e h now same is history = record {
  frames = framed link (frame_bytes frame) ∷ [];
  sendings = sending_of link written answer ∷ [];
  is = (refl, sym (ap (λ a. lost_in (sending_of link written a ∷ [])) is));
  sent = sent_one link (frame_bytes frame) written answer h now same history;
}
