-- The lines of frames: one more, and that of a frame that is there.
use Rattle.std.proofs.Common.{◌≡◌, ◌+◌, ℕ, zero, suc, List, [], ◌++◌, Option, Some, None, refl, sym, ap, ◌∙◌, arith, append_assoc, append-nil}
use Rattle.std.specs.Option.{option_map, option_map_or}
use Rattle.abstract_paths.specs.declared.events.Output.{Output}
use Rattle.abstract_world.specs.declared.sent.Sent.{Sent}
use Rattle.lsr_play.specs.Answers.{frame_text, frames_text, sent_text}

pub frames_more : (name : List ℕ) (frames : List Sent) (first count : ℕ) → frames_text name frames first (suc count) ≡ frames_text name frames first count ++ frame_text name frames (first + count)
frames_more name frames first zero = append-nil (frame_text name frames first) ∙ ap (frame_text name frames) (omega arith)
frames_more name frames first (suc count) =
    ap (λ l. frame_text name frames first ++ l) (frames_more name frames (first + 1) count)
    ∙ sym (append_assoc (frame_text name frames first) (frames_text name frames (first + 1) count) (frame_text name frames (first + 1 + count)))
    ∙ ap (λ i. (frame_text name frames first ++ frames_text name frames (first + 1) count) ++ frame_text name frames i) (omega arith)

-- a frame that is there has its line
pub framed : (name : List ℕ) (number : ℕ) (sent : Option Sent) (output : Output) → Some output ≡ option_map (λ (s : Sent). s.output) sent
    → option_map_or (λ (s : Sent). sent_text name number s.output) sent [] ≡ sent_text name number output
framed name number None output e = let t = e in cc
framed name number (Some s) output e = ap (λ (o : Option Output). option_map_or (sent_text name number) o []) (sym e)

-- and one that isn't there has none
pub unframed : (name : List ℕ) (number : ℕ) (sent : Option Sent) → None ≡ option_map (λ (s : Sent). s.output) sent
    → option_map_or (λ (s : Sent). sent_text name number s.output) sent [] ≡ []
unframed name number None e = refl
unframed name number (Some s) e = let t = e in cc

-- one more frame is told of
pub told_more : (old answer text after name : List ℕ) (frames : List Sent) (first count : ℕ) → text ≡ old ++ (answer ++ frames_text name frames first count) → after ≡ text ++ frame_text name frames (first + count)
    → after ≡ old ++ (answer ++ frames_text name frames first (count + 1))
told_more old answer text after name frames first count before grown =
    let so_far = frames_text name frames first count in
    let frame = frame_text name frames (first + count) in
    let next : suc count ≡ count + 1 = omega arith in
    grown ∙ ap (λ l. l ++ frame) before ∙ append_assoc old (answer ++ so_far) frame ∙ ap (λ l. old ++ l) (append_assoc answer so_far frame)
    ∙ ap (λ l. old ++ (answer ++ l)) (sym (frames_more name frames first count) ∙ ap (frames_text name frames first) next)
