-- What is printed of a move.
use Rattle.std.specs.Prelude.{◌-◌, ◌+◌, ℕ, zero, suc, List, [], ◌∷◌, ◌++◌, codes, Result, Ok, Err, flat_map}
use Rattle.std.specs.Fmt.{decimal}
use Rattle.std.specs.Option.{option_map_or}
use Rattle.abstract_paths.specs.declared.events.Output.{Output}
use Rattle.abstract_world.specs.Worlds.{WorldState, frame_of}
use Rattle.abstract_world.specs.declared.sent.Sent.{Sent}
use Rattle.abstract_world.specs.declared.told.Answer.{Answer}
use Rattle.abstract_world.specs.declared.told.Answer.TheVariants as answers
use Rattle.abstract_world.specs.declared.told.Told.{Told}
use Rattle.lab_world.specs.declared.move_run.Report.{Report}
use Rattle.lsr_facts.specs.declared.refusal.Refusal.{Refusal}
use Rattle.lsr_text.specs.Answers.{output_line, refusal_line, reply_line}
use Rattle.lsr_text.specs.FrameLines.{delivery_line}
use Rattle.lsr_play.specs.Declaring.{name_at}
use denote.Ref.{Bor}

-- What the router of this name answered: `NAME` before what `lsr step` prints of it. Of a labelled frame that goes on nothing is
-- printed but that frame.
abbrev pub answer_text : List ℕ → Answer → List ℕ
answer_text name (answers.Replied reply) = name ++ (codes " " ++ reply_line reply)
answer_text name (answers.Refused refusal) = name ++ (codes " " ++ refusal_line refusal)
answer_text name answers.PassedOn = []
answer_text name (answers.Delivered payload) = name ++ (codes " " ++ delivery_line payload)

-- a frame of this number, which the router of this name sent: `NAME #I` before what `lsr step` prints of it
abbrev pub sent_text : List ℕ → ℕ → Output → List ℕ
sent_text name number output = name ++ (codes " #" ++ (decimal number ++ (codes " " ++ output_line output)))

-- the frame of this number, if there is one
abbrev pub frame_text : List ℕ → List Sent → ℕ → List ℕ
frame_text name frames number = option_map_or (λ (sent : Sent). sent_text name number sent.output) (frame_of frames number) []

-- so many frames, from this number on, in order
abbrev pub frames_text : List ℕ → List Sent → ℕ → ℕ → List ℕ
frames_text name frames first zero = []
frames_text name frames first (suc count) = frame_text name frames first ++ frames_text name frames (first + 1) count

-- what is told of a move: what its router answered, and after it the frames that it sent, in order
abbrev pub told_text : List (Bor (List ℕ)) → List Sent → Told → List ℕ
told_text names frames told =
    answer_text (name_at names told.router) told.answer ++ frames_text (name_at names told.router) frames told.first (told.end - told.first)

-- what is told of moves, in order
abbrev pub report_text : List (Bor (List ℕ)) → List Sent → List Told → List ℕ
report_text names frames all = flat_map (told_text names frames) all

-- what is told in an answer to moves
abbrev pub told_in : Result Report Refusal → Result (List Told) Refusal
told_in (Ok report) = Ok report.moves.items
told_in (Err refusal) = Err refusal

-- What moves that were asked for are answered: what is told of each; or the refusal of one that isn't made, which has no
-- router's name in front.
abbrev pub moved_text : List (Bor (List ℕ)) → List Sent → Result (List Told) Refusal → List ℕ
moved_text names frames (Ok all) = report_text names frames all
moved_text names frames (Err refusal) = refusal_line refusal
