-- The text that was read is played.
use Rattle.std.proofs.Common.{ℕ, List, inr, string_bytes, subst}
use Rattle.lsr_runs.specs.Playing.{PlaysFile, PlaysText}
use Rattle.lsr_runs.proofs.Worlds.{ok_then}
use Rattle.lsr_runs.proofs.playing.run_play_of.Goals as goal

pub returns-in-Ok : goal.returns-in-Ok
returns-in-Ok g c =
    let opens = g.F.FilesByName.opens c.args.files.now in
    let fails = g.F.FilesByName.fails c.args.files.now in
    let stream = g.F.File.ByteStream.stream in
    let output = g.W.Write.contents c.args.output.now in
    let printed = g.W.Write.contents c.run_play.new.output in
    let error = g.E.Write.contents c.args.error.now in
    let told = g.E.Write.contents c.run_play.new.error in
    ok_then (PlaysText opens fails stream c.as_str.result.now output printed error told) (PlaysFile opens fails stream c.args.file.now output printed error told) c.run_play.result
    (λ status played. inr (string_bytes c.in-Ok.text, c.in-Ok.ensures.text, subst (λ (text : List ℕ). PlaysText opens fails stream text output printed error told status) c.as_str.ensures.value played)) c.run_play.ensures
