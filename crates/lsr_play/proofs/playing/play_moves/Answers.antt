-- The run is held up; or there is no world; or its lines are played in it.
use Rattle.std.proofs.Common.{ℕ, List, [], inl, inr, refl, subst}
use Rattle.std.proofs.KnownBytes.{Appends-nil}
use Rattle.std.specs.Io.KnownBytes.{Appends}
use Rattle.line_streams.specs.Cuts.{lines_of}
use Rattle.lsr_play.specs.Playing.{EndsMoves}
use Rattle.lsr_play.proofs.PlayLaws.{block_written, held_on}
use Rattle.lsr_play.proofs.playing.play_moves.Goals as goal

pub returns-in-Some : goal.returns-in-Some
returns-in-Some g c =
    ([], Appends-nil _, held_on c.args.configs.items c.args.beginning.now.declared c.args.beginning.now.count (lines_of c.args.beginning.now.rest.now) c.in-Some.ending c.in-Some.ensures)

pub returns-in-Err : goal.returns-in-Err
returns-in-Err g c = ([], Appends-nil _, inr (inr (inl (c.in-None.ensures, refl, c.in-Err.ensures.fault))))

pub returns : goal.returns
returns g c =
    let ended = c.in_ok-ending.ensures in
    let names = c.args.beginning.now.declared.names in
    let lines = lines_of c.args.beginning.now.rest.now in
    let ends = subst (λ world. EndsMoves names c.args.beginning.now.count world lines ended.0 c.in_ok-ending.ending) c.in-Ok.ensures.opened ended.2 in
    let written = subst (λ (bytes : List ℕ). Appends (g.W.Write.contents c.move_all.new.output) (g.W.Write.contents c.write_all.new.self) bytes) c.as_slice.ensures.value c.in_ok-write_all.ensures.bytes in
    (ended.0, block_written _ _ _ _ _ _ c.new-block.ensures.items ended.1 written, inr (inr (inr (c.in-None.ensures, c.in-Ok.ensures.can, ends))))
