-- What the block held is printed.
use Rattle.std.proofs.Common.{ℕ, List, subst}
use Rattle.std.specs.Io.KnownBytes.{Appends}
use Rattle.lsr_play.proofs.PlayLaws.{block_written}
use Rattle.lsr_play.proofs.lab_playing.take_written.Goals as goal

pub returns : goal.returns
returns g c =
    let tells = c.in-Ok.ensures in
    let written = subst (λ (bytes : List ℕ). Appends (g.W.Write.contents c.take_all.new.output) (g.W.Write.contents c.write_all.new.self) bytes) c.as_slice.ensures.value c.in_ok-write_all.ensures.bytes in
    record { printed = tells.printed; told = block_written _ _ _ _ _ _ c.new-block.ensures.items tells.told written; count = tells.count; acts = tells.acts }
