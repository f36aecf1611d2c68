-- What was printed is the configuration's text, and nothing is told.
use Rattle.std.proofs.Common.{ℕ, List, refl, subst}
use Rattle.std.proofs.KnownBytes.{Appends-nil}
use Rattle.std.specs.Io.KnownBytes.{Appends}
use Rattle.lsr_tool.specs.Configuring.{done}
use Rattle.lsr_tool.proofs.configuring.run_config.Goals as goal

pub returns-in_ok-write_all-in-Ok : goal.returns-in_ok-write_all-in-Ok
returns-in_ok-write_all-in-Ok g c =
    let written = subst (λ (bytes : List ℕ). Appends (g.W.Write.contents c.args.output.now) (g.W.Write.contents c.write_all.new.self) bytes) c.as_slice.ensures.value c.in_ok-write_all-in-Ok.ensures.bytes in
    (done, c.in-Ok.printed.items, refl, c.in-Ok.ensures.printed, written, Appends-nil _)
