-- One after the other.
use Rattle.std.proofs.Common.{codes, subst}
use Rattle.std.specs.Result.{OnOk}
use Rattle.std.specs.Io.KnownBytes.{Appends}
use Rattle.lsr_explain.specs.Answers.{nearest_text}
use Rattle.lsr_explain.proofs.Printing.{appends_last}
use Rattle.lsr_explain.proofs.telling.put_unknown.Goals as goal

pub returns : goal.returns
returns g c =
    let told = subst (Appends (g.E.Write.contents c.args.error.now) (g.E.Write.contents c.write_all.new.self)) c.as_bytes.ensures.value c.in_ok-write_all.ensures.bytes in
    let last = subst (λ l. OnOk c.write_all-2.result (Appends (g.E.Write.contents c.put_nearest.new.error) (g.E.Write.contents c.write_all-2.new.self) l)) c.as_bytes-2.ensures.value c.write_all-2.ensures.bytes in
    appends_last c.write_all-2.result _ _ _ _ (codes "error: no refusal, error or fault has this number or name\n") (nearest_text c.args.ranked.now) (codes "  these come closest to it; `lsr explain list` has all\n") told c.in_ok-put_nearest.ensures last
