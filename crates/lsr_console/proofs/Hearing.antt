-- What a reader leaves after a line.
use Rattle.std.proofs.Common.{◌≡◌, ◌≤◌, ℕ, List, false, Result, Ok, Err, length}
use Rattle.line_streams.specs.Streams.{Finds}
use Rattle.line_streams.specs.Texts.{Stream}
use Rattle.line_streams.specs.declared.input.InputFault.{InputFault}
use Rattle.line_streams.specs.declared.reader.Found.{Found}
use Rattle.line_streams.specs.declared.reader.Found.TheVariants as founds
use Rattle.lsr_console.specs.Heard.{is_last}

-- where more comes after it, it is a line, and few bytes are left
pub few_left : (old new : Stream) (held line left : List ℕ) (found : Result Found InputFault) → Finds old new held line left found → is_last found ≡ false → length left ≤ 65536
few_left old new held line left (Ok founds.Line) (text, consumes, parts, one, short, few) more = few
few_left old new held line left (Ok founds.LastLine) finds more = cc
few_left old new held line left (Ok founds.End) finds more = cc
few_left old new held line left (Err fault) finds more = cc
