-- The messages were printed, and after them how many packets there are of each kind.
use Rattle.std.proofs.Common.{◌++◌, ℕ, List, refl, subst}
use Rattle.std.proofs.KnownBytes.{Appends-trans}
use Rattle.lsr_decode.specs.Files.{Shows, counts_text}
use Rattle.lsr_decode.proofs.FileLaws.{decoded}
use Rattle.lsr_decode.proofs.files.decode_file.Goals as goal

pub returns : goal.returns
returns g c =
    let found = c.in_ok-counts.ensures in
    let counts = c.in_ok-counts.counts in
    let ending = c.in_ok-counts.ending in
    let shows = subst (λ (l : List ℕ). Shows c.args.fields l found.0 found.1 ending) c.as_slice.ensures.value found.3 in (
      found.1 ++ counts_text counts,
      Appends-trans _ _ _ found.1 (counts_text counts) found.2 c.in_ok-write.ensures.bytes,
      decoded c.args.fields (g.S.ByteStream.stream c.args.input.now) c.in-Ok.file.items found.1 (found.1 ++ counts_text counts) found.0 counts ending c.in-Ok.ensures.bytes shows found.4 refl,
    )
