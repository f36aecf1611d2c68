-- Only objects of a Path or of a Resv refuse it.
use Rattle.std.specs.Prelude.{slice_index}
use Rattle.rsvp_contents.proofs.Said.{unknown_is_said}
use Rattle.rsvp_contents.proofs.laws.what_is_unknown_is_a_path_or_a_resv.Goals as goal

pub returns : goal.returns
returns c = λ bytes content class ctype s. unknown_is_said (slice_index bytes 1) s.0 content class ctype s.2
