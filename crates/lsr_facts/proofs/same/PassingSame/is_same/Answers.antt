-- Objects that compare as equal are the same.
use Rattle.std.proofs.Common.{sym, ◌∙◌}
use Rattle.std.proofs.lemmas.Slice.Eq.{slice_eq-Decides}
use Rattle.rsvp_objects.specs.RawLaws.{same_raw_lem}
use Rattle.lsr_facts.proofs.same.PassingSame.is_same.Goals as goal

pub returns : goal.returns
returns c = λ is. sym c.as_slice.ensures ∙ (slice_eq-Decides same_raw_lem c.as_slice.result.now c.as_slice-2.result.now c.eq.result c.eq.ensures).0 is ∙ c.as_slice-2.ensures
