-- Subobjects compare as equal exactly where they are the same.
use Rattle.std.proofs.lemmas.Slice.Eq.{slice_eq-Decides}
use Rattle.journal_bytes.proofs.objects.SubobjectsExact.is_same.Goals as goal

pub returns : goal.returns
returns g c = slice_eq-Decides g.met.T.Subobject.equal_is_same c.args.self.now c.args.other.now c.eq.result c.eq.ensures
