-- Lists of subobjects compare as equal exactly where they are the same, since their subobjects do.
use Rattle.std.proofs.Common.{rules}
use Rattle.std.specs.Cmp.Lexicographic.{pointwise_decides}
use Rattle.std.proofs.lemmas.Bool.Decides.{Decides-at}
use Rattle.rsvp_bodies.proofs.subobjects.SubobjectsPartialEq.eq.Goals as goal

-- src/subobjects.rt:136:5
pub returns-clause-same : goal.returns-clause-same
returns-clause-same g c =
    Decides-at _ _ (search rules)
    (pointwise_decides g.met.T.Subobject.equal_is_same c.args.self.now c.args.other.now)
