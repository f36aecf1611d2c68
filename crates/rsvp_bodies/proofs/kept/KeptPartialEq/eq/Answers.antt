-- Kept bytes compare as equal exactly where they are the same.
use Rattle.std.proofs.Common.{rules}
use Rattle.std.specs.Cmp.Lexicographic.{bytes_decides}
use Rattle.std.proofs.lemmas.Bool.Decides.{Decides-at}
use Rattle.rsvp_bodies.proofs.kept.KeptPartialEq.eq.Goals as goal

pub returns-clause-same : goal.returns-clause-same
returns-clause-same g c = Decides-at _ _ (search rules) (bytes_decides c.args.self.now c.args.other.now)
