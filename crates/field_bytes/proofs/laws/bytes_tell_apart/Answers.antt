use Rattle.field_bytes.proofs.laws.bytes_tell_apart.Goals as goal

pub returns : goal.returns
returns g c = g.met.F.Field.one
