-- The frame, and the value of its body, are the object that the first bytes spell.
use Rattle.std.proofs.Common.{arith, sym}
use Rattle.std.proofs.lemmas.Result.{err_from_is_err_and}
use Rattle.rsvp_objects.proofs.Frames.{IsBytes, framed}
use Rattle.rsvp_objects.proofs.ObjectRead.{read_ok, read_err, read_none}
use Rattle.rsvp_objects.proofs.reading.read_object.Goals as goal

pub returns-in_default : goal.returns-in_default
returns-in_default c = read_none c.args.bytes.now (sym c.in_default.ensures)

pub read_value-requires : goal.read_value-requires
read_value-requires c =
    let fits : IsBytes c.args.bytes.now = λ i. omega (arith, c.type_inv.bytes i) in
    (framed c.args.bytes.now _ fits (sym c.in-Some.ensures)).is_raw.body

pub returns-in_err-object : goal.returns-in_err-object
returns-in_err-object c =
    let p = err_from_is_err_and c.from_residual.result c.from_residual.ensures.1 in
    rw (p.1, p.2) (read_err c.args.bytes.now _ _ (sym c.in-Some.ensures) c.in_err-object.ensures)

pub returns : goal.returns
returns c =
    let fits : IsBytes c.args.bytes.now = λ i. omega (arith, c.type_inv.bytes i) in
    read_ok c.args.bytes.now _ _ fits (sym c.in-Some.ensures) c.in_ok-object.ensures
