-- A Path is written in the bytes of its parts, and short parts leave room for a short Tspec.
use Rattle.std.proofs.Common.{arith}
use Rattle.rsvp_contents.proofs.Fitted.{parts_of}
use Rattle.rsvp_contents.proofs.Bytes.{path_written, route_most, record_most, passing_most}
use Rattle.rsvp_contents.proofs.lengths.path_len.Goals as goal

pub returns-clause-len : goal.returns-clause-len
returns-clause-len c = omega (arith, path_written c.args.path.now)

pub returns-clause-room : goal.returns-clause-room
returns-clause-room c = λ fits room.
    let parts = parts_of c.args.path.now fits in
    let passing = passing_most c.args.path.now.passing parts.passing in
    omega (arith, route_most c.args.path.now.route parts.route, record_most c.args.path.now.recorded parts.recorded, passing.size)
