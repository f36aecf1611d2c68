-- The cells of the two addresses are the addresses.
use Rattle.std.proofs.Common.{◌≡◌, length, rules}
use Rattle.rsvp_objects.proofs.Cells.{cells_session}
use Rattle.rsvp_objects.proofs.fixed.session_bytes.Goals as goal

pub returns-clause-bytes : goal.returns-clause-bytes
returns-clause-bytes c =
    let first : length c.octets.result ≡ 4 = search rules in
    let middle : length c.to_be_bytes.result ≡ 2 = search rules in
    let last : length c.octets-2.result ≡ 4 = search rules in
    let e = cells_session c.octets.result c.to_be_bytes.result c.octets-2.result first middle last in
    cc
