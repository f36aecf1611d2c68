use Rattle.std.proofs.Common.{rules}
use Rattle.std.specs.Net.Addr.{IsIpv4Addr}
use Rattle.rsvp_bodies.proofs.Addresses.{same_number}
use Rattle.rsvp_bodies.proofs.address.is_same_address.Goals as goal

pub returns : goal.returns
returns c =
    let four : IsIpv4Addr c.args.address = search rules in
    let others : IsIpv4Addr c.args.other = search rules in
    rw (c.to_bits.ensures, c.to_bits-2.ensures) (same_number c.args.address c.args.other four others)
