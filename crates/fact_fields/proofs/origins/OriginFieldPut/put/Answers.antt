-- One part after the other.
use Rattle.std.proofs.Common.{◌++◌}
use Rattle.std.proofs.lemmas.Result.{on_ok_weaker}
use Rattle.std.specs.Net.Addr.{ipv4_octets}
use Rattle.byteorder.specs.Endian.{big_bytes}
use Rattle.fact_fields.specs.Origins.{via_bytes}
use Rattle.fact_fields.proofs.Appended.{more_appended}
use Rattle.fact_fields.proofs.origins.OriginFieldPut.put.Goals as goal

pub returns-clause-ok : goal.returns-clause-ok
returns-clause-ok c =
    let origin = c.args.origin.now in
    let via = via_bytes origin.via in
    let address = ipv4_octets origin.hop.address in
    let interface = big_bytes 4 origin.hop.interface in
    let expiry = big_bytes 8 origin.expiry in
    let out = c.put-4.new.out.items in
    on_ok_weaker c.put-4.result (λ last.
    more_appended c.args.out.now.items c.put.new.out.items out via (address ++ (interface ++ expiry)) c.in_ok-put.ensures.ok
    (more_appended c.put.new.out.items c.put-2.new.out.items out address (interface ++ expiry) c.in_ok-put-2.ensures.ok
    (more_appended c.put-2.new.out.items c.put-3.new.out.items out interface expiry c.in_ok-put-3.ensures.ok last))) c.put-4.ensures.ok
