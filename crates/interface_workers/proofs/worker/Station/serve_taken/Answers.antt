-- Where no datagram was taken, nothing is sent.
use Rattle.std.proofs.Common.{[], refl}
use Rattle.interface_workers.proofs.Sendings.{none_sent}
use Rattle.interface_workers.proofs.worker.Station.serve_taken.Goals as goal

pub returns-in-Nothing-clause-served : goal.returns-in-Nothing-clause-served
returns-in-Nothing-clause-served g c = rw c.in-Nothing.is (record { frames = []; sendings = []; is = (refl, refl, refl); sent = none_sent _ _ refl })

pub returns-in-WireFailed-clause-served : goal.returns-in-WireFailed-clause-served
returns-in-WireFailed-clause-served g c = rw c.in-WireFailed.is (record { frames = []; sendings = []; is = (refl, refl, refl); sent = none_sent _ _ refl })

pub returns-in-NotShown-clause-served : goal.returns-in-NotShown-clause-served
returns-in-NotShown-clause-served g c = rw c.in-NotShown.is (record { frames = []; sendings = []; is = (refl, refl, refl); sent = none_sent _ _ refl })
