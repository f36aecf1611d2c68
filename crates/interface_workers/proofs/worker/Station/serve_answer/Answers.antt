-- Nothing is sent for a datagram that is refused.
use Rattle.std.proofs.Common.{[], refl}
use Rattle.interface_workers.proofs.Sendings.{none_sent}
use Rattle.interface_workers.proofs.worker.Station.serve_answer.Goals as goal

pub returns-in-Err-clause-served : goal.returns-in-Err-clause-served
returns-in-Err-clause-served g c = rw c.in-Err.is (record { frames = []; sendings = []; is = (c.of_refusal.ensures, refl, refl); sent = none_sent _ _ refl })
