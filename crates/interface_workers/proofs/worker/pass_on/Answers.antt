-- What is passed on is sent as it leaves, or not, as the wire says.
use Rattle.std.proofs.Common.{[], refl, ◌∙◌}
use Rattle.interface_workers.proofs.Sendings.{none_sent}
use Rattle.interface_workers.proofs.worker.pass_on.Goals as goal

pub returns-in_default : goal.returns-in_default
returns-in_default g c = rw c.in_default.is (record { frames = []; sendings = []; is = (refl, refl); sent = none_sent _ _ refl })

pub returns-in-Ok : goal.returns-in-Ok
returns-in-Ok g c = rw c.in-Sent.is (c.send_on.ensures _ (c.as_slice.ensures.value ∙ c.in-Ok.ensures))

pub returns-in-Err : goal.returns-in-Err
returns-in-Err g c = rw c.in-Sent.is (record { frames = []; sendings = []; is = (refl, refl); sent = none_sent _ _ refl })
