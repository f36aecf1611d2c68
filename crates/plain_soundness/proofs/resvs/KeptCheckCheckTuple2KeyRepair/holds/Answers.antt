use Rattle.plain_soundness.proofs.resvs.KeptCheckCheckTuple2KeyRepair.holds.Goals as goal

pub returns : goal.returns
returns c = c.is_resv.ensures c.args.repair.now.0
