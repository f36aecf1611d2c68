use Rattle.plain_soundness.proofs.resvs.ResvCheckCheckTuple2KeyResvFact.holds.Goals as goal

pub returns : goal.returns
returns c = c.is_resv.ensures c.args.resv.now.0
