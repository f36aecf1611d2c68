use Rattle.lsr_bench.proofs.load.take_over.Given as goal

abbrev pub ghosts-serve-L-CoreName : goal.ghosts-serve-L-CoreName
ghosts-serve-L-CoreName g a = record { config = a.config }

abbrev pub ghosts-serve-L-Ledger : goal.ghosts-serve-L-Ledger
ghosts-serve-L-Ledger g a = record { name = a.blank.name; parts = a.blank.parts }
