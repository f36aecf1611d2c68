use Rattle.lsr_bench.proofs.withdrawals.run_withdrawals.Given as goal

abbrev pub ghosts-run_named-L-CoreName : goal.ghosts-run_named-L-CoreName
ghosts-run_named-L-CoreName g a = record { config = a.config }

abbrev pub ghosts-run_named-L-Ledger : goal.ghosts-run_named-L-Ledger
ghosts-run_named-L-Ledger g a = record { name = a.blank.name; parts = a.blank.parts }
