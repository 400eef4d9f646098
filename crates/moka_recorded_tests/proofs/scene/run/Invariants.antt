use Rattle.moka_recorded_tests.proofs.scene.run.Given as goal

-- the table and the ledger that the cache is named by
abbrev pub ghosts-run_recorded-L-Naming : goal.ghosts-run_recorded-L-Naming
ghosts-run_recorded-L-Naming g a = record { table = a.opened.table }

abbrev pub ghosts-run_recorded-L-Ledger : goal.ghosts-run_recorded-L-Ledger
ghosts-run_recorded-L-Ledger g a = record { name = a.blank.name; parts = a.blank.parts }
