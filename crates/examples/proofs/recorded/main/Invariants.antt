use Rattle.examples.proofs.recorded.main.Given as goal

-- the table and the ledger that the cache is named by
abbrev pub ghosts-run-L-Naming : goal.ghosts-run-L-Naming
ghosts-run-L-Naming g a = record { table = a.opened.table }

abbrev pub ghosts-run-L-Ledger : goal.ghosts-run-L-Ledger
ghosts-run-L-Ledger g a = record { name = a.blank.name; parts = a.blank.parts }
