use Rattle.cfi_threads.proofs.runs.a_guest_beside_refreshes.Given as goal

-- the name is that of the table that was just made
abbrev pub ghosts-beside : goal.ghosts-beside
ghosts-beside g a = record { table = a.blank.table; key = a.blank.key }
