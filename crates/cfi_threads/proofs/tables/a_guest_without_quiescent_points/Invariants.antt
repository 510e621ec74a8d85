use Rattle.cfi_threads.proofs.tables.a_guest_without_quiescent_points.Given as goal

-- the name is that of the table that was just made
abbrev pub ghosts-hindered : goal.ghosts-hindered
ghosts-hindered a = record { table = a.blank.table; key = a.blank.key }
