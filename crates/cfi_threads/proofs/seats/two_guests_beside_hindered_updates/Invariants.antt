use Rattle.cfi_threads.proofs.seats.two_guests_beside_hindered_updates.Given as goal

-- the name is that of the table that was just made
abbrev pub ghosts-hindered : goal.ghosts-hindered
ghosts-hindered g a = record { table = a.blank.table; key = a.blank.key }
