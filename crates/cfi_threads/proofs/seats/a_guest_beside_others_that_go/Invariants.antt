use Rattle.cfi_threads.proofs.seats.a_guest_beside_others_that_go.Given as goal

-- the name is that of the table that was just made
abbrev pub ghosts-passing : goal.ghosts-passing
ghosts-passing g a = record { table = a.blank.table; key = a.blank.key }
