use Rattle.cfi_threads.proofs.tables.a_guest_beside_an_update.Given as goal

-- the name is that of the table that was just made
abbrev pub ghosts-added : goal.ghosts-added
ghosts-added g a = record { table = a.blank.table; key = a.blank.key }
