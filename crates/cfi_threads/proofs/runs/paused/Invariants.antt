use Rattle.cfi_threads.proofs.runs.paused.Given as goal

-- the name is that of the table that was just made
abbrev pub ghosts-pause_at : goal.ghosts-pause_at
ghosts-pause_at a = record { table = a.blank.table; key = a.blank.key }
