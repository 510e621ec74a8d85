use Rattle.cfi_slips.proofs.stubs.Stubs.tell.Given as goal

-- the lines are those that are told
abbrev pub ghosts-hold : goal.ghosts-hold
ghosts-hold g a = record { more = a.told.now }
