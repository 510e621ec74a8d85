use Rattle.cfi_slips.proofs.stubs.Stubs.take.Given as goal

-- there are none
abbrev pub ghosts-hold : goal.ghosts-hold
ghosts-hold g a = record { more = a.told.now }
