use Rattle.cfi_tables.specs.Keeping.{entry_by}
use Rattle.cfi_tables.proofs.keeper.Keeper.update.Given as goal

-- the update is to the entry that it asks for
abbrev pub ghosts-test_all : goal.ghosts-test_all
ghosts-test_all g a = record { entry = entry_by a.asked.now.policy a.asked.now.image.now a.asked.now.mark }
