use Rattle.std.proofs.Common.{rules}
use Rattle.cfi_io.proofs.HeldLemmas.{files_of-put}
use Rattle.cfi_io.proofs.mem_shelf.MemShelfShelf.write.Goals as goal

-- the pair is the last one
pub returns-clause-ok : goal.returns-clause-ok
returns-clause-ok c = files_of-put _ _ _ _ _ c.in_ok-push.ensures.items c.in_ok-name.ensures.ok (search rules)
