use Rattle.cfi_file_law.proofs.CallFileLemmas.{source-read, saved}
use Rattle.cfi_file_law.proofs.laws.some_call_is_saved.Goals as goal

pub returns-clause-read : goal.returns-clause-read
returns-clause-read c = source-read c.written_is_read.ensures

pub returns-clause-saved : goal.returns-clause-saved
returns-clause-saved c = saved c.written_is_read.ensures
