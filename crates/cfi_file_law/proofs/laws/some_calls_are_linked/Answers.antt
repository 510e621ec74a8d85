use Rattle.cfi_file_law.proofs.CallLinkedLemmas.{are-modules, are-read, linked, are-bytes, linked-file}
use Rattle.cfi_file_law.proofs.ShortLemmas.{linked-short}
use Rattle.cfi_file_law.proofs.laws.some_calls_are_linked.Goals as goal

pub returns-clause-short : goal.returns-clause-short
returns-clause-short c = linked-short

pub returns-clause-modules : goal.returns-clause-modules
returns-clause-modules c = are-modules

pub returns-clause-read : goal.returns-clause-read
returns-clause-read c = are-read c.written_is_read.ensures

pub returns-clause-linked : goal.returns-clause-linked
returns-clause-linked c = linked

pub returns-clause-bytes : goal.returns-clause-bytes
returns-clause-bytes c = are-bytes

pub returns-clause-files : goal.returns-clause-files
returns-clause-files c = linked-file c.written_is_read.ensures
