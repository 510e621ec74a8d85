use Rattle.cfi_aux.proofs.VersionLemmas.{records-written}
use Rattle.cfi_aux.proofs.WrittenLemmas.{records-small}
use Rattle.cfi_aux.proofs.writing.read_can_be_written.Goals as goal

pub returns-clause-written : goal.returns-clause-written
returns-clause-written c = λ types records are. records-written types records are

pub returns-clause-sized : goal.returns-clause-sized
returns-clause-sized c = λ version types records are. records-small version types records are
