use Rattle.cfi_aux.proofs.Whole.{records_again}
use Rattle.cfi_aux.proofs.writing.written_is_read.Goals as goal

pub returns : goal.returns
returns c = λ version types records are. records_again types version records are
