use Rattle.cfi_type_table.proofs.Tables.{types_again}
use Rattle.cfi_type_table.proofs.writing.written_is_read.Goals as goal

pub returns : goal.returns
returns c = types_again
