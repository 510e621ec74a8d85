use Rattle.cfi_type_table.proofs.Tables.{small_count, small_fields}
use Rattle.cfi_type_table.proofs.writing.read_can_be_written.Goals as goal

pub returns-clause-nodes : goal.returns-clause-nodes
returns-clause-nodes c = small_count

pub returns-clause-fields : goal.returns-clause-fields
returns-clause-fields c = small_fields
