use Rattle.std.proofs.Common.{arith}
use Rattle.cfi_aux.proofs.Whole.{is_read_within}
use Rattle.cfi_aux.proofs.reading.records_of_data.Goals as goal

pub returns-clause-ok : goal.returns-clause-ok
returns-clause-ok c =
    is_read_within c.args.types.now c.args.size c.args.bytes.now c.all_of.result
    (λ i. omega (arith, c.type_inv.bytes i)) c.all_of.ensures
