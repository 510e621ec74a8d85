use Rattle.std.proofs.Common.{subst, arith}
use Rattle.cfi_aux.specs.Reading.{ReadingGives}
use Rattle.cfi_aux.proofs.Whole.{is_read, spelled_again}
use Rattle.cfi_aux.proofs.reading.read_records.Goals as goal

pub returns-clause-ok : goal.returns-clause-ok
returns-clause-ok c =
    is_read c.args.types.now c.args.bytes.now c.all_of.result (λ i. omega (arith, c.type_inv.bytes i)) c.all_of.ensures

pub returns-clause-only : goal.returns-clause-only
returns-clause-only c =
    λ records spells. subst (λ due. ReadingGives (λ found. found) c.all_of.result due)
    (spelled_again c.args.types.now c.args.bytes.now records spells) c.all_of.ensures
