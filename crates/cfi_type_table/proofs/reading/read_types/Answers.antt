use Rattle.std.proofs.Common.{ap, subst, ◌∙◌, arith}
use Rattle.cfi_type_table.specs.Reading.{ReadingGives, types_in}
use Rattle.cfi_type_table.proofs.Tables.{is_read, types_again}
use Rattle.cfi_type_table.proofs.reading.read_types.Goals as goal

pub returns-clause-ok : goal.returns-clause-ok
returns-clause-ok c = is_read c.args.bytes.now c.all_of.result (λ i. omega (arith, c.type_inv.bytes i)) c.all_of.ensures

pub returns-clause-only : goal.returns-clause-only
returns-clause-only c =
    λ xs types e. subst (λ f. ReadingGives (λ table. table) c.all_of.result f) (ap types_in e ∙ types_again xs types)
    c.all_of.ensures
