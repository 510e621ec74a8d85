use Rattle.std.proofs.Common.{rules, arith, sym}
use Rattle.cfi_text.proofs.DecimalLemmas.{IsDecimal-text, number_in-none, number_in-found}
use Rattle.cfi_text.proofs.decimal.read_dec.Goals as goal

pub returns-then-is_empty-clause-number : goal.returns-then-is_empty-clause-number
returns-then-is_empty-clause-number c = sym (number_in-none c.args.word.now (λ value fits is.
    let spelled = IsDecimal-text c.args.word.now value fits is in grind (arith, spelled)))

pub returns-clause-number : goal.returns-clause-number
returns-clause-number c =
    number_in-found c.args.word.now c.value_of.result (search rules) (search rules)
    (λ value fits is. grind (arith, is))
