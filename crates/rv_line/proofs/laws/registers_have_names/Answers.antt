use Rattle.std.proofs.Common.{refl}
use Rattle.std.specs.Fmt.{digits}
use Rattle.cfi_text.specs.Decimal.{number_in}
use Rattle.rv_line.specs.Register.{named_register}
use Rattle.rv_line.proofs.laws.registers_have_names.Goals as goal

pub returns-clause-abi : goal.returns-clause-abi
unfolding digits number_in named_register
returns-clause-abi c = refl

pub returns-clause-frame : goal.returns-clause-frame
unfolding named_register
returns-clause-frame c = refl
