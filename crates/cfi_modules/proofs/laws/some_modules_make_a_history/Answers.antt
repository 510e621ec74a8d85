use Rattle.std.proofs.Common.{refl}
use Rattle.cfi_modules.proofs.TwoLemmas.{modules, two, growth, is_growth, has_numbers}
use Rattle.cfi_modules.proofs.laws.some_modules_make_a_history.Goals as goal

pub returns : goal.returns
returns c = (modules, growth, two, is_growth, has_numbers, refl, refl)
