use Rattle.cfi_verify.specs.Example.{loop_module}
use Rattle.cfi_modules.proofs.ExampleLemmas.{series}
use Rattle.cfi_modules.proofs.laws.some_series_has_a_module.Goals as goal

pub returns : goal.returns
returns c = (loop_module, series)
