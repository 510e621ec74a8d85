use Rattle.std.proofs.Common.{arith}
use Rattle.std.proofs.lemmas.List.Folds.{length-flat_map-take}
use Rattle.cfi_valid.specs.Script.{calls_of}
use Rattle.cfi_engine.proofs.script.count_calls.Goals as goal

pub overflow_add-calls : goal.overflow_add-calls
overflow_add-calls c =
    omega (arith, length-flat_map-take calls_of c.args.script.now c.loop-line.line-index)
