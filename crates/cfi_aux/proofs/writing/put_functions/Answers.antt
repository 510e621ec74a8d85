use Rattle.cfi_aux.specs.Records.{function_bytes}
use Rattle.cfi_aux.proofs.Appends.{one_more}
use Rattle.cfi_aux.proofs.writing.put_functions.Goals as goal

pub loop-function-preserved : goal.loop-function-preserved
loop-function-preserved c =
    one_more function_bytes c.args.functions.now c.loop-function.function-index c.function-item.result
    c.args.out.now.items c.loop-function.out.items c.put_function.new.out.items c.loop-function-test.true
    c.function-item.is c.loop-function.invariant c.in_ok-put_function.ensures
