use Rattle.std.proofs.lemmas.Result.{err_from_is_err_and}
use Rattle.cfi_aux.specs.Reading.{each}
use Rattle.cfi_aux.specs.Fault.{function_at}
use Rattle.cfi_aux.proofs.Each.{each_go_on, each_ends, each_done}
use Rattle.cfi_aux.proofs.reading.RecordReader.functions_from.Goals as goal

pub returns-in_err-function : goal.returns-in_err-function
returns-in_err-function c =
    let one = function_at c.args.self.now.version c.args.self.now.types.now in
    let p = err_from_is_err_and c.from_residual.result c.from_residual.ensures.1 in
    rw (p.1, p.2)
    (each_ends c.in_err-function.field-0.0 one c.args.count c.loop-number.number
    c.loop-number.functions.items c.loop-number.rest.now
    (each one 0 c.args.count c.args.bytes.now) c.loop-number-test.true
    c.in_err-function.ensures c.loop-number.invariant)

pub loop-number-preserved : goal.loop-number-preserved
loop-number-preserved c =
    let one = function_at c.args.self.now.version c.args.self.now.types.now in
    rw c.in_ok-push.ensures.items
    (each_go_on one c.args.count c.loop-number.number c.loop-number.functions.items
    c.loop-number.rest.now c.in_ok-function.function c.in_ok-function.after.now
    (each one 0 c.args.count c.args.bytes.now) c.loop-number-test.true
    c.in_ok-function.ensures c.loop-number.invariant)

pub returns : goal.returns
returns c =
    let one = function_at c.args.self.now.version c.args.self.now.types.now in
    each_done one c.args.count c.loop-number.number c.loop-number.functions.items
    c.loop-number.rest.now (each one 0 c.args.count c.args.bytes.now)
    c.loop-number-test.false c.loop-number.invariant
