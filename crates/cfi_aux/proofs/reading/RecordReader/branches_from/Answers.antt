use Rattle.std.proofs.lemmas.Result.{err_from_is_err_and}
use Rattle.std.proofs.Common.{◌+◌, rules}
use Rattle.cfi_aux.specs.Reading.{each}
use Rattle.cfi_aux.specs.Fault.{branch_at}
use Rattle.cfi_aux.proofs.Each.{each_begins, each_go_on, each_ends, each_done}
use Rattle.cfi_aux.proofs.reading.RecordReader.branches_from.Goals as goal

pub loop-number-init : goal.loop-number-init
loop-number-init c =
    let one = branch_at c.args.self.now.version c.args.self.now.types.now c.args.self.now.size in
    each_begins one c.args.first c.args.count c.new-branches.result.items
    c.args.bytes.now (search rules)

pub returns-in_err-branch : goal.returns-in_err-branch
returns-in_err-branch c =
    let one = branch_at c.args.self.now.version c.args.self.now.types.now c.args.self.now.size in
    let p = err_from_is_err_and c.from_residual.result c.from_residual.ensures.1 in
    rw (p.1, p.2)
    (each_ends c.in_err-branch.field-0.0 one (c.args.first + c.args.count)
    c.loop-number.number c.loop-number.branches.items c.loop-number.rest.now
    (each one c.args.first c.args.count c.args.bytes.now) c.loop-number-test.true
    c.in_err-branch.ensures c.loop-number.invariant)

pub loop-number-preserved : goal.loop-number-preserved
loop-number-preserved c =
    let one = branch_at c.args.self.now.version c.args.self.now.types.now c.args.self.now.size in
    rw c.in_ok-push.ensures.items
    (each_go_on one (c.args.first + c.args.count) c.loop-number.number
    c.loop-number.branches.items c.loop-number.rest.now c.in_ok-branch.branch c.in_ok-branch.after.now
    (each one c.args.first c.args.count c.args.bytes.now) c.loop-number-test.true
    c.in_ok-branch.ensures c.loop-number.invariant)

pub returns : goal.returns
returns c =
    let one = branch_at c.args.self.now.version c.args.self.now.types.now c.args.self.now.size in
    each_done one (c.args.first + c.args.count) c.loop-number.number
    c.loop-number.branches.items c.loop-number.rest.now
    (each one c.args.first c.args.count c.args.bytes.now) c.loop-number-test.false
    c.loop-number.invariant
