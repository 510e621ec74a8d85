use Rattle.std.proofs.Common.{sym}
use Rattle.std.proofs.lemmas.Result.{err_from_is_err_and}
use Rattle.cfi_type_table.specs.Reading.{fields_at}
use Rattle.cfi_type_table.proofs.Fields.{fields_go_on, fields_end, fields_bad, fields_done}
use Rattle.cfi_type_table.proofs.reading.fields_from.Goals as goal

pub returns-in_err-word : goal.returns-in_err-word
returns-in_err-word c =
    let p = err_from_is_err_and c.from_residual-in_err-word.result c.from_residual-in_err-word.ensures.1 in
    rw (p.1, p.2)
    (fields_end c.in_err-word.field-0.0 c.args.number c.args.kind c.args.count c.loop-place.place
    c.loop-place.fields.items c.loop-place.rest.now
    (fields_at c.args.number c.args.kind 0 c.args.count c.args.bytes.now) c.loop-place-test.true
    c.in_err-word.ensures c.loop-place.invariant)

pub returns-then-not-may_be_field : goal.returns-then-not-may_be_field
returns-then-not-may_be_field c =
    fields_bad c.args.number c.args.kind c.args.count c.loop-place.place c.loop-place.fields.items
    c.loop-place.rest.now c.in_ok-word.word c.in_ok-word.after.now
    (fields_at c.args.number c.args.kind 0 c.args.count c.args.bytes.now) c.loop-place-test.true c.in_ok-word.ensures
    (sym c.if-not-may_be_field.ensures) c.loop-place.invariant

pub loop-place-preserved : goal.loop-place-preserved
loop-place-preserved c =
    rw c.in_ok-push.ensures.items
    (fields_go_on c.args.number c.args.kind c.args.count c.loop-place.place c.loop-place.fields.items
    c.loop-place.rest.now c.in_ok-word.word c.in_ok-word.after.now
    (fields_at c.args.number c.args.kind 0 c.args.count c.args.bytes.now) c.loop-place-test.true c.in_ok-word.ensures
    (sym c.if-not-may_be_field.ensures) c.loop-place.invariant)

pub returns : goal.returns
returns c =
    fields_done c.args.number c.args.kind c.args.count c.loop-place.place c.loop-place.fields.items
    c.loop-place.rest.now (fields_at c.args.number c.args.kind 0 c.args.count c.args.bytes.now)
    c.loop-place-test.false c.loop-place.invariant
