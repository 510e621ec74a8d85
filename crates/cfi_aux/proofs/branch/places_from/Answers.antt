use Rattle.std.proofs.lemmas.Result.{err_from_is_err_and}
use Rattle.cfi_aux.specs.Reading.{each}
use Rattle.cfi_aux.specs.Fault.{place_at}
use Rattle.cfi_aux.proofs.Each.{each_go_on, each_ends, each_done}
use Rattle.cfi_aux.proofs.branch.places_from.Goals as goal

pub returns-in_err-place : goal.returns-in_err-place
returns-in_err-place c =
    let p = err_from_is_err_and c.from_residual.result c.from_residual.ensures.1 in
    rw (p.1, p.2)
    (each_ends c.in_err-place.field-0.0 (place_at c.args.number) c.args.count c.loop-i._i c.loop-i.places.items
    c.loop-i.rest.now (each (place_at c.args.number) 0 c.args.count c.args.bytes.now) c.loop-i-test.true
    c.in_err-place.ensures c.loop-i.invariant)

pub loop-i-preserved : goal.loop-i-preserved
loop-i-preserved c =
    rw c.in_ok-push.ensures.items
    (each_go_on (place_at c.args.number) c.args.count c.loop-i._i c.loop-i.places.items c.loop-i.rest.now
    c.in_ok-place.place c.in_ok-place.after.now (each (place_at c.args.number) 0 c.args.count c.args.bytes.now)
    c.loop-i-test.true c.in_ok-place.ensures c.loop-i.invariant)

pub returns : goal.returns
returns c =
    each_done (place_at c.args.number) c.args.count c.loop-i._i c.loop-i.places.items c.loop-i.rest.now
    (each (place_at c.args.number) 0 c.args.count c.args.bytes.now) c.loop-i-test.false c.loop-i.invariant
