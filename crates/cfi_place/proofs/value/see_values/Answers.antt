use Rattle.std.proofs.Common.{◌<◌, ◌^◌, arith}
use Rattle.cfi_place.proofs.PlacingLemmas.{values-more}
use Rattle.cfi_place.proofs.value.see_values.Goals as goal

pub loop-symbol-preserved : goal.loop-symbol-preserved
loop-symbol-preserved c =
    let item = c.symbol-item.result in
    let fits : item.value < 2 ^ 32 = omega (arith, c.stored_value.ensures.same, c.stored_value.ensures.fits) in
    values-more c.args.symbols.now c.loop-symbol.symbol-index item c.loop-symbol-test.true c.symbol-item.is fits
    c.loop-symbol.invariant
