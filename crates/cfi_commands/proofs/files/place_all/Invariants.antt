use Rattle.std.proofs.Common.{◌≡◌, ◌++◌}
use Rattle.std.specs.Vec.Iter.{into_iter_items}
use Rattle.cfi_modules.specs.Order.{AreInOrder}
use Rattle.cfi_modules.specs.Series.{AreAllLive}
use Rattle.cfi_commands.proofs.files.place_all.Given as goal

-- the modules so far are placed in order, and the others are still to come
abbrev pub invariant-loop-unplaced : goal.invariant-loop-unplaced
invariant-loop-unplaced l =
    AreInOrder l.layout l.yielded l.series.placed × (l.series.code_words ≡ l.layout) × AreAllLive l.series
    × (l.fn.modules ≡ l.yielded ++ into_iter_items l.unplaced-iterator)
