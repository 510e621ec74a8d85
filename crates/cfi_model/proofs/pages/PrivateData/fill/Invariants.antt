use Rattle.std.proofs.Common.{◌≡◌, take}
use Rattle.cfi_model.specs.Pages.{memory_filled}
use Rattle.cfi_model.proofs.pages.PrivateData.fill.Given as goal

abbrev pub invariant-loop-fill : goal.invariant-loop-fill
invariant-loop-fill l = l.self ≡ memory_filled l.initial.self (take l.fill-index l.fills)
