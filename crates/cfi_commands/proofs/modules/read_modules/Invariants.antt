use Rattle.std.proofs.Common.{◌≡◌, ◌++◌, All}
use Rattle.std.specs.Vec.Iter.{into_iter_items}
use Rattle.cfi_aux.specs.Sound.{IsSoundModule}
use Rattle.cfi_commands.specs.Modules.{AreModuleFiles}
use Rattle.cfi_commands.proofs.modules.read_modules.Given as goal

-- the files so far are these modules, and the others are still to come
abbrev pub invariant-loop-file : goal.invariant-loop-file
invariant-loop-file l = record {
  are : AreModuleFiles l.yielded l.modules.items;
  sound : All IsSoundModule l.modules.items;
  left : l.fn.files ≡ l.yielded ++ into_iter_items l.file-iterator;
}
