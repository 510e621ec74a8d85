use Rattle.std.proofs.Common.{All}
use Rattle.cfi_modules.specs.Series.{CanBeTaken}
use Rattle.cfi_threads.proofs.files.modules_of.Given as goal

-- the modules so far can be taken
abbrev pub invariant-loop-source : goal.invariant-loop-source
invariant-loop-source l = All CanBeTaken l.modules.items
